-- A walk's state, changed in one respect (document 01, "The program"). Assumes nothing.
use Rattle.std.specs.Prelude.{ℕ, ◌+◌, ◌-◌, Bool, cond, eqb, Option, Some, None}
use Rattle.turns.specs.declared.state.State.{State}
use Rattle.turns.specs.declared.state.Next.{Next}
use Rattle.turns.specs.declared.state.Next.TheVariants.{Step, Open, Recover, Over, Failed, Stopped}

-- a walk starts before the first step, with no image
abbrev pub first_state : ℕ → Bool → State
first_state have ended =
    record {
      at = 0;
      have = have;
      put = 0;
      size = 0;
      number = 0;
      cut = None;
      ended = ended;
      next = Step;
    }

-- ---- one part changed

-- what is read and held of the input, where the lines end, and the number of steps
abbrev pub placed : State → ℕ → ℕ → ℕ → ℕ → State
placed s at have put number =
    record {
      at = at;
      have = have;
      put = put;
      size = s.size;
      number = number;
      cut = s.cut;
      ended = s.ended;
      next = s.next;
    }

-- the image's size, and the cut that waits
abbrev pub planned : State → ℕ → Option ℕ → State
planned s size cut =
    record {
      at = s.at;
      have = s.have;
      put = s.put;
      size = size;
      number = s.number;
      cut = cut;
      ended = s.ended;
      next = s.next;
    }

-- whether the input has ended
abbrev pub with_ended : State → Bool → State
with_ended s ended =
    record {
      at = s.at;
      have = s.have;
      put = s.put;
      size = s.size;
      number = s.number;
      cut = s.cut;
      ended = ended;
      next = s.next;
    }

-- what comes next
abbrev pub with_next : State → Next → State
with_next s next =
    record {
      at = s.at;
      have = s.have;
      put = s.put;
      size = s.size;
      number = s.number;
      cut = s.cut;
      ended = s.ended;
      next = next;
    }

-- ---- the changes

-- behind a step of this many bytes; the lines count the steps from 1
abbrev pub counted_of : State → ℕ → State
counted_of s bytes = placed s (s.at + bytes) s.have s.put (s.number + 1)

-- the lines end at p
abbrev pub put_of : State → ℕ → State
put_of s p = placed s s.at s.have p s.number

-- what comes next behind a write that was done: it takes the failure of one before it away
abbrev pub unfailed : Next → Next
unfailed Step = Step
unfailed Open = Open
unfailed Recover = Recover
unfailed Over = Over
unfailed Failed = Step
unfailed Stopped = Stopped

-- the lines were written out, or the write failed
abbrev pub written_of : State → Bool → State
written_of s failed = with_next (put_of s 0) (cond failed Failed (unfailed s.next))

-- the bytes held stand first, with `came` more behind them; the input has ended where none came
abbrev pub filled_of : State → ℕ → State
filled_of s came = with_ended (placed s 0 (s.have - s.at + came) s.put s.number) (eqb came 0)

-- no more steps are taken
abbrev pub over_of : State → State
over_of s = with_next s Over

-- the walk stops
abbrev pub stopped_of : State → State
stopped_of s = with_next s Stopped

-- the image is laid, has this size and is to be opened
abbrev pub sized_of : State → ℕ → State
sized_of s size = with_next (planned s size s.cut) Open

-- what comes next behind an opening; what else was to come stays
abbrev pub past_open : Next → Next
past_open Step = Step
past_open Open = Step
past_open Recover = Recover
past_open Over = Over
past_open Failed = Failed
past_open Stopped = Stopped

-- the image is opened
abbrev pub opened_of : State → State
opened_of s = with_next s (past_open s.next)

-- a cut after k entries waits for the next step that stores
abbrev pub cut_at : State → ℕ → State
cut_at s k = planned s s.size (Some k)

-- after a cut the desk is lost, and no other cut waits
abbrev pub lost_of : State → State
lost_of s = with_next (planned s s.size None) Recover

-- the recovery is over, and the image is to be opened
abbrev pub clean_of : State → State
clean_of s = with_next s Open
