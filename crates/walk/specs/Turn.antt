-- What the next turn of a walk does (document 01, "The program"). Assumes nothing.
use Rattle.std.specs.Prelude.{ℕ, List, Bool, true, false, not, ◌&&◌, cond, eqb}
use Rattle.feed.specs.Feed.{held_of}
use Rattle.codec.specs.Steps.{size_of, decode_of}
use Rattle.codec.specs.declared.step.Step.{Step}
use Rattle.codec.specs.declared.step.Step.TheVariants.{Lay, Begin, Read, Write, Finish, Publish, Settle, Reclaim, Abandon, Cut}
use Rattle.codec.specs.declared.decoding.Found.{Found}
use Rattle.codec.specs.declared.decoding.Found.TheVariants.{Whole, Bad as Unknown, Short, End as Nothing}
use Rattle.turns.specs.State.{counted_of}
use Rattle.turns.specs.declared.state.State.{State}
use Rattle.turns.specs.declared.state.Next.{Next}
use Rattle.turns.specs.declared.state.Next.TheVariants.{Step as TakeStep, Open as ToOpen, Recover as ToRecover, Over, Failed, Stopped}
use Rattle.walk.specs.declared.turn.Turn.{Turn}
use Rattle.walk.specs.declared.turn.Turn.TheVariants.{Open, Recover, Fill, Call, Lay as LayOut, Bad, End, Flush, Fail}
use Rattle.walk.specs.declared.turn.Taken.{Taken}

-- a step other than 0 is bad where no image is laid: the first step has to be 0
abbrev pub call_turn : Step → Bool → Turn
call_turn step laid = cond laid (Call step) Bad

-- and a later step 0 is bad
abbrev pub step_turn : Step → Bool → Turn
step_turn (Lay n m) laid = cond laid Bad (LayOut n m)
step_turn (Begin s) laid = call_turn (Begin s) laid
step_turn (Read s r) laid = call_turn (Read s r) laid
step_turn (Write s r ws) laid = call_turn (Write s r ws) laid
step_turn (Finish s) laid = call_turn (Finish s) laid
step_turn (Publish s) laid = call_turn (Publish s) laid
step_turn (Settle s) laid = call_turn (Settle s) laid
step_turn (Reclaim s) laid = call_turn (Reclaim s) laid
step_turn (Abandon s) laid = call_turn (Abandon s) laid
step_turn (Cut k) laid = call_turn (Cut k) laid

-- an unknown kind and a short body are bad; the input may end before any step, the first too
abbrev pub found_turn : Found → Bool → Turn
found_turn (Whole step size) laid = step_turn step laid
found_turn Unknown laid = Bad
found_turn Short laid = Bad
found_turn Nothing laid = End

-- a turn that takes no step
abbrev pub aside_of : Turn → State → Taken
aside_of turn s = record { turn = turn; state = s }

-- the turn of what was found, and the state behind it; an image of size 0 is not laid yet
abbrev pub decoded_turn : Found → State → Taken
decoded_turn found s =
    record {
      turn = found_turn found (not (eqb s.size 0));
      state = counted_of s (size_of found);
    }

-- no whole step starts the bytes held: there are none, or the body is short
abbrev pub lacks_b : Found → Bool
lacks_b (Whole step size) = false
lacks_b Unknown = false
lacks_b Short = true
lacks_b Nothing = true

-- there are lines that were not written out
abbrev pub holds_b : State → Bool
holds_b s = not (eqb s.put 0)

-- a step is taken as soon as all of its bytes are there; without one the lines held are written out, and then, unless the input has ended,
-- more of it is waited for
abbrev pub read_turn : Found → State → Taken
read_turn found s =
    cond (lacks_b found && holds_b s) (aside_of Flush s)
    (cond (lacks_b found && not s.ended) (aside_of Fill s)
    (decoded_turn found s))

-- the next step starts the bytes held
unfoldable pub taken_of : List ℕ → State → Taken
taken_of input s = read_turn (decode_of (held_of input s.at s.have)) s

-- no more steps are taken: the lines held are written out, and then the walk ends
abbrev pub over_turn : State → Taken
over_turn s = cond (holds_b s) (aside_of Flush s) (aside_of End s)

-- the next step is read and taken, an image that was laid or recovered is opened, a lost desk is recovered, a walk that takes no more steps
-- writes its lines out and ends, a write that failed is told; a walk that has stopped makes no turn (`Walked`)
abbrev pub turn_at : Next → List ℕ → State → Taken
turn_at TakeStep input s = taken_of input s
turn_at ToOpen input s = aside_of Open s
turn_at ToRecover input s = aside_of Recover s
turn_at Over input s = over_turn s
turn_at Failed input s = aside_of Fail s
turn_at Stopped input s = over_turn s

-- the turn that comes, by what comes next
unfoldable pub turn_of : List ℕ → State → Taken
turn_of input s = turn_at s.next input s
