-- A walk, turn by turn (document 01, "The program"): what one turn leaves of the input, the image, the lines, the desk and the state, and
-- what a whole walk leaves.
use Rattle.std.specs.Prelude.{ℕ, zero, suc, ◌+◌, ◌-◌, ◌<◌, Bool, cond, List, ◌++◌, ◌≡◌, ◌≢◌, ◌⊎◌, length, take, drop, ltb}
use Rattle.layout.specs.Entries.{made}
use Rattle.layout.specs.Told.{lay_told}
use Rattle.recovery.specs.Open.{open_reply, open_entries}
use Rattle.recovery.specs.Recover.{recover_reply, recover_entries}
use Rattle.desk.specs.declared.state.Desk.{Desk}
use Rattle.feed.specs.Feed.{Refilled}
use Rattle.codec.specs.declared.step.Step.{Step}
use Rattle.codec.specs.declared.step.Step.TheVariants.{Lay as LayStep}
use Rattle.lines.specs.Put.{put}
use Rattle.lines.specs.Result.{step_line, bad_line}
use Rattle.steps.specs.Apply.{outcome_of, applied_of, applied_entries}
use Rattle.steps.specs.declared.applying.Applied.{Applied}
use Rattle.turns.specs.State.{written_of, filled_of, stopped_of, opened_of}
use Rattle.turns.specs.Output.{lost_text}
use Rattle.turns.specs.Make.{image_size, arrives_of, is_cut_b, shown_of, told_of, bad_of, resumed_line, resumed_of, laying, laid_of}
use Rattle.turns.specs.Make.{memory_of}
use Rattle.walk.specs.Turn.{aside_of, turn_of}
use Rattle.turns.specs.declared.state.State.{State}
use Rattle.turns.specs.declared.state.Next.TheVariants.{Stopped}
use Rattle.walk.specs.declared.turn.Turn.{Turn}
use Rattle.walk.specs.declared.turn.Turn.TheVariants.{Open, Recover, Fill, Call, Lay, Bad, End, Flush, Fail}
use Rattle.walk.specs.declared.turn.Taken.{Taken}

-- what the operating system answered in a turn: the input buffer as a read left it and the number of bytes that came, and whether a write
-- failed
pub record Heard : Type 0 where
  pub input : List ℕ
  pub came : ℕ
  pub failed : Bool

-- what a turn works on beside the input and the desk: the memory that holds the image, the buffer of the lines, and the state
pub record Work : Type 0 where
  pub memory : List ℕ
  pub output : List ℕ
  pub state : State

-- the image: as many words of the memory as the state says
abbrev pub image_of : Work → List ℕ
image_of w = take w.state.size w.memory

-- the work in another state, and with another image
abbrev pub in_state : Work → State → Work
in_state w s = record { memory = w.memory; output = w.output; state = s }

abbrev pub with_image : Work → List ℕ → Work
with_image w img = record { memory = img ++ drop w.state.size w.memory; output = w.output; state = w.state }

-- one line more behind the lines so far; the state is then the one that the rule gives for where the line ends
abbrev pub printed : Work → List ℕ → (ℕ → State) → Work
printed w line after =
    record { memory = w.memory; output = put w.state.put line w.output; state = after (w.state.put + length line) }

-- one call of recover, its line, and the state after it; `len` is the trace's length
abbrev pub recovering : ℕ → Work → Work
recovering len w =
    printed (with_image w (made (recover_entries (image_of w) len) (image_of w)))
    (resumed_line w.state.number (recover_reply (image_of w) len).answer)
    (resumed_of w.state (recover_reply (image_of w) len).answer)

-- step 0: the memory is laid
abbrev pub laying_out : ℕ → ℕ → Work → Work
laying_out n m w =
    printed (record { memory = memory_of w.memory n m; output = w.output; state = w.state })
    (step_line w.state.number (LayStep n m) (outcome_of (lay_told (laying w.memory n m))))
    (laid_of w.state (image_size (length w.memory) n m) (laying w.memory n m))

-- the lines are written out, and a write that fails is told in the next turn
abbrev pub flushing : Heard → Work → Work
flushing h w = in_state w (written_of w.state h.failed)

-- lines were lost: that is said on standard error, by way of the lines' buffer, and the walk stops
abbrev pub failing : Work → Work
failing w = record { memory = w.memory; output = put 0 lost_text w.output; state = stopped_of w.state }

-- a turn that leaves the desk as it is; the others do nothing here
abbrev pub aside : ℕ → Heard → Turn → Work → Work
aside len h Open w = w
aside len h Recover w = recovering len w
aside len h Fill w = in_state w (filled_of w.state h.came)
aside len h (Call step) w = w
aside len h (Lay n m) w = laying_out n m w
aside len h Bad w = printed w (bad_line w.state.number) (bad_of w.state)
aside len h End w = in_state w (stopped_of w.state)
aside len h Flush w = flushing h w
aside len h Fail w = failing w

-- a step on the opened store: of its entries those arrive that a cut lets arrive, and its line is told
abbrev pub calling : Step → Applied → Work → Work → Work
calling step a w v =
    printed v (step_line w.state.number step (shown_of a.outcome (is_cut_b w.state step) a.entries))
    (told_of w.state step)

abbrev pub called : ℕ → Desk → Step → Work → Work
called len d step w =
    calling step (applied_of (image_of w) d len step) w
    (with_image w (made (arrives_of w.state step (applied_entries (image_of w) d len step)) (image_of w)))

-- the work after a turn
abbrev pub work_after : ℕ → Heard → Turn → Desk → Work → Work
work_after len h Open d w = in_state (with_image w (made (open_entries (image_of w) len) (image_of w))) (opened_of w.state)
work_after len h Recover d w = aside len h Recover w
work_after len h Fill d w = aside len h Fill w
work_after len h (Call step) d w = called len d step w
work_after len h (Lay n m) d w = aside len h (Lay n m) w
work_after len h Bad d w = aside len h Bad w
work_after len h End d w = aside len h End w
work_after len h Flush d w = aside len h Flush w
work_after len h Fail d w = aside len h Fail w

-- the desk after a turn: an opening gives it, a call changes it
abbrev pub desk_turned : ℕ → Turn → Desk → Work → Desk
desk_turned len Open d w = (open_reply (image_of w) len).desk
desk_turned len Recover d w = d
desk_turned len Fill d w = d
desk_turned len (Call step) d w = (applied_of (image_of w) d len step).desk
desk_turned len (Lay n m) d w = d
desk_turned len Bad d w = d
desk_turned len End d w = d
desk_turned len Flush d w = d
desk_turned len Fail d w = d

-- a read asks for a byte at least, keeps the bytes held and brings others behind them; no other turn touches the input
abbrev pub Fed : Turn → State → List ℕ → Heard → Type 0
Fed Open s input h = h.input ≡ input
Fed Recover s input h = h.input ≡ input
Fed Fill s input h = (s.have - s.at < length input) × Refilled input s.at s.have h.input h.came
Fed (Call step) s input h = h.input ≡ input
Fed (Lay n m) s input h = h.input ≡ input
Fed Bad s input h = h.input ≡ input
Fed End s input h = h.input ≡ input
Fed Flush s input h = h.input ≡ input
Fed Fail s input h = h.input ≡ input

-- a turn that leaves the desk as it is, with some answer of the operating system
abbrev pub OtherTurn : ℕ → Turn → List ℕ → Work → List ℕ → Work → Type 0
OtherTurn len turn input w input' w' = (h : Heard) × Fed turn w.state input h × (input' ≡ h.input) × (w' ≡ aside len h turn w)

-- all that a walk goes by
pub record Scene : Type 0 where
  pub input : List ℕ
  pub work : Work
  pub desk : Desk

abbrev pub scene_of : List ℕ → List ℕ → List ℕ → Desk → State → Scene
scene_of input memory output d s = record { input = input; work = record { memory = memory; output = output; state = s }; desk = d }

-- there may be too little room for a line: less than 256 bytes are left of the output
abbrev pub full_b : Work → Bool
full_b w = ltb (length w.output - w.state.put) 256

-- the turn that comes: the lines are written out where there is little room for one more
abbrev pub next_of : Scene → Taken
next_of w = cond (full_b w.work) (aside_of Flush w.work.state) (turn_of w.input w.work.state)

-- what a turn leaves, by what the operating system answered
abbrev pub turned : ℕ → Heard → Scene → Scene
turned len h w =
    record {
      input = h.input;
      work = work_after len h (next_of w).turn w.desk (in_state w.work (next_of w).state);
      desk = desk_turned len (next_of w).turn w.desk (in_state w.work (next_of w).state);
    }

-- w' is what a turn leaves of w, with some answer of the operating system
abbrev pub OneTurn : ℕ → Scene → Scene → Type 0
OneTurn len w w' = (h : Heard) × Fed (next_of w).turn (next_of w).state w.input h × (w' ≡ turned len h w)

-- w is what n turns leave of u, none of them made once the walk had stopped
unfoldable pub Walked : ℕ → ℕ → Scene → Scene → Type 0
Walked len zero u w = u ≡ w
Walked len (suc n) u w = (v : Scene) × Walked len n u v × (v.work.state.next ≢ Stopped) × OneTurn len v w

-- the most turns of a walk
abbrev pub most_turns : ℕ
most_turns = 18_446_744_073_709_551_614

-- a whole walk: turn after turn, until one stops it or the most turns are made
abbrev pub WholeWalk : ℕ → Scene → Scene → Type 0
WholeWalk len u w = (n : ℕ) × Walked len n u w × ((w.work.state.next ≡ Stopped) ⊎ (n ≡ most_turns))

-- a whole walk leaves these in its buffers
abbrev pub Leaves : ℕ → Scene → List ℕ → List ℕ → List ℕ → Type 0
Leaves len u input memory output =
    (w : Scene) × WholeWalk len u w × (input ≡ w.input) × (memory ≡ w.work.memory) × (output ≡ w.work.output)
