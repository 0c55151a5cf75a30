-- What the turns of a walk leave, from what their parts ensure.
use Prim.Native.Nat.{ℕ, ◌+◌}
use mathlib.Core.Bool.{Bool, false}
use mathlib.Core.List.{List, ◌++◌}
use mathlib.Core.Path.{◌≡◌, ap, ◌∙◌}
use lib.ListN.{length, drop}
use Rattle.layout.specs.Entries.{made}
use Rattle.layout.specs.Told.{lay_told}
use Rattle.desk.specs.declared.state.Desk.{Desk}
use Rattle.codec.specs.declared.step.Step.{Step}
use Rattle.lines.specs.Result.{step_line, bad_line}
use Rattle.steps.specs.Apply.{outcome_of, applied_of, applied_entries}
use Rattle.steps.specs.declared.applying.Applied.{Applied}
use Rattle.recovery.specs.Recover.{recover_reply, recover_entries}
use Rattle.codec.specs.declared.step.Step.TheVariants.{Lay}
use Rattle.turns.specs.Make.{image_size, arrives_of, is_cut_b, shown_of, told_of, bad_of, resumed_line, resumed_of, laying, laid_of, memory_of, PutsLine}
use Rattle.walk.specs.Walk.{Heard, Work, image_of, with_image, printed, recovering, laying_out, called}
use Rattle.turns.specs.declared.state.State.{State}

-- a line that was put, and the state after it
pub printed-by : (w : Work) (line : List ℕ) (after : ℕ → State) {out : List ℕ} {r : State} → PutsLine line w.state after w.output out r
    → record { memory = w.memory; output = out; state = r } ≡ printed w line after
printed-by w line after {r = r} p = let e : r ≡ after (w.state.put + length line) = p.1 ∙ ap after p.0.next in rw (p.0.wrote, e)

-- a step that was made, and its line
pub called-by : (len : ℕ) (d : Desk) (step : Step) (w : Work) {a : Applied} {img out : List ℕ} {r : State}
    → a ≡ applied_of (image_of w) d len step
    → img ≡ made (arrives_of w.state step (applied_entries (image_of w) d len step)) (image_of w)
    → PutsLine (step_line w.state.number step (shown_of a.outcome (is_cut_b w.state step) a.entries)) w.state (told_of w.state step) w.output out r
    → record { memory = img ++ drop w.state.size w.memory; output = out; state = r } ≡ called len d step w
called-by len d step w e i p =
    rw i (printed-by (with_image w (made (arrives_of w.state step (applied_entries (image_of w) d len step)) (image_of w))) _ (told_of w.state step) (rw e at p))

-- a call of recover, and its line
pub recovered-by : (len : ℕ) (w : Work) {img out : List ℕ} {r : State}
    → PutsLine (resumed_line w.state.number (recover_reply (image_of w) len).answer) w.state (resumed_of w.state (recover_reply (image_of w) len).answer) w.output out r
    → img ≡ made (recover_entries (image_of w) len) (image_of w)
    → record { memory = img ++ drop w.state.size w.memory; output = out; state = r } ≡ recovering len w
recovered-by len w p i = rw i (printed-by (with_image w (made (recover_entries (image_of w) len) (image_of w))) _ (resumed_of w.state (recover_reply (image_of w) len).answer) p)

-- the memory that was laid, and the line of step 0
pub laid-out-by : (n m : ℕ) (w : Work) {memory out : List ℕ} {r : State}
    → PutsLine (step_line w.state.number (Lay n m) (outcome_of (lay_told (laying w.memory n m)))) w.state (laid_of w.state (image_size (length w.memory) n m) (laying w.memory n m)) w.output out r
    → memory ≡ memory_of w.memory n m → record { memory = memory; output = out; state = r } ≡ laying_out n m w
laid-out-by n m w p i = rw i (printed-by (record { memory = memory_of w.memory n m; output = w.output; state = w.state }) _ (laid_of w.state (image_size (length w.memory) n m) (laying w.memory n m)) p)

-- what is heard in a turn that asks the operating system for nothing
abbrev pub nothing_heard : List ℕ → Heard
nothing_heard input = record { input = input; came = 0; failed = false }

-- and in one that writes
abbrev pub heard_written : List ℕ → Bool → Heard
heard_written input failed = record { input = input; came = 0; failed = failed }

-- the line "bad"
pub bad-by : (w : Work) {out : List ℕ} {r : State} → PutsLine (bad_line w.state.number) w.state (bad_of w.state) w.output out r
    → record { memory = w.memory; output = out; state = r } ≡ printed w (bad_line w.state.number) (bad_of w.state)
bad-by w p = printed-by w _ (bad_of w.state) p
