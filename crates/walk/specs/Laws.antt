-- What the turns of a walk come to (document 01, "The program"), said of the turn that comes.
use Rattle.std.specs.Prelude.{ℕ, Bool, true, false, ◌≡◌}
use Rattle.codec.specs.declared.step.Step.{Step}
use Rattle.codec.specs.declared.step.Step.TheVariants.{Lay as LayStep}
use Rattle.codec.specs.declared.decoding.Found.TheVariants.{Whole, Bad as Unknown, Short}
use Rattle.codec.specs.declared.decoding.Found.{Found}
use Rattle.turns.specs.declared.state.State.{State}
use Rattle.turns.specs.declared.state.Next.TheVariants.{Failed}
use Rattle.walk.specs.Turn.{call_turn, step_turn, found_turn, decoded_turn, read_turn}
use Rattle.walk.specs.Walk.{Scene, full_b, next_of}
use Rattle.walk.specs.declared.turn.Turn.TheVariants.{Fill, Call, Lay, Bad, End, Fail}

pub record TurnLaws : Type 0 where
  -- a whole step is taken at once, whatever lines are held and whether or not more input may come
  pub whole-taken : (d : Found) (s : State) (step : Step) (size : ℕ) → d ≡ Whole step size → read_turn d s ≡ decoded_turn d s
  -- the first step is 0 and no later one is; an unknown kind is bad
  pub lay-once : (n m : ℕ) → (step_turn (LayStep n m) false ≡ Lay n m) × (step_turn (LayStep n m) true ≡ Bad)
  pub call-later : (step : Step) → (call_turn step false ≡ Bad) × (call_turn step true ≡ Call step)
  pub unknown-bad : (laid : Bool) → found_turn Unknown laid ≡ Bad
  -- a step that is taken though its body is short: the input had ended; and it is then bad
  pub short-ended : (d : Found) (s : State) → d ≡ Short → (read_turn d s).turn ≡ Bad → s.ended ≡ true
  pub short-bad : (d : Found) (s : State) → d ≡ Short → s.ended ≡ true → s.put ≡ 0 → (read_turn d s).turn ≡ Bad
  -- more input is waited for, and the walk ends, with no lines held
  pub waits-bare : (w : Scene) → (next_of w).turn ≡ Fill → (w.work.state.put ≡ 0) × (w.work.state.ended ≡ false)
  pub ends-bare : (w : Scene) → (next_of w).turn ≡ End → w.work.state.put ≡ 0
  -- a write that failed is told
  pub failed-told : (w : Scene) → full_b w.work ≡ false → w.work.state.next ≡ Failed → (next_of w).turn ≡ Fail
