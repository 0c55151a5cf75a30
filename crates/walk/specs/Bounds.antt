-- What holds of a walk's state from turn to turn. Assumes nothing.
use Rattle.std.specs.Prelude.{ℕ, ◌+◌, ◌-◌, ◌≤◌, ◌<◌, ◌≡◌}
use Rattle.turns.specs.declared.state.State.{State}
use Rattle.walk.specs.declared.turn.Turn.{Turn}
use Rattle.walk.specs.declared.turn.Turn.TheVariants.{Open, Recover, Fill, Call, Lay, Bad, End, Flush, Fail}
use Rattle.walk.specs.declared.turn.Taken.{Taken}

-- the places lie within buffers of these lengths, and the input's holds the longest step: a write's kind and its 34 bytes of body
pub record Within (s : State) (input output image : ℕ) : Type 0 where
  pub longest : 35 ≤ input
  pub from : s.at ≤ s.have
  pub held : s.have ≤ input
  pub written : s.put ≤ output
  pub sized : s.size ≤ image

-- a turn that reads holds less than the longest step
abbrev pub Starved : Turn → ℕ → Type 0
Starved Open held = Unit {0}
Starved Recover held = Unit {0}
Starved Fill held = held < 35
Starved (Call step) held = Unit {0}
Starved (Lay n m) held = Unit {0}
Starved Bad held = Unit {0}
Starved End held = Unit {0}
Starved Flush held = Unit {0}
Starved Fail held = Unit {0}

-- the turn that comes leaves the state as it is, but for the step that it takes
pub record Comes (s : State) (t : Taken) : Type 0 where
  pub from : t.state.at ≤ t.state.have
  pub held : t.state.have ≡ s.have
  pub written : t.state.put ≡ s.put
  pub sized : t.state.size ≡ s.size
  pub numbered : t.state.number ≤ s.number + 1
  pub starved : Starved t.turn (t.state.have - t.state.at)
