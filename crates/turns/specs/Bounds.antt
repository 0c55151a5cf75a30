-- What holds of a walk's state where a line is put, and after it.
use Rattle.std.specs.Prelude.{ℕ, ◌+◌, ◌≤◌, ◌≡◌}
use Rattle.turns.specs.declared.state.State.{State}

-- there is room for a line, and the image lies within its memory
pub record Ready (s : State) (output image : ℕ) : Type 0 where
  pub room : s.put + 256 ≤ output
  pub sized : s.size ≤ image

-- the input and the number are as they were; the lines and the image end within these bounds
pub record Follows (s r : State) (output image : ℕ) : Type 0 where
  pub from : r.at ≡ s.at
  pub held : r.have ≡ s.have
  pub numbered : r.number ≡ s.number
  pub written : r.put ≤ output
  pub sized : r.size ≤ image
