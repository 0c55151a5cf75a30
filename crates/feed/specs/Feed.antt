-- Input through a buffer: what is held of it, and what one read leaves in the buffer.
use Rattle.std.specs.Prelude.{ℕ, ◌+◌, ◌-◌, ◌≤◌, List, ◌≡◌, length, take, drop}

-- the bytes held: those from `at` to `have` of the buffer
abbrev pub held_of : List ℕ → ℕ → ℕ → List ℕ
held_of buf at have = take (have - at) (drop at buf)

-- the bytes that were held stand first, and behind them the `came` bytes that a read brought
pub record Refilled (buf : List ℕ) (at have : ℕ) (buf' : List ℕ) (came : ℕ) : Type 0 where
  pub kept : take (have - at) buf' ≡ held_of buf at have
  pub fits : have - at + came ≤ length buf
