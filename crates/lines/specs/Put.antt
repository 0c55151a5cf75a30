-- Bytes put into a lent buffer from a place on: the contract of every function that writes.
use Rattle.std.specs.Prelude.{◌≡◌, List, [], ◌∷◌, ℕ, ◌+◌, length, set}

-- the buffer with the bytes from the place `at` on, as the code stores them
abbrev pub put : ℕ → List ℕ → List ℕ → List ℕ
put at [] out = out
put at (b ∷ bs) out = put (at + 1) bs (set out at b)

-- the bytes were put, and the next place is r
pub record Put (bs : List ℕ) (at : ℕ) (out out' : List ℕ) (r : ℕ) : Type 0 where
  pub wrote : out' ≡ put at bs out
  pub next : r ≡ at + length bs
