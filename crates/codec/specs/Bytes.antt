-- Numbers in bytes (document 01, "The program"): lowest byte first.
use Rattle.std.specs.Prelude.{ℕ, zero, suc, ◌+◌, ◌*◌, List, [], ◌∷◌}

-- the number in the first k bytes, lowest byte first
unfoldable pub little : ℕ → List ℕ → ℕ
little zero s = 0
little (suc k) [] = 0
little (suc k) (b ∷ s) = b + 256 * little k s
