-- Eight bytes are the number that they have lowest byte first.
use Rattle.std.proofs.Common.{◌≡◌, ℕ, ◌≤◌, List, [], ◌∷◌, length, take, arith}
use Rattle.std.specs.Int.{w64, from_le_bytes}
use Rattle.codec.specs.Bytes.{little}

pub little_eight : (s : List ℕ) → 8 ≤ length s → from_le_bytes w64 (take 8 s) ≡ little 8 s
unfolding little
little_eight [] l = absurd (omega arith)
little_eight (a ∷ []) l = absurd (omega arith)
little_eight (a ∷ b ∷ []) l = absurd (omega arith)
little_eight (a ∷ b ∷ c ∷ []) l = absurd (omega arith)
little_eight (a ∷ b ∷ c ∷ d ∷ []) l = absurd (omega arith)
little_eight (a ∷ b ∷ c ∷ d ∷ e ∷ []) l = absurd (omega arith)
little_eight (a ∷ b ∷ c ∷ d ∷ e ∷ f ∷ []) l = absurd (omega arith)
little_eight (a ∷ b ∷ c ∷ d ∷ e ∷ f ∷ g ∷ []) l = absurd (omega arith)
little_eight (a ∷ b ∷ c ∷ d ∷ e ∷ f ∷ g ∷ h ∷ s) l = omega arith
