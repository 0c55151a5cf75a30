-- The numbers of the table are document 01's formulas.
use Prim.Native.Nat.{ℕ, zero, suc, ◌+◌, ◌*◌, ◌≤◌}
use mathlib.Core.Path.{◌≡◌, refl}
use native.Mathlib.Omega.{arith}
use borrow.Author.Tests.{ne_eqb}
use Rattle.journal.specs.Lengths.{by_copies, finish_length, settle_length, recover_length}

-- a row whose numbers are those of a formula
row_is : (a b c : ℕ) → 1 ≤ c → c ≤ 4 → by_copies c (a * 1 + b) (a * 2 + b) (a * 3 + b) (a * 4 + b) ≡ a * c + b
row_is a b zero l h = absurd (omega (arith, l))
row_is a b (suc zero) l h = refl
row_is a b (suc (suc zero)) l h = refl
row_is a b (suc (suc (suc zero))) l h = refl
row_is a b (suc (suc (suc (suc zero)))) l h = refl
row_is a b (suc (suc (suc (suc (suc c))))) l h = absurd (omega (arith, h))

pub finish-formula : (c : ℕ) → 1 ≤ c → c ≤ 4 → finish_length c ≡ 5 * c + 4
unfolding finish_length
finish-formula = row_is 5 4

pub settle-formula : (c : ℕ) → 1 ≤ c → c ≤ 4 → settle_length c ≡ 4 * c + 1
unfolding settle_length
settle-formula = row_is 4 1

pub recover-formula : (c : ℕ) → 1 ≤ c → c ≤ 4 → recover_length c ≡ 4 * c + 3
unfolding recover_length
recover-formula = row_is 4 3

-- past the four cases
pub no_row : (c one two three four : ℕ) → ((((Unit {0}) × (c ≡ 1 → ⊥)) × (c ≡ 2 → ⊥)) × (c ≡ 3 → ⊥)) × (c ≡ 4 → ⊥)
    → 0 ≡ by_copies c one two three four
no_row c one two three four n =
    simp (ne_eqb _ 1 n.0.0.0.1, ne_eqb _ 2 n.0.0.1, ne_eqb _ 3 n.0.1, ne_eqb _ 4 n.1)
