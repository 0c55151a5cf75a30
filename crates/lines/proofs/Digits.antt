-- The digits that `io::decimal` writes are the number in decimal.
use mathlib.Core.Path.{◌≡◌}
use mathlib.Core.List.{[], ◌∷◌}
use Prim.Native.Nat.{ℕ, zero, suc, ◌+◌, ◌-◌, ◌/◌, ◌%◌, ◌^◌, ◌≤◌, ◌<◌}
use native.Mathlib.Nat.{eq-zero-or-pos, pow-le-pow_right}
use native.Mathlib.Omega.{arith}
use mathlib.Core.Logic.{⊎_elim}
use borrow.Author.Tests.{lt-ltb, le-ltb}
use Rattle.io.specs.Digits.{last_digits, IsDigitCount, hex_digit_ascii}
use Rattle.lines.specs.Line.{spelled, decimal_of}

glyph-low : (d : ℕ) → d < 10 → hex_digit_ascii d ≡ 48 + d
glyph-low d h = simp (lt-ltb _ _ h)

-- k digits, of which none can go, are those that `spelled` writes
digits-spelled : (k f n : ℕ) → suc k ≤ f → n < 10 ^ suc k → (0 < k → 10 ^ k ≤ n) → last_digits 10 (suc k) n ≡ spelled f n
unfolding spelled
digits-spelled k zero n l h m = absurd (omega arith)
digits-spelled zero (suc f) n l h m =
    let s : n < 10 = omega arith in
    let e : n % 10 ≡ n = omega arith in
    rw e (simp (lt-ltb _ _ s))
digits-spelled (suc k) (suc f) n l h m =
    let low : 10 ^ suc k ≤ n = m (omega arith) in
    let p : 0 < 10 ^ k = positive k in
    let s : 10 ≤ n = omega arith in
    let ih = digits-spelled k f (n / 10) (omega arith) (omega arith) (λ z. omega arith) in
    rw (le-ltb n 10 s, ih, glyph-low (n % 10) (omega arith))
  where
    positive : (j : ℕ) → 0 < 10 ^ j
    positive zero = omega arith
    positive (suc j) = omega (arith, positive j)

-- a word has at most twenty digits
few : (k n : ℕ) → n < 2 ^ 64 → IsDigitCount 10 1 n k → k ≤ 20
few k n h w = ⊎_elim (λ z. omega arith) (λ z. over z) (eq-zero-or-pos (k - 20))
  where
    over : 0 < k - 20 → k ≤ 20
    over z =
        let q : 10 ^ 20 ≤ 10 ^ (k - 1) = pow-le-pow_right {n = 10} (omega arith) {i = 20} {j = k - 1} (omega arith) in
        let low : 10 ^ (k - 1) ≤ n = w.2 (omega arith) in
        absurd (omega arith)

pub digits_decimal : (k n : ℕ) → n < 2 ^ 64 → IsDigitCount 10 1 n k → last_digits 10 k n ≡ decimal_of n
unfolding decimal_of
digits_decimal zero n h w = absurd (omega arith)
digits_decimal (suc k) n h w =
    let e : suc k - 1 ≡ k = omega arith in
    let low : (0 < k → 10 ^ k ≤ n) = λ z. rw e at (w.2 (omega arith)) in
    digits-spelled k 20 n (few (suc k) n h w) w.1 low

-- a number of one digit
pub one-digit : (n : ℕ) → n < 10 → (48 + n) ∷ [] ≡ decimal_of n
unfolding decimal_of spelled
one-digit n h = simp (lt-ltb n 10 h)
