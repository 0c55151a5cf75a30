-- How many numbers below n a test holds of.
use Prim.Native.Nat.{ℕ, zero, suc, ◌+◌, ◌<◌}
use mathlib.Core.Bool.{Bool, false, cond}
use mathlib.Core.Path.{◌≡◌, refl, sym, ap, subst}
use native.Mathlib.Nat.{not-suc-le-zero}
use native.Mathlib.Omega.{arith}
use lib.Dec.{eqb}
use borrow.Author.Tests.{eqb-true, eqb-false}
use Rattle.layout.specs.Below.{count_below}
use Rattle.layout.proofs.BelowLaws.{count_most}
use Rattle.layout.proofs.Says.{by-test}

-- two numbers are equal, or not
pub by-same : {P : Type 0} (i j : ℕ) → (i ≡ j → P) → ((i ≡ j → ⊥) → P) → P
by-same i j f g = by-test (eqb i j) (λ y. f (eqb-true i j y)) (λ y. g (eqb-false i j y))

-- counts of tests that agree
pub count_same : (p q : ℕ → Bool) (n : ℕ) → ((t : ℕ) → t < n → p t ≡ q t) → count_below n p ≡ count_below n q
unfolding count_below
count_same p q zero same = refl
count_same p q (suc n) same = rw (count_same p q n (λ t l. same t (omega arith)), same n (omega arith))

-- what a test adds to a count
abbrev pub adds : Bool → ℕ
adds b = cond b 1 0

-- counts of tests that agree but for i
pub count-changed : (p q : ℕ → Bool) (i : ℕ) → ((t : ℕ) → (t ≡ i → ⊥) → p t ≡ q t) → (n : ℕ) → i < n → count_below n p + adds (q i) ≡ count_below n q + adds (p i)
unfolding count_below
count-changed p q i same zero l = absurd (not-suc-le-zero l)
count-changed p q i same (suc n) l =
    by-same i n
    (λ z. let c = count_same p q n (λ t u. same t (λ y. omega arith)) in
    let a = ap (λ (t : ℕ). adds (p t)) z in
    let b = ap (λ (t : ℕ). adds (q t)) z in
    omega arith)
    (λ ne. let c = count-changed p q i same n (omega arith) in
    let a = ap adds (same n (λ z. ne (sym z))) in
    omega arith)

-- a test that holds of none
pub count_none : (p : ℕ → Bool) (n : ℕ) → count_below n p ≡ 0 → (i : ℕ) → i < n → p i ≡ false
unfolding count_below
count_none p zero z i l = absurd (not-suc-le-zero l)
count_none p (suc n) z i l =
    by-test (p n)
    (λ t. absurd (let a = ap adds t in omega arith))
    (λ f. by-same i n
    (λ q. subst (λ (k : ℕ). p k ≡ false) (sym q) f)
    (λ ne. count_none p n (omega arith) i (omega arith)))

-- a test that does not hold of all
pub count_less : (p : ℕ → Bool) (n i : ℕ) → i < n → p i ≡ false → count_below n p < n
unfolding count_below
count_less p zero i l f = absurd (not-suc-le-zero l)
count_less p (suc n) i l f =
    by-same i n
    (λ q. let a = ap adds (subst (λ (k : ℕ). p k ≡ false) q f) in omega (arith, count_most p n))
    (λ ne. let c = count_less p n i (omega arith) f in by-test (p n) (λ t. let a = ap adds t in omega arith) (λ t. let a = ap adds t in omega arith))
