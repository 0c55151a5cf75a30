-- Lists of entries that are tidy: none, one of two, a refused call's, one that is stored in full.
use Prim.Native.Nat.{ℕ, zero, suc, ◌≤◌}
use mathlib.Core.Bool.{Bool, true, false, cond}
use mathlib.Core.Path.{◌≡◌, refl}
use mathlib.Core.List.{List, []}
use native.Mathlib.Omega.{arith}
use lib.ListN.{length}
use Rattle.layout.specs.Checks.{answered}
use Rattle.layout.specs.Entries.{Entry, once, ends_fenced}
use Rattle.layout.specs.Tidy.{Tidy}

-- a list that is empty
pub tidy-none : (n : ℕ) → n ≡ 0 → Tidy 0 n []
tidy-none n e = record { refused = λ r. refl; short = omega arith; apart = refl; fenced = refl; counted = e }

-- one of two lists, and one of two replies, by the same test
pub tidy-cond : {A : Type 0} (n : A → ℕ) (b : Bool) (x y : A) (xs ys : List Entry)
    → (b ≡ true → Tidy 0 (n x) xs) → (b ≡ false → Tidy 0 (n y) ys) → Tidy 0 (n (cond b x y)) (cond b xs ys)
tidy-cond n true x y xs ys f g = f refl
tidy-cond n false x y xs ys f g = g refl

-- refused, nothing is listed
pub tidy-answered : {A : Type 0} (n : A → ℕ) (fault : ℕ) (refusal : ℕ → A) (done : A) (es : List Entry)
    → ((k : ℕ) → n (refusal k) ≡ 0) → (fault ≡ 0 → Tidy 0 (n done) es) → Tidy fault (n (answered fault refusal done)) (answered fault (λ k. []) es)
unfolding answered
tidy-answered n zero refusal done es z t = t refl
tidy-answered n (suc k) refusal done es z t =
    record { refused = λ r. refl; short = omega arith; apart = refl; fenced = refl; counted = z (suc k) }

-- a list that is stored in full
pub tidy-list : (n : ℕ) (es : List Entry) → n ≡ length es → length es ≤ 24 → once es ≡ true → ends_fenced es ≡ true → Tidy 0 n es
tidy-list n es c l o f = record { refused = λ r. absurd (r refl); short = l; apart = o; fenced = f; counted = c }
