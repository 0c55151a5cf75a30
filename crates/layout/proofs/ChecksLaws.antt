-- Laws of checks and of what a call gives by them.
use Prim.Native.Nat.{ℕ, zero, suc, ◌≤◌}
use mathlib.Core.Bool.{Bool, true, false, cond}
use mathlib.Core.Path.{◌≡◌, refl, ◌∙◌}
use native.Mathlib.Omega.{arith}
use Rattle.layout.specs.Checks.{unless, first, answered}

pub first-zero : (a b : ℕ) → a ≡ 0 → first a b ≡ b
unfolding first
first-zero zero b e = refl
first-zero (suc k) b e = absurd (omega arith)

pub first-not : (a b : ℕ) → (a ≡ 0 → ⊥) → first a b ≡ a
unfolding first
first-not zero b n = absurd (n refl)
first-not (suc k) b n = refl

pub first-both : (a b : ℕ) → first a b ≡ 0 → (a ≡ 0) × (b ≡ 0)
unfolding first
first-both zero b e = (refl, e)
first-both (suc k) b e = absurd (omega arith)

pub first-assoc : (a b c : ℕ) → first (first a b) c ≡ first a (first b c)
unfolding first
first-assoc zero b c = refl
first-assoc (suc k) b c = refl

pub unless-zero : (ok : Bool) (k : ℕ) → unless ok (suc k) ≡ 0 → ok ≡ true
unless-zero true k e = refl
unless-zero false k e = absurd (omega arith)

pub answered-zero : {A : Type 0} (k : ℕ) (f : ℕ → A) (a : A) → k ≡ 0 → answered k f a ≡ a
unfolding answered
answered-zero zero f a e = refl
answered-zero (suc k) f a e = absurd (omega arith)

pub answered-not : {A : Type 0} (k : ℕ) (f : ℕ → A) (a : A) → (k ≡ 0 → ⊥) → answered k f a ≡ f k
unfolding answered
answered-not zero f a n = absurd (n refl)
answered-not (suc k) f a n = refl

-- what a call gives where its first checks refuse, and where they pass
pub answered-refused : {A : Type 0} (k next : ℕ) (f : ℕ → A) (a : A) → (k ≡ 0 → ⊥) → answered (first k next) f a ≡ f k
unfolding answered first
answered-refused zero next f a n = absurd (n refl)
answered-refused (suc k) next f a n = refl

pub answered-passed : {A : Type 0} (k next : ℕ) (f : ℕ → A) (a : A) → k ≡ 0 → answered (first k next) f a ≡ answered next f a
unfolding first
answered-passed zero next f a e = refl
answered-passed (suc k) next f a e = absurd (omega arith)

pub answered-next : {A : Type 0} (k next : ℕ) (f : ℕ → A) (a : A) → k ≡ 0 → (next ≡ 0 → ⊥) → answered (first k next) f a ≡ f next
answered-next k next f a e n = answered-passed k next f a e ∙ answered-not next f a n

pub answered-done : {A : Type 0} (k next : ℕ) (f : ℕ → A) (a : A) → k ≡ 0 → next ≡ 0 → answered (first k next) f a ≡ a
answered-done k next f a e z = answered-passed k next f a e ∙ answered-zero next f a z

pub first-most : (n a b : ℕ) → a ≤ n → b ≤ n → first a b ≤ n
unfolding first
first-most n zero b l m = m
first-most n (suc k) b l m = l

pub unless-most : (n : ℕ) (ok : Bool) (k : ℕ) → k ≤ n → unless ok k ≤ n
unless-most n true k l = omega arith
unless-most n false k l = l

-- a part of what a call gives, and of what it gives by a test
pub answered-map : {A B : Type 0} (f : A → B) (k : ℕ) (refused : ℕ → A) (done : A) {said : ℕ → B} {b : B}
    → ((k : ℕ) → f (refused k) ≡ said k) → f done ≡ b → f (answered k refused done) ≡ answered k said b
unfolding answered
answered-map f zero refused done r e = e
answered-map f (suc k) refused done r e = r (suc k)

pub cond_map : {A B : Type 0} (f : A → B) (t : Bool) (x y : A) → f (cond t x y) ≡ cond t (f x) (f y)
cond_map f true x y = refl
cond_map f false x y = refl
