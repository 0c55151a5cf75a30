-- What an answer says of the fault that it goes by.
use Prim.Native.Nat.{ℕ, zero, suc}
use mathlib.Core.Path.{◌≡◌, refl, ap}
use native.Mathlib.Omega.{arith}
use Rattle.std.specs.Prelude.{Ok, Err}
use Rattle.layout.specs.declared.refusal.Refusal.{Refusal}
use Rattle.layout.specs.Checks.{first, answered}
use Rattle.layout.specs.Refusal.{Answer, answer_of, cause}
use Rattle.layout.proofs.ChecksLaws.{answered-refused, answered-passed}

module _ {A : Type 0} where
  -- the refusal of an answer, or another one
  abbrev refusal_or : Refusal → Answer A → Refusal
  refusal_or r (Err q) = q
  refusal_or r (Ok x) = r

  abbrev given_or : A → Answer A → A
  given_or x (Err q) = x
  given_or x (Ok y) = y

  -- 1 of a refusal
  abbrev refuses : Answer A → ℕ
  refuses (Err r) = 1
  refuses (Ok x) = 0

  -- refused: there is a fault, and the refusal is its
  pub refused-by : (fault : ℕ) (x : A) {r : Refusal} → Err r ≡ answer_of fault x → (fault ≡ 0 → ⊥) × (r ≡ cause fault)
  unfolding answered
  refused-by zero x e = let w : ◌≡◌ {A = ℕ} 1 0 = ap refuses e in absurd (omega (arith, w))
  refused-by (suc k) x {r} e = (λ z. omega (arith, z), ap (refusal_or r) e)

  -- given: there is no fault
  pub given-by : (fault : ℕ) (x : A) {y : A} → Ok y ≡ answer_of fault x → (fault ≡ 0) × (y ≡ x)
  unfolding answered
  given-by zero x {y} e = (refl, ap (given_or y) e)
  given-by (suc k) x e = let w : ◌≡◌ {A = ℕ} 0 1 = ap refuses e in absurd (omega (arith, w))

-- handed on by a call that makes further checks behind
pub hands-on : {A B : Type 0} (fault next : ℕ) (x : A) (y : B) {r : Refusal} → Err r ≡ answer_of fault x → Err r ≡ answer_of (first fault next) y
unfolding answered first
hands-on zero next x y e = absurd ((refused-by zero x e).0 refl)
hands-on (suc k) next x y e = ap Err (refused-by (suc k) x e).1

-- past the first checks the answer goes by the further ones
pub goes-on : {A B : Type 0} (fault next : ℕ) (x : A) {y : A} (z : B) → Ok y ≡ answer_of fault x → answer_of (first fault next) z ≡ answer_of next z
unfolding first
goes-on zero next x z e = refl
goes-on (suc k) next x z e = let w = (given-by (suc k) x e).0 in absurd (omega (arith, w))

-- another answer by the same fault: the same refusal, or what it gives
pub refused-too : {A B : Type 0} (fault : ℕ) (x : A) (y : B) {r : Refusal} → Err r ≡ answer_of fault x → Err r ≡ answer_of fault y
unfolding answered
refused-too zero x y e = absurd ((refused-by zero x e).0 refl)
refused-too (suc k) x y e = ap Err (refused-by (suc k) x e).1

pub given-too : {A B : Type 0} (fault : ℕ) (x : A) {z : A} (y : B) → Ok z ≡ answer_of fault x → answer_of fault y ≡ Ok y
unfolding answered
given-too zero x y e = refl
given-too (suc k) x y e = let w = (given-by (suc k) x e).0 in absurd (omega (arith, w))

-- what a call gives whose first checks answer so
module _ {A X : Type 0} (fault next : ℕ) (x : X) (refused : ℕ → A) (done : A) where
  pub turned-away : {r : Refusal} → Err r ≡ answer_of fault x → (answered (first fault next) refused done ≡ refused fault) × (r ≡ cause fault)
  turned-away e = let h = refused-by fault x e in (answered-refused fault next refused done h.0, h.1)

  pub let-through : {y : X} → Ok y ≡ answer_of fault x → answered (first fault next) refused done ≡ answered next refused done
  let-through e = answered-passed fault next refused done (given-by fault x e).0
