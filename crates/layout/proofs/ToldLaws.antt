-- What an answer tells is what document 01 has the call tell.
use Prim.Native.Nat.{ℕ, zero, suc, ◌<◌, ◌≤◌}
use mathlib.Core.Bool.{true, ◌&&◌}
use mathlib.Core.Path.{◌≡◌, refl}
use mathlib.Core.List.{List}
use lib.ListN.{length}
use Rattle.std.specs.Prelude.{Ok, Err}
use native.Mathlib.Omega.{arith}
use lib.Dec.{eqb}
use Rattle.layout.specs.Below.{all_below}
use Rattle.layout.specs.Checks.{answered}
use Rattle.layout.specs.Lay.{lay_fault, lay_answer, lay_said}
use Rattle.layout.specs.Refusal.{Answer, cause, number_of, value_with}
use Rattle.layout.specs.Told.{Told, refusal, ok, tells, lay_told}
use Rattle.layout.proofs.ChecksLaws.{first-most, unless-most}
use Rattle.layout.proofs.Says.{says-and, says_eq, says_all}

-- the number of each refusal, and that none has a value by itself
listed : all_below 20 (λ k. eqb (number_of (cause (suc k))) (suc k) && eqb (value_with (cause (suc k))) 0) ≡ true
unfolding cause all_below
listed = refl

pub record Known (k : ℕ) : Type 0 where
  pub number : number_of (cause (suc k)) ≡ suc k
  pub value : value_with (cause (suc k)) ≡ 0

pub known : (k : ℕ) → k < 20 → Known k
known k l =
    let h = (says_all 20 (λ k. says-and (says_eq (number_of (cause (suc k))) (suc k)) (says_eq (value_with (cause (suc k))) 0))).yes listed k l in
    record { number = h.0; value = h.1 }

-- where a part of what a call gives is its answer: it tells its refusal by that number alone, or what was given
pub told-by : {A T : Type 0} (answer : A → Answer T) (told : T → Told) (fault : ℕ) (refused : ℕ → A) (done : A) {said : Told} → fault ≤ 20
    → ((k : ℕ) → answer (refused k) ≡ Err (cause k)) → tells told (answer done) ≡ said → tells told (answer (answered fault refused done)) ≡ answered fault refusal said
unfolding answered
told-by answer told zero refused done l r e = e
told-by answer told (suc k) refused done l r e = let h = known k (omega arith) in rw (r (suc k), h.number, h.value) refl

lay-known : (n m size : ℕ) → lay_fault n m size ≤ 20
unfolding lay_fault
lay-known n m size = first-most 20 _ _ (unless-most 20 _ 14 (omega arith)) (unless-most 20 _ 1 (omega arith))

pub lay-told : (n m : ℕ) (img : List ℕ) → lay_told (lay_answer n m img) ≡ lay_said n m img
unfolding lay_answer lay_said
lay-told n m img = told-by (λ a. a) (λ x. ok) (lay_fault n m (length img)) (λ k. Err (cause k)) (Ok tt) (lay-known n m (length img)) (λ k. refl) refl
