-- A list without one session, place by place.
use Prim.Native.Nat.{ℕ, zero, suc, ◌+◌, ◌-◌, ◌<◌, ◌≤◌}
use mathlib.Core.List.{List, [], ◌∷◌, ◌++◌}
use mathlib.Core.Path.{◌≡◌, refl, sym, ap, ◌∙◌}
use native.Mathlib.Numerals.{add-one}
use native.Mathlib.Omega.{arith}
use native.Mathlib.Nat.{not-suc-le-zero}
use lib.Dec.{eqb, ltb}
use lib.ListN.{get_or, set, take, drop, drop_of_length-le, length, length-append}
use lib.Seq.{take-length}
use mathlib.Core.List.{append-nil}
use native.Mathlib.Nat.{le_refl}
use Rattle.std.proofs.lemmas.List.Quantifiers.{position-Some}
use Rattle.std.specs.Prelude.{◌==◌, Option, Some, None, position}
use Rattle.std.specs.List.{position_or_len}
use borrow.Author.Tests.{eq-eqb, ne_eqb, lt-ltb, le-ltb, ltb-false, eqb-true, eqb-false}
use Rattle.layout.proofs.Says.{by-test, by-case}
use Rattle.desk.specs.Desk.{without}
use Rattle.layout.proofs.Order.{skip, skip_is}

-- it is as long as before
pub length_without : (s : ℕ) (l : List ℕ) → length (without s l) ≡ length l
unfolding without
length_without s [] = refl
length_without s (x ∷ xs) =
    by-test (eqb x s) (λ t. rw t (length-append xs (0 ∷ []) ∙ add-one (length xs))) (λ f. rw f (ap suc (length_without s xs)))

-- a zero behind a list is read as what is past its end
zero-behind : (l : List ℕ) (j : ℕ) → get_or (l ++ (0 ∷ [])) j 0 ≡ get_or l j 0
zero-behind [] zero = refl
zero-behind [] (suc j) = refl
zero-behind (x ∷ xs) zero = refl
zero-behind (x ∷ xs) (suc j) = zero-behind xs j

skip-suc : (p j : ℕ) → skip (suc p) (suc j) ≡ suc (skip p j)
skip-suc p j =
    by-case (skip_is p j)
    (λ a. by-case (skip_is (suc p) (suc j)) (λ b. omega arith) (λ b. omega arith))
    (λ a. by-case (skip_is (suc p) (suc j)) (λ b. omega arith) (λ b. omega arith))

-- where s is first at place p, that place is taken out
pub without_at : (s : ℕ) (l : List ℕ) (p : ℕ) → p < length l → get_or l p 0 ≡ s → ((i : ℕ) → i < p → get_or l i 0 ≡ s → ⊥) → (j : ℕ) → get_or (without s l) j 0 ≡ get_or l (skip p j) 0
unfolding without
without_at s [] p l e f j = absurd (not-suc-le-zero l)
without_at s (x ∷ xs) zero l e f j = rw (eq-eqb x s e, le-ltb j 0 (omega arith), add-one) (zero-behind xs j)
without_at s (x ∷ xs) (suc p) l e f zero = rw (ne_eqb x s (f 0 (omega arith)), lt-ltb 0 (suc p) (omega arith))
without_at s (x ∷ xs) (suc p) l e f (suc j) =
    rw (ne_eqb x s (f 0 (omega arith)), skip-suc p j) (without_at s xs p (omega arith) e (λ i k. f (suc i) (omega arith)) j)

-- those behind its first place move up, and a zero comes last
pub without-moves : (s : ℕ) (l : List ℕ) (p : ℕ) → p < length l → get_or l p 0 ≡ s → ((i : ℕ) → i < p → get_or l i 0 ≡ s → ⊥)
    → without s l ≡ take p l ++ (drop (suc p) l ++ (0 ∷ []))
unfolding without
without-moves s [] p l e f = absurd (not-suc-le-zero l)
without-moves s (x ∷ xs) zero l e f = rw (eq-eqb x s e)
without-moves s (x ∷ xs) (suc p) l e f =
    rw (ne_eqb x s (f 0 (omega arith))) (ap (λ (t : List ℕ). x ∷ t) (without-moves s xs p (omega arith) e (λ i k. f (suc i) (omega arith))))

-- where no place of the list has it, by the library's search
none-before : (s : ℕ) (l : List ℕ) → length l ≤ position_or_len (λ x. x == s) l → without s l ≡ l
unfolding without
none-before s [] e = refl
none-before s (x ∷ xs) e =
    by-test (eqb x s)
    (λ t. let z : position_or_len (λ x. x == s) (x ∷ xs) ≡ 0 = rw t in absurd (omega (arith, z)))
    (λ f. let z : position_or_len (λ x. x == s) (x ∷ xs) ≡ 1 + position_or_len (λ x. x == s) xs = rw f in
    rw f (ap (λ (t : List ℕ). x ∷ t) (none-before s xs (omega (arith, z)))))

pub without-none : (s : ℕ) (l : List ℕ) → position (λ x. x == s) l ≡ None → without s l ≡ l
without-none s l e =
    by-test (ltb (position_or_len (λ x. x == s) l) (length l))
    (λ t. let z : ◌≡◌ {A = ℕ} 1 0 = ap found (rw t at e) in absurd (omega (arith, z)))
    (λ f. none-before s l (ltb-false _ _ f))
  where
    found : Option ℕ → ℕ
    found None = 0
    found (Some p) = 1

-- the last of some numbers set to 0
set-last : (xs : List ℕ) (x : ℕ) → set (xs ++ x ∷ []) (length xs) 0 ≡ xs ++ 0 ∷ []
set-last [] x = refl
set-last (y ∷ xs) x = ap (λ (t : List ℕ). y ∷ t) (set-last xs x)

-- the places from p on turned by one, and the last of them set to 0
rotated : (l : List ℕ) (p k n : ℕ) → length l ≡ suc n → p < length l → k ≡ length l - p
    → set (take p l ++ ((drop 1 (take k (drop p l)) ++ take 1 (take k (drop p l))) ++ drop k (drop p l))) n 0 ≡ take p l ++ (drop (suc p) l ++ (0 ∷ []))
rotated [] p k n e b q = absurd (not-suc-le-zero b)
rotated (x ∷ xs) zero k n e b q =
    let z : n ≡ length xs = omega (arith, e) in
    let m : k ≡ suc (length xs) = omega (arith, q) in
    rw (m, take-length xs, drop_of_length-le xs (le_refl _), append-nil, z) (set-last xs x)
rotated (x ∷ xs) (suc p) k zero e b q = absurd (omega (arith, e, b))
rotated (x ∷ xs) (suc p) k (suc n) e b q = ap (λ (t : List ℕ). x ∷ t) (rotated xs p k n (omega (arith, e)) (omega arith) (omega (arith, q)))

-- the code's way to take session s out of a list of 16, where it stands first at place p
pub without-rotated : (s : ℕ) (l : List ℕ) (p : ℕ) → length l ≡ 16 → position (λ x. x == s) l ≡ Some p
    → set (take p l ++ ((drop 1 (take (16 - p) (drop p l)) ++ take 1 (take (16 - p) (drop p l))) ++ drop (16 - p) (drop p l))) 15 0 ≡ without s l
without-rotated s l p long e =
    let f = position-Some (λ x. x == s) l p 0 e in
    rotated l p (16 - p) 15 long f.0 (ap (λ (n : ℕ). n - p) (sym long))
    ∙ sym (without-moves s l p f.0 (eqb-true _ s f.1) (λ i k. eqb-false _ s (f.2 i k)))
