-- Laws of tests and searches over the numbers below n, for a loop that counts up.
use Prim.Native.Nat.{ℕ, zero, suc, ◌+◌, ◌<◌, ◌≤◌}
use mathlib.Core.Bool.{Bool, true, false, and-false, or-true, cond, false≢true}
use mathlib.Core.Path.{◌≡◌, refl, sym, ◌∙◌, subst}
use mathlib.Core.Logic.{⊎_elim}
use native.Mathlib.Nat.{le_of_suc-le-suc, not-suc-le-zero, eq-or-lt_of_le}
use native.Mathlib.Omega.{arith}
use native.Mathlib.Numerals.{add-one}
use lib.Dec.{ltb}
use borrow.Author.Tests.{lt-ltb, le-ltb, ltb-true, ltb-false}
use Rattle.layout.specs.Below.{all_below, any_below, count_below, lowest}

module _ (p : ℕ → Bool) where
  -- a turn that found nothing wrong
  pub all_more : (i : ℕ) → all_below i p ≡ true → p i ≡ true → all_below (i + 1) p ≡ true
  unfolding all_below
  all_more i h e = rw (add-one, h, e)

  -- a turn that found something wrong
  pub all-fails : (n i : ℕ) → i < n → p i ≡ false → all_below n p ≡ false
  unfolding all_below
  all-fails zero i l e = absurd (not-suc-le-zero l)
  all-fails (suc n) i l e =
      ⊎_elim
      (λ q. rw (subst (λ (k : ℕ). p k ≡ false) q e) (and-false (all_below n p)))
      (λ lt. rw (all-fails n i lt e))
      (eq-or-lt_of_le (le_of_suc-le-suc l))

  pub any-more : (i : ℕ) → any_below i p ≡ false → p i ≡ false → any_below (i + 1) p ≡ false
  unfolding any_below
  any-more i h e = rw (add-one, h, e)

  pub any-finds : (n i : ℕ) → i < n → p i ≡ true → any_below n p ≡ true
  unfolding any_below
  any-finds zero i l e = absurd (not-suc-le-zero l)
  any-finds (suc n) i l e =
      ⊎_elim
      (λ q. rw (subst (λ (k : ℕ). p k ≡ true) q e) (or-true (any_below n p)))
      (λ lt. rw (any-finds n i lt e))
      (eq-or-lt_of_le (le_of_suc-le-suc l))

  pub count-more : (i : ℕ) → count_below (i + 1) p ≡ count_below i p + cond (p i) 1 0
  unfolding count_below
  count-more i = rw add-one

  pub count_most : (n : ℕ) → count_below n p ≤ n
  unfolding count_below
  count_most zero = omega arith
  count_most (suc n) = go (p n) (count_most n)
    where
      go : (b : Bool) → count_below n p ≤ n → count_below n p + cond b 1 0 ≤ suc n
      go true h = omega arith
      go false h = omega arith

  -- a turn of a search that found nothing
  pub lowest-more : (i : ℕ) → lowest i p ≡ i → p i ≡ false → lowest (i + 1) p ≡ i + 1
  unfolding lowest
  lowest-more i h e = rw (add-one, h, le-ltb i i (omega arith), e)

  -- a turn of a search that found something
  pub lowest-finds : (n i : ℕ) → i < n → lowest i p ≡ i → p i ≡ true → lowest n p ≡ i
  unfolding lowest
  lowest-finds zero i l h e = absurd (not-suc-le-zero l)
  lowest-finds (suc n) i l h e =
      ⊎_elim
      (λ q. subst (λ (k : ℕ). lowest (suc k) p ≡ i) q (rw (h, le-ltb i i (omega arith), e)))
      (λ lt. rw (lowest-finds n i lt h e, lt-ltb i n lt))
      (eq-or-lt_of_le (le_of_suc-le-suc l))

  pub lowest-most : (n : ℕ) → lowest n p ≤ n
  unfolding lowest
  lowest-most zero = omega arith
  lowest-most (suc n) = go (ltb (lowest n p) n) (p n) (lowest-most n)
    where
      go : (b c : Bool) → lowest n p ≤ n → cond b (lowest n p) (cond c n (suc n)) ≤ suc n
      go true c h = omega arith
      go false true h = omega arith
      go false false h = omega arith

  -- what is passed over fails the test
  pub lowest-none : (n : ℕ) → lowest n p ≡ n → (i : ℕ) → i < n → p i ≡ false
  unfolding lowest
  lowest-none zero e i l = absurd (not-suc-le-zero l)
  lowest-none (suc n) e i l = go (ltb (lowest n p) n) refl (p n) refl e (λ h lt. lowest-none n h i lt)
    where
      go : (b : Bool) → ltb (lowest n p) n ≡ b → (c : Bool) → p n ≡ c → cond b (lowest n p) (cond c n (suc n)) ≡ suc n → (lowest n p ≡ n → i < n → p i ≡ false) → p i ≡ false
      go true x c y h f = absurd (let z : lowest n p < n = ltb-true _ _ x in omega arith)
      go false x true y h f = absurd (omega arith)
      go false x false y h f =
          ⊎_elim
          (λ q. subst (λ (k : ℕ). p k ≡ false) (sym q) y)
          (f (let z : n ≤ lowest n p = ltb-false _ _ x in omega (arith, lowest-most n)))
          (eq-or-lt_of_le (le_of_suc-le-suc l))

  -- a test that holds of some number is found
  pub lowest-some : (n i : ℕ) → i < n → p i ≡ true → lowest n p < n
  lowest-some n i l e =
      ⊎_elim
      (λ q. absurd (false≢true (sym (lowest-none n q i l) ∙ e)))
      (λ lt. lt)
      (eq-or-lt_of_le (lowest-most n))
