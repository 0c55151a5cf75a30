-- What a search of numbers in ascending order finds is the lowest of them.
use Prim.Native.Nat.{ℕ, zero, suc, ◌<◌, ◌≤◌}
use mathlib.Core.Bool.{Bool, true, false, not}
use mathlib.Core.Path.{◌≡◌, refl, sym, ap, ◌∙◌}
use mathlib.Core.List.{List}
use mathlib.Core.Logic.{⊎_elim}
use native.Mathlib.Nat.{eq-or-lt_of_le}
use native.Mathlib.Omega.{arith}
use lib.Dec.{ltb}
use lib.ListN.{length, get_or}
use borrow.Author.Tests.{le-ltb, ltb-true, ltb-false}
use Rattle.std.specs.Prelude.{Option, is_some}
use Rattle.std.specs.List.{range_with_len, find, position_or_len, slice_get}
use Rattle.std.proofs.lemmas.List.FromFn.{length-range_with_len, get_or-range_with_len}
use Rattle.std.proofs.lemmas.List.Folds.{find_at}
use Rattle.std.proofs.lemmas.List.Sums.{fails_before_first, prefix_len-le-length, passes_at_first}
use Rattle.std.proofs.lemmas.Option.{slice_get-get_or, slice_get_past}
use Rattle.layout.specs.Below.{lowest}
use Rattle.layout.specs.Search.{within}
use Rattle.layout.proofs.BelowLaws.{lowest-finds}
use Rattle.layout.proofs.Says.{by-test}

module _ (p : ℕ → Bool) where
  -- all below i are passed over
  passed-over : (i : ℕ) → ((k : ℕ) → k < i → p k ≡ false) → lowest i p ≡ i
  unfolding lowest
  passed-over zero f = refl
  passed-over (suc i) f = rw (passed-over i (λ k l. f k (omega arith)), le-ltb i i (omega arith), f i (omega arith))

  -- the first that passes, or none
  pub lowest-is : (n i : ℕ) → i ≤ n → ((k : ℕ) → k < i → p k ≡ false) → (i < n → p i ≡ true) → lowest n p ≡ i
  lowest-is n i l f t =
      ⊎_elim
      (λ q. rw (← q) (passed-over i f))
      (λ lt. lowest-finds p n i lt (passed-over i f) (t lt))
      (eq-or-lt_of_le l)

  pub find-lowest : (n : ℕ) → find p (range_with_len 0 n) ≡ within n (lowest n p)
  find-lowest n = find_at p xs ∙ rw first (by-test (ltb i n) some none)
    where
      xs : List ℕ
      xs = range_with_len 0 n

      i : ℕ
      i = position_or_len p xs

      long : length xs ≡ n
      long = length-range_with_len 0 n

      at : (k : ℕ) → k < n → get_or xs k 0 ≡ k
      at k l = omega (arith, get_or-range_with_len 0 n k 0 l)

      most : i ≤ n
      most = omega (arith, prefix_len-le-length (λ x. not (p x)) xs, long)

      first : lowest n p ≡ i
      first =
          lowest-is n i most
          (λ k l. ap p (sym (at k (omega (arith, most)))) ∙ fails_before_first p xs k 0 l)
          (λ l. ap p (sym (at i l)) ∙ passes_at_first p xs 0 (omega (arith, long)))

      some : ltb i n ≡ true → slice_get xs i ≡ within n i
      some t = slice_get-get_or xs i 0 (omega (arith, long, ltb-true i n t)) ∙ rw (t, at i (ltb-true i n t))

      none : ltb i n ≡ false → slice_get xs i ≡ within n i
      none f = slice_get_past xs i (omega (arith, long, ltb-false i n f)) ∙ rw f

-- what a search answers
module _ (n i : ℕ) {o : Option ℕ} (e : o ≡ within n i) where
  pub found_some : is_some o ≡ ltb i n
  found_some = ap is_some e ∙ by-test (ltb i n) (λ t. rw t) (λ f. rw f)
