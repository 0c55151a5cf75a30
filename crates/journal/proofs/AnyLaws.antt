-- What `any` answers over the numbers from 0 on.
use Rattle.std.proofs.Common.{Option, ◌≡◌, ℕ, zero, suc, ◌+◌, Bool, true, false, ◌||◌, List, refl, sym, ap, ◌∙◌, add-zero, arith}
use Rattle.std.proofs.Math.Bool.{or_assoc, or-false}
use Rattle.std.proofs.lemmas.Iterator.{YieldsList-from_range}
use Rattle.std.proofs.lemmas.Iterator.Search.{any_from_yields_List}
use Rattle.std.proofs.iter.Yields.{nat_range_steps}
use Rattle.std.specs.Fn.{Called}
use Rattle.std.specs.declared.ops.Range.{Range}
use Rattle.std.specs.Iterator.{YieldsThen}
use Rattle.std.specs.List.{FoldsTo, list_any, range_with_len}
use Rattle.std.specs.Option.{MatchOption}
use denote.Param.Members.{Mut}
use Rattle.layout.specs.Below.{any_below}

module _ (p : ℕ → Bool) where
  any-last : (a n : ℕ) → list_any p (range_with_len a (suc n)) ≡ (list_any p (range_with_len a n) || p (a + n))
  any-last a zero = rw (add-zero) (or-false (p a))
  any-last a (suc n) =
      let e : a + suc n ≡ a + 1 + n = omega arith in
      rw e (ap (λ b. p a || b) (any-last (a + 1) n) ∙ sym (or_assoc (p a) (list_any p (range_with_len (a + 1) n)) (p (a + 1 + n))))

  pub any-range : (n : ℕ) → list_any p (range_with_len 0 n) ≡ any_below n p
  unfolding any_below
  any-range zero = refl
  any-range (suc n) =
      let e : 0 + n ≡ n = omega arith in
      any-last 0 n ∙ rw (e, any-range n)

-- a range's `any`, whose closure computes p
pub any_by : {F : Type 0} {g : Mut F (ℕ × Unit {0}) Bool} {s : Range ℕ} (p : ℕ → Bool) (n : ℕ) {u : Range ℕ} {f : F} {r : Bool}
    → (xs : List ℕ) × (o : Option ℕ) × (j : F) × YieldsThen nat_range_steps s xs o u × FoldsTo (λ k x q. Called g k (x, tt) false q) f xs j
    × MatchOption o (r ≡ false) (λ x. (r ≡ true) × ((h : F) × Called g j (x, tt) true h)) → s ≡ record { start = 0; end = n }
    → ((x : ℕ) (b : Bool) (q : F) → Called g f (x, tt) b q → (q ≡ f) × (b ≡ p x)) → r ≡ any_below n p
any_by {F} {g} p n {u} {f} {r} ran e h = any_from_yields_List p u f r ran (YieldsList-from_range 0 n n e (omega arith)) h ∙ any-range p n
