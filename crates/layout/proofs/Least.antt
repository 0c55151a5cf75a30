-- What `oldest_of` finds: a least number, at the lowest place that has it.
use Prim.Native.Nat.{ℕ, zero, suc, ◌<◌, ◌≤◌}
use mathlib.Core.Path.{◌≡◌, refl, sym, subst}
use mathlib.Core.Logic.{◌⊎◌, inl, inr, ⊎_elim}
use native.Mathlib.Omega.{arith}
use native.Mathlib.Nat.{le_of_suc-le-suc, eq-or-lt_of_le, not-suc-le-zero}
use lib.Dec.{eqb, ltb}
use borrow.Author.Tests.{eqb-true, eqb-false, ltb-true, ltb-false}
use Rattle.layout.proofs.Says.{by-test}
use Rattle.layout.specs.declared.oldest.Oldest.{Oldest}
use Rattle.layout.specs.Oldest.{oldest_of, older}

-- b is the oldest of the numbers f of the first n places
pub record Least (f : ℕ → ℕ) (n : ℕ) (b : Oldest) : Type 0 where
  pub none : b.number ≡ 0 → (k : ℕ) → k < n → f k ≡ 0
  pub some : (b.number ≡ 0 → ⊥) → (b.place < n) × (f b.place ≡ b.number)
  pub least : (k : ℕ) → k < n → (f k ≡ 0 → ⊥) → b.number ≤ f k
  pub first : (b.number ≡ 0 → ⊥) → (k : ℕ) → k < b.place → (f k ≡ 0 → ⊥) → b.number < f k

-- what holds below n, and at n, holds below suc n
under : (P : ℕ → Type 0) (n : ℕ) → ((k : ℕ) → k < n → P k) → P n → (k : ℕ) → k < suc n → P k
under P n all here k l = ⊎_elim (λ e. subst P (sym e) here) (λ lt. all k lt) (eq-or-lt_of_le (le_of_suc-le-suc l))

module _ (f : ℕ → ℕ) (n : ℕ) (b : Oldest) (h : Least f n b) where
  empty : f n ≡ 0 → Least f (suc n) b
  empty z =
      record {
        none = λ e. under (λ k. f k ≡ 0) n (h.none e) z;
        some = λ ne. let r = h.some ne in (omega (arith, r.0), r.1);
        least = under (λ k. (f k ≡ 0 → ⊥) → b.number ≤ f k) n h.least (λ nz. absurd (nz z));
        first = h.first;
      }

  later : (b.number ≡ 0 → ⊥) → b.number ≤ f n → Least f (suc n) b
  later ne le =
      record {
        none = λ e. absurd (ne e);
        some = λ _. let r = h.some ne in (omega (arith, r.0), r.1);
        least = under (λ k. (f k ≡ 0 → ⊥) → b.number ≤ f k) n h.least (λ nz. le);
        first = h.first;
      }

  taken : (f n ≡ 0 → ⊥) → (b.number ≡ 0) ⊎ (f n < b.number) → Least f (suc n) (record { number = f n; place = n })
  taken nz why =
      record {
        none = λ e. absurd (nz e);
        some = λ _. (omega arith, refl);
        least = under (λ k. (f k ≡ 0 → ⊥) → f n ≤ f k) n (λ k l u. below k l u) (λ _. omega arith);
        first = λ _ k l u. less k l u;
      }
    where
      less : (k : ℕ) → k < n → (f k ≡ 0 → ⊥) → f n < f k
      less k l u = ⊎_elim (λ z. absurd (u (h.none z k l))) (λ lt. omega (arith, lt, h.least k l u)) why

      below : (k : ℕ) → k < n → (f k ≡ 0 → ⊥) → f n ≤ f k
      below k l u = omega (arith, less k l u)

  pub step : Least f (suc n) (older b (f n) n)
  step =
      by-test (eqb (f n) 0)
      (λ z. simp z (empty (eqb-true _ _ z)))
      (λ nz. by-test (eqb b.number 0)
      (λ e. simp (nz, e) (taken (eqb-false _ _ nz) (inl (eqb-true _ _ e))))
      (λ e. by-test (ltb (f n) b.number)
      (λ lt. simp (nz, e, lt) (taken (eqb-false _ _ nz) (inr (ltb-true _ _ lt))))
      (λ ge. simp (nz, e, ge) (later (eqb-false _ _ e) (ltb-false _ _ ge)))))

pub oldest-is : (f : ℕ → ℕ) (slots : ℕ) → Least f slots (oldest_of f slots)
unfolding oldest_of
oldest-is f zero =
    record {
      none = λ e k l. absurd (not-suc-le-zero l);
      some = λ ne. absurd (ne refl);
      least = λ k l. absurd (not-suc-le-zero l);
      first = λ ne. absurd (ne refl);
    }
oldest-is f (suc i) = step f i (oldest_of f i) (oldest-is f i)
