-- `Says b P`: the test b is true just where P holds. A lemma for each way of making a test; none of them asks for a test in an argument
-- that stands only under `&&`, which antt cannot find.
use Prim.Native.Nat.{ℕ, zero, suc, ◌<◌, ◌≤◌}
use mathlib.Core.Bool.{Bool, true, false, not, ◌&&◌, ◌||◌, cond, beq, false≢true}
use mathlib.Core.Path.{◌≡◌, refl, sym, ap, ◌∙◌}
use mathlib.Core.Logic.{◌⊎◌, inl, inr, ⊎_elim}
use native.Mathlib.Omega.{arith}
use lib.Dec.{leb, ltb, eqb}
use borrow.Author.Tests.{lt-ltb, le-leb, eq-eqb, ne_eqb, ltb-true, leb-true, eqb-true, eqb-false, not-true}
use Rattle.layout.specs.Below.{all_below, any_below}
use Rattle.layout.proofs.BelowLaws.{all-fails, any-finds}

pub record Says (b : Bool) (P : Type 0) : Type 0 where
  pub yes : b ≡ true → P
  pub no : P → b ≡ true

pub says-le : (m n : ℕ) → Says (leb m n) (m ≤ n)
says-le m n = record { yes = leb-true m n; no = le-leb m n }

pub says-lt : (m n : ℕ) → Says (ltb m n) (m < n)
says-lt m n = record { yes = ltb-true m n; no = lt-ltb m n }

pub says_eq : (m n : ℕ) → Says (eqb m n) (m ≡ n)
says_eq m n = record { yes = eqb-true m n; no = eq-eqb m n }

pub says_ne : (m n : ℕ) → Says (not (eqb m n)) (m ≡ n → ⊥)
says_ne m n = record { yes = λ e. eqb-false m n (not-true _ e); no = λ h. ap not (ne_eqb m n h) }

pub says-itself : (b : Bool) → Says b (b ≡ true)
says-itself b = record { yes = λ e. e; no = λ e. e }

-- a test, by its two cases
pub test : (b : Bool) → (b ≡ true) ⊎ (b ≡ false)
test true = inl refl
test false = inr refl

and_yes : (a b : Bool) → (a && b) ≡ true → (a ≡ true) × (b ≡ true)
and_yes true b e = (refl, e)
and_yes false b e = absurd (false≢true e)

or_yes : (a b : Bool) → (a || b) ≡ true → (a ≡ true) ⊎ (b ≡ true)
or_yes true b e = inl refl
or_yes false b e = inr e

or_no : (a b : Bool) → (a ≡ true) ⊎ (b ≡ true) → (a || b) ≡ true
or_no true b e = refl
or_no false b e = ⊎_elim (λ h. absurd (false≢true h)) (λ h. h) e

same_bool : (a b : Bool) → (a ≡ true → b ≡ true) → (b ≡ true → a ≡ true) → a ≡ b
same_bool true b f g = sym (f refl)
same_bool false true f g = g refl
same_bool false false f g = refl

beq-refl : (a : Bool) → beq a a ≡ true
beq-refl true = refl
beq-refl false = refl

beq-yes : (a b : Bool) → beq a b ≡ true → a ≡ b
beq-yes true true e = refl
beq-yes true false e = sym e
beq-yes false true e = e
beq-yes false false e = refl

module _ {a b : Bool} {P Q : Type 0} (A : Says a P) (B : Says b Q) where
  pub says-and : Says (a && b) (P × Q)
  says-and = record {
    yes = λ e. let r = and_yes a b e in (A.yes r.0, B.yes r.1);
    no = λ h. rw (A.no h.0, B.no h.1);
  }

  pub says-or : Says (a || b) (P ⊎ Q)
  says-or = record {
    yes = λ e. ⊎_elim (λ h. inl (A.yes h)) (λ h. inr (B.yes h)) (or_yes a b e);
    no = λ h. or_no a b (⊎_elim (λ p. inl (A.no p)) (λ q. inr (B.no q)) h);
  }

  pub says_same : Says (beq a b) ((P → Q) × (Q → P))
  says_same = record {
    yes = λ e. let q = beq-yes a b e in (λ p. B.yes (sym q ∙ A.no p), λ p. A.yes (q ∙ B.no p));
    no = λ h. let q : a ≡ b = same_bool a b (λ t. B.no (h.0 (A.yes t))) (λ t. A.no (h.1 (B.yes t))) in
        rw q (beq-refl b);
  }

  -- two tests that say the same are equal
  pub says-equal : (P → Q) → (Q → P) → a ≡ b
  says-equal f g = same_bool a b (λ t. B.no (f (A.yes t))) (λ t. A.no (g (B.yes t)))

  -- not a, or b
  pub says_then : Says (not a || b) (P → Q)
  says_then = record {
    yes = λ e p. ⊎_elim (λ h. absurd (false≢true (sym (ap not (A.no p)) ∙ h))) (λ h. B.yes h) (or_yes (not a) b e);
    no = λ f. ⊎_elim (λ t. or_no (not a) b (inr (B.no (f (A.yes t))))) (λ t. or_no (not a) b (inl (ap not t))) (test a);
  }

module _ {a b : Bool} {P Q R : Type 0} where
  pub says_if : {t : Bool} → Says t R → Says a P → Says b Q → Says (cond t a b) ((R → P) × ((R → ⊥) → Q))
  says_if {t} T A B = go t T A B
    where
      go : (t : Bool) → Says t R → Says a P → Says b Q → Says (cond t a b) ((R → P) × ((R → ⊥) → Q))
      go true T A B =
          record { yes = λ e. (λ r. A.yes e, λ n. absurd (n (T.yes refl))); no = λ h. A.no (h.0 (T.yes refl)) }
      go false T A B =
          record {
            yes = λ e. (λ r. absurd (false≢true (T.no r)), λ n. B.yes e);
            no = λ h. B.no (h.1 (λ r. false≢true (T.no r)));
          }

pub says-by : {b : Bool} {P Q : Type 0} → Says b P → (P → Q) → (Q → P) → Says b Q
says-by B f g = record { yes = λ e. f (B.yes e); no = λ q. B.no (g q) }

module _ (n : ℕ) {p : ℕ → Bool} {P : ℕ → Type 0} (A : (i : ℕ) → Says (p i) (P i)) where
  all-no : (n : ℕ) → ((i : ℕ) → i < n → P i) → all_below n p ≡ true
  unfolding all_below
  all-no zero f = refl
  all-no (suc n) f = rw (all-no n (λ i l. f i (omega arith)), (A n).no (f n (omega arith)))

  pub says_all : Says (all_below n p) ((i : ℕ) → i < n → P i)
  says_all = record {
    yes = λ h i l. (A i).yes (⊎_elim (λ e. e) (λ e. absurd (false≢true (sym (all-fails p n i l e) ∙ h))) (test (p i)));
    no = all-no n;
  }

  any-yes : (n : ℕ) → any_below n p ≡ true → (i : ℕ) × (i < n) × P i
  unfolding any_below
  any-yes zero h = absurd (false≢true h)
  any-yes (suc n) h =
      ⊎_elim (λ e. let r = any-yes n e in (r.0, omega (arith, r.1), r.2)) (λ e. (n, omega arith, (A n).yes e)) (or_yes (any_below n p) (p n) h)

  pub says_any : Says (any_below n p) ((i : ℕ) × (i < n) × P i)
  says_any = record { yes = any-yes n; no = λ r. any-finds p n r.0 r.1 ((A r.0).no r.2) }

pub says-not : {b : Bool} {P : Type 0} → Says b P → (P → ⊥) → b ≡ false
says-not {b} B n = ⊎_elim (λ t. absurd (n (B.yes t))) (λ f. f) (test b)

-- case by case, with what is taken apart in front, so that the cases' facts have their types where `simp` and `omega` stand
pub by-test : {P : Type 0} (b : Bool) → (b ≡ true → P) → (b ≡ false → P) → P
by-test true f g = f refl
by-test false f g = g refl

pub by-case : {A B P : Type 0} → A ⊎ B → (A → P) → (B → P) → P
by-case w f g = ⊎_elim f g w
