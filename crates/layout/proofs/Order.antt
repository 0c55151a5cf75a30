-- Sessions in the order they began: `act` says which are active, `start` when each began, and `o` has the list, place by place.
use Prim.Native.Nat.{ℕ, zero, suc, ◌+◌, ◌<◌, ◌≤◌}
use mathlib.Core.Bool.{Bool, true, false, not, ◌&&◌, ◌||◌, cond, false≢true}
use mathlib.Core.Path.{◌≡◌, refl, sym, ap, ◌∙◌}
use mathlib.Core.Logic.{◌⊎◌, inl, inr}
use native.Mathlib.Omega.{arith}
use lib.Dec.{eqb, ltb}
use borrow.Author.Tests.{ne_eqb, eq-eqb, ltb-true, ltb-false}
use Rattle.layout.specs.Below.{any_below, count_below}
use Rattle.layout.proofs.BelowLaws.{count_most}
use Rattle.layout.proofs.Says.{says_eq, says_any, says-not, by-test, by-case}
use Rattle.layout.proofs.Counts.{by-same, adds, count_same, count-changed, count_none}

-- place j behind place i: another session, and the start does not fall
abbrev pub Follows : (ℕ → ℕ) → (ℕ → ℕ) → ℕ → ℕ → Type 0
Follows start o j i = (o i ≡ o j → ⊥) × (start (o i) ≤ start (o j))

-- place j in use
abbrev pub Listed : (ℕ → Bool) → (ℕ → ℕ) → (ℕ → ℕ) → ℕ → Type 0
Listed act start o j = ((o j < 16) × (act (o j) ≡ true)) × ((i : ℕ) → i < j → Follows start o j i)

pub record InOrder (act : ℕ → Bool) (start o : ℕ → ℕ) : Type 0 where
  pub used : (j : ℕ) → j < count_below 16 act → Listed act start o j
  pub unused : (j : ℕ) → j < 16 → count_below 16 act ≤ j → o j ≡ 0

and-true : (a : Bool) → (a && true) ≡ a
and-true true = refl
and-true false = refl

pub or-false : (a : Bool) → (a || false) ≡ a
or-false true = refl
or-false false = refl

module _ {act : ℕ → Bool} {start o : ℕ → ℕ} (h : InOrder act start o) where
  -- how many sessions are active
  abbrev count : ℕ
  count = count_below 16 act

  -- two places in use have two sessions
  pub places-apart : (i j : ℕ) → i < count → j < count → (i ≡ j → ⊥) → o i ≡ o j → ⊥
  places-apart i j li lj ne e =
      by-test (ltb i j)
      (λ t. ((h.used j lj).1 i (ltb-true i j t)).0 e)
      (λ f. ((h.used i li).1 j (omega (arith, ltb-false i j f))).0 (sym e))

  -- session s is at a place below j; it is active and at none
  abbrev has : ℕ → ℕ → Bool
  has j s = any_below j (λ i. eqb (o i) s)

  abbrev left : ℕ → ℕ → Bool
  left j s = act s && not (has j s)

  -- a place in use has a session that none before it has
  not-before : (j : ℕ) → j < count → has j (o j) ≡ false
  not-before j l = says-not (says_any j (λ i. says_eq (o i) (o j))) (λ w. ((h.used j l).1 w.0 w.1).0 w.2)

  -- so each place takes one
  left-count : (j : ℕ) → j ≤ count → count_below 16 (left j) + j ≡ count
  unfolding any_below
  left-count zero l = let c = count_same (left zero) act 16 (λ t u. and-true (act t)) in omega arith
  left-count (suc j) l =
      let u = h.used j (omega arith) in
      let same : (t : ℕ) → (t ≡ o j → ⊥) → left (suc j) t ≡ left j t =
      λ t ne. rw (ne_eqb (o j) t (λ q. ne (sym q)), or-false (has j t)) in
      let c = count-changed (left (suc j)) (left j) (o j) same 16 u.0.0 in
      let a : adds (left j (o j)) ≡ 1 = rw (u.0.1, not-before j (omega arith)) in
      let b : adds (left (suc j) (o j)) ≡ 0 = rw (u.0.1, not-before j (omega arith), eq-eqb (o j) (o j) refl) in
      let e = left-count j (omega arith) in
      omega arith

  -- and every active session is at a place in use
  pub all_listed : (s : ℕ) → s < 16 → act s ≡ true → (j : ℕ) × (j < count) × (o j ≡ s)
  all_listed s l a =
      let z : count_below 16 (left count) ≡ 0 = (let c = left-count count (omega arith) in omega arith) in
      let f = count_none (left count) 16 z s l in
      by-test (has count s)
      (λ t. (says_any count (λ j. says_eq (o j) s)).yes t)
      (λ n. absurd (false≢true (sym (rw (a, n) at f))))

  -- ---- a session begins

  module _ {act' : ℕ → Bool} {start' o' : ℕ → ℕ} (s : ℕ) (low : s < 16) (others : (t : ℕ) → (t ≡ s → ⊥) → act' t ≡ act t) (starts : (t : ℕ) → (t ≡ s → ⊥) → start' t ≡ start t) where
    -- it is put behind the active ones, with a start that is not below theirs
    pub joins : act s ≡ false → act' s ≡ true → ((t : ℕ) → t < 16 → act t ≡ true → start t ≤ start' s) → o' count ≡ s → ((j : ℕ) → (j ≡ count → ⊥) → o' j ≡ o j) → InOrder act' start' o'
    joins was is high new old =
        record {
          used = λ j l. by-same j count (λ q. last j q) (λ ne. one j (omega (arith, more)) ne);
          unused = λ j l u. old j (λ q. omega (arith, more)) ∙ h.unused j l (omega (arith, more));
        }
      where
        more : count_below 16 act' ≡ count + 1
        more =
            let c = count-changed act' act s others 16 low in
            let a = ap adds was in
            let b = ap adds is in
            omega arith

        -- a session in use before is not s
        not-s : (j : ℕ) → j < count → o j ≡ s → ⊥
        not-s j l e = false≢true (sym was ∙ ap act (sym e) ∙ (h.used j l).0.1)

        same_start : (j : ℕ) → j < count → start' (o' j) ≡ start (o j)
        same_start j l = ap start' (old j (λ q. omega arith)) ∙ starts (o j) (not-s j l)

        one : (j : ℕ) → j < count + 1 → (j ≡ count → ⊥) → Listed act' start' o' j
        one j l ne =
            let lj : j < count = omega arith in
            let u = h.used j lj in
            let e = old j ne in (
              (omega (arith, u.0.0), ap act' e ∙ others (o j) (not-s j lj) ∙ u.0.1),
              λ i k.
                  let li : i < count = omega arith in
                  let ei = old i (λ q. omega arith) in
                  (λ q. (u.1 i k).0 (sym ei ∙ q ∙ e), omega (arith, (u.1 i k).1, same_start i li, same_start j lj)),
            )

        last : (j : ℕ) → j ≡ count → Listed act' start' o' j
        last j q =
            let e : o' j ≡ s = ap o' q ∙ new in (
              (omega arith, ap act' e ∙ is),
              λ i k.
                  let li : i < count = omega arith in
                  let ei = old i (λ y. omega arith) in
                  let u = h.used i li in
                  let b = ap start' e in
                  (λ y. not-s i li (sym ei ∙ y ∙ e), omega (arith, high (o i) u.0.0 u.0.1, same_start i li)),
            )

-- ---- a session is taken out

-- the place that comes to place j when place p is taken out
abbrev pub skip : ℕ → ℕ → ℕ
skip p j = cond (ltb j p) j (j + 1)

pub skip_is : (p j : ℕ) → ((j < p) × (skip p j ≡ j)) ⊎ ((p ≤ j) × (skip p j ≡ j + 1))
skip_is p j = by-test (ltb j p) (λ t. inl (ltb-true j p t, rw t)) (λ f. inr (ltb-false j p f, rw f))

skip-up : (p i j : ℕ) → i < j → skip p i < skip p j
skip-up p i j l =
    by-case (skip_is p i)
    (λ a. by-case (skip_is p j) (λ b. omega arith) (λ b. omega arith))
    (λ a. by-case (skip_is p j) (λ b. omega arith) (λ b. omega arith))

skip-in : (p j c : ℕ) → p < c → j + 1 < c → (skip p j < c) × (skip p j ≡ p → ⊥)
skip-in p j c l k = by-case (skip_is p j) (λ a. (omega arith, λ q. omega arith)) (λ a. (omega arith, λ q. omega arith))

skip-out : (p j c : ℕ) → p < c → c ≤ j + 1 → (c ≤ skip p j) × (skip p j ≤ j + 1)
skip-out p j c l k = by-case (skip_is p j) (λ a. (omega arith, omega arith)) (λ a. (omega arith, omega arith))

module _ {act : ℕ → Bool} {start o : ℕ → ℕ} (h : InOrder act start o) {act' : ℕ → Bool} {start' o' : ℕ → ℕ} (s : ℕ) (low : s < 16) (others : (t : ℕ) → (t ≡ s → ⊥) → act' t ≡ act t) (starts : (t : ℕ) → (t ≡ s → ⊥) → start' t ≡ start t) where
  -- it stood at place p, and those behind it move up
  pub leaves : act s ≡ true → act' s ≡ false → (p : ℕ) → p < count_below 16 act → o p ≡ s → o 16 ≡ 0 → ((j : ℕ) → j < 16 → o' j ≡ o (skip p j)) → InOrder act' start' o'
  leaves was is p lp at end moved =
      record { used = one; unused = free }
    where
      fewer : count_below 16 act' + 1 ≡ count_below 16 act
      fewer =
          let c = count-changed act' act s others 16 low in
          let a = ap adds was in
          let b = ap adds is in
          omega arith

      inside : (j : ℕ) → j < count_below 16 act' → (skip p j < count_below 16 act) × (skip p j ≡ p → ⊥)
      inside j l = skip-in p j (count_below 16 act) lp (omega (arith, fewer))

      small : (j : ℕ) → j < count_below 16 act' → j < 16
      small j l = omega (arith, fewer, count_most act 16)

      not-s : (j : ℕ) (l : j < count_below 16 act') → o (skip p j) ≡ s → ⊥
      not-s j l e = let k = inside j l in places-apart h (skip p j) p k.0 lp k.1 (e ∙ sym at)

      same_start : (j : ℕ) → j < count_below 16 act' → start' (o' j) ≡ start (o (skip p j))
      same_start j l = ap start' (moved j (small j l)) ∙ starts (o (skip p j)) (not-s j l)

      one : (j : ℕ) → j < count_below 16 act' → Listed act' start' o' j
      one j l =
          let u = h.used (skip p j) (inside j l).0 in
          let e = moved j (small j l) in (
            (omega (arith, u.0.0), ap act' e ∙ others (o (skip p j)) (not-s j l) ∙ u.0.1),
            λ i k.
                let li : i < count_below 16 act' = omega arith in
                let f = u.1 (skip p i) (skip-up p i j k) in
                (λ q. f.0 (sym (moved i (small i li)) ∙ q ∙ e), omega (arith, f.1, same_start i li, same_start j l)),
          )

      free : (j : ℕ) → j < 16 → count_below 16 act' ≤ j → o' j ≡ 0
      free j l u =
          let k = skip-out p j (count_below 16 act) lp (omega (arith, fewer)) in
          moved j l ∙ by-same (skip p j) 16 (λ q. ap o q ∙ end) (λ ne. h.unused (skip p j) (omega (arith, k.1)) k.0)
