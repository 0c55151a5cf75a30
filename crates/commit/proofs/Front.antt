-- The front run of equal starts of the list of active sessions has the reader that settle waits for: the full walk's answer.
use Prim.Native.Nat.{ℕ, ◌+◌, ◌<◌, ◌≤◌, min}
use mathlib.Core.Bool.{true, false, cond, false≢true, ◌&&◌}
use mathlib.Core.Path.{◌≡◌, refl, sym, ap, ◌∙◌}
use mathlib.Core.Logic.{◌⊎◌}
use native.Mathlib.Omega.{arith}
use lib.Dec.{ltb, leb, eqb}
use borrow.Author.Tests.{lt-ltb, ltb-true, ltb-false, leb-true, leb-false, eqb-true, eq-eqb, ne_eqb}
use Rattle.std.specs.Prelude.{Option, Some, None}
use Rattle.std.specs.Option.{option_eq}
use Rattle.layout.specs.Oldest.{oldest_of}
use Rattle.layout.specs.declared.oldest.Oldest.{Oldest}
use Rattle.layout.proofs.Least.{Least, oldest-is}
use Rattle.layout.proofs.Says.{by-test, by-case}
use Rattle.desk.specs.Desk.{session_at, order_at, is_active, start_of, active_count}
use Rattle.desk.specs.declared.state.Phase.{Phase}
use Rattle.desk.specs.declared.state.Phase.TheVariants.{Idle, Active, Sealed, Published}
use Rattle.desk.specs.declared.state.Desk.{Desk}
use Rattle.layout.proofs.Counts.{by-same}
use Rattle.desk.proofs.Facts.{NumberIn, Coherent}
use Rattle.layout.proofs.Order.{all_listed}
use Rattle.commit.specs.Settle.{start_below, reader_below}

-- two that are oldest of the same numbers are one
least-one : (f : ℕ → ℕ) (n : ℕ) (a b : Oldest) → Least f n a → Least f n b → (a.number ≡ 0 → ⊥) → (a.number ≡ b.number) × (a.place ≡ b.place)
least-one f n a b x y nz =
    let p = x.some nz in
    let other : b.number ≡ 0 → ⊥ = λ z. nz (sym p.1 ∙ y.none z a.place p.0) in
    let q = y.some other in
    let l = y.least a.place p.0 (λ z. nz (sym p.1 ∙ z)) in
    let m = x.least b.place q.0 (λ z. other (sym q.1 ∙ z)) in
    let e : a.number ≡ b.number = omega (arith, p.1, q.1) in (
      e,
      by-test (ltb a.place b.place)
          (λ t. absurd (omega (arith, y.first other a.place (ltb-true a.place b.place t) (λ z. nz (sym p.1 ∙ z)), p.1)))
          (λ u.
          by-test (ltb b.place a.place)
          (λ t. absurd (omega (arith, x.first nz b.place (ltb-true b.place a.place t) (λ z. other (sym q.1 ∙ z)), q.1)))
          (λ v. omega (arith, ltb-false a.place b.place u, ltb-false b.place a.place v))),
    )

-- the start of a session in the way is its start
pub in-the-way : (end : ℕ) (p : Phase) → (start_below end p ≡ 0 → ⊥) → (is_active p ≡ true) × ((start_below end p ≡ start_of p) × (start_of p < end))
in-the-way end Idle n = absurd (n refl)
in-the-way end (Active b) n = by-test (ltb b end) (λ t. (refl, (rw t, ltb-true b end t))) (λ f. absurd (n (rw f)))
in-the-way end (Sealed p) n = absurd (n refl)
in-the-way end (Published e) n = absurd (n refl)

pub active-below : (end clock : ℕ) (p : Phase) → NumberIn p clock → is_active p ≡ true → start_of p < end → (start_below end p ≡ start_of p) × (start_below end p ≡ 0 → ⊥)
active-below end clock Idle n a l = absurd (false≢true a)
active-below end clock (Active b) n a l = (rw (lt-ltb b end l), λ z. let y = rw (lt-ltb b end l) at z in omega (arith, n.0))
active-below end clock (Sealed p) n a l = absurd (false≢true a)
active-below end clock (Published e) n a l = absurd (false≢true a)

-- every place of the list has a session below 16
pub order_small : (d : Desk) → Coherent d → (j : ℕ) → j < 16 → order_at d j < 16
order_small d h j l =
    by-test (ltb j (active_count d))
    (λ t. (h.order.used j (ltb-true _ _ t)).0.0)
    (λ f. let z = h.order.unused j l (ltb-false _ _ f) in omega arith)

-- the places below j have the start of the front, and `low` is the lowest of their sessions
pub record Run (d : Desk) (end j low : ℕ) : Type 0 where
  pub same : (i : ℕ) → i < j → (start_below end (session_at d (order_at d i)).phase ≡ start_below end (session_at d (order_at d 0)).phase) × (low ≤ order_at d i)
  pub at : (i : ℕ) × (i < j) × (order_at d i ≡ low)

pub run-start : (d : Desk) (end : ℕ) → Run d end 1 (order_at d 0)
run-start d end =
    record {
      same = λ i l. let z : i ≡ 0 = omega arith in rw z (refl, omega arith);
      at = (0, omega arith, refl);
    }

pub run_more : (d : Desk) (end j low next : ℕ) → Run d end j low → start_below end (session_at d (order_at d j)).phase ≡ start_below end (session_at d (order_at d 0)).phase
    → next ≡ min low (order_at d j) → Run d end (j + 1) next
run_more d end j low next r e m =
    record {
      same = λ i l. by-same i j
          (λ q. rw q (e, omega (arith, m)))
          (λ ne. let s = r.same i (omega arith) in (s.0, omega (arith, s.1, m)));
      at = by-test (leb low (order_at d j))
          (λ t. (r.at.0, omega (arith, r.at.1), omega (arith, leb-true _ _ t, r.at.2, m)))
          (λ f. (j, omega arith, omega (arith, leb-false _ _ f, m)));
    }

module _ (d : Desk) (h : Coherent d) (end : ℕ) where
  -- the starts in the way, as the full walk has them
  abbrev f : ℕ → ℕ
  f t = start_below end (session_at d t).phase

  abbrev o : ℕ → ℕ
  o = order_at d

  -- a session in the way is at a place in use
  placed : (k : ℕ) → k < 16 → (f k ≡ 0 → ⊥) → (j : ℕ) × (j < active_count d) × (o j ≡ k)
  placed k l n = all_listed h.order k l (in-the-way end (session_at d k).phase n).0

  -- and one before it is in the way too, with a start that is not above
  before : (i j : ℕ) → i ≤ j → j < active_count d → (f (o j) ≡ 0 → ⊥) → (f (o i) ≡ 0 → ⊥) × (f (o i) ≤ f (o j))
  before i j l lj n =
      by-same i j
      (λ q. rw q (n, omega arith))
      (λ ne.
      let w = in-the-way end (session_at d (o j)).phase n in
      let u = h.order.used i (omega arith) in
      let s = ((h.order.used j lj).1 i (omega arith)).1 in
      let a = active-below end d.clock (session_at d (o i)).phase (h.session (o i) u.0.0).number u.0.1 (omega (arith, s, w.1.1)) in
      (a.1, omega (arith, a.0, w.1.0, s)))

  -- no one is in the way if the front is not
  none-left : f (o 0) ≡ 0 → (k : ℕ) → k < 16 → f k ≡ 0
  none-left z k l =
      by-same (f k) 0
      (λ q. q)
      (λ n. let p = placed k l n in absurd ((before 0 p.0 (omega arith) p.1 (λ y. n (ap f (sym p.2) ∙ y))).0 z))

  pub front-none : f (o 0) ≡ 0 → (oldest_of f 16).number ≡ 0
  front-none z =
      by-same (oldest_of f 16).number 0
      (λ q. q)
      (λ n. let s = (oldest-is f 16).some n in absurd (n (sym s.1 ∙ none-left z (oldest_of f 16).place s.0)))

  module _ (n : f (o 0) ≡ 0 → ⊥) (j low : ℕ) (most : j ≤ 16) (r : Run d end j low) (stop : (active_count d ≤ j) ⊎ (f (o j) ≡ f (o 0) → ⊥)) where
    -- every session with the front's start is in the run, so that it is not below the lowest
    covered : (k : ℕ) → k < 16 → f k ≡ f (o 0) → low ≤ k
    covered k l e =
        let p = placed k l (λ z. n (sym e ∙ z)) in
        by-test (ltb p.0 j)
        (λ t. omega (arith, (r.same p.0 (ltb-true p.0 j t)).1, p.2))
        (λ u.
        by-case stop
        (λ s. absurd (omega (arith, p.1, ltb-false p.0 j u)))
        (λ ne.
        let ek : f (o p.0) ≡ f (o 0) = ap f p.2 ∙ e in
        let b = before j p.0 (ltb-false p.0 j u) p.1 (λ z. n (sym ek ∙ z)) in
        let c = before 0 j (omega arith) (omega (arith, p.1, ltb-false p.0 j u)) b.0 in
        absurd (ne (omega (arith, b.1, c.1, ek)))))

    front-least : Least f 16 (record { number = f (o 0); place = low })
    front-least =
        record {
          none = λ z. absurd (n z);
          some = λ _. (omega (arith, order_small d h r.at.0 (omega (arith, r.at.1)), r.at.2), ap f (sym r.at.2) ∙ (r.same r.at.0 r.at.1).0);
          least = least;
          first = λ _ k l nz.
              let lk : k < 16 = omega (arith, order_small d h r.at.0 (omega (arith, r.at.1)), r.at.2) in
              let a = least k lk nz in
              by-same (f k) (f (o 0)) (λ e. absurd (omega (arith, covered k lk e))) (λ ne. omega (arith, a));
        }
      where
        least : (k : ℕ) → k < 16 → (f k ≡ 0 → ⊥) → f (o 0) ≤ f k
        least k l nz =
            let p = placed k l nz in
            let e : f (o p.0) ≡ f k = ap f p.2 in
            let b = before 0 p.0 (omega arith) p.1 (λ z. nz (sym e ∙ z)) in
            omega (arith, b.1, e)

    -- the front's start with the lowest session of its run is the full walk's reader
    pub front-is : record { number = f (o 0); place = low } ≡ oldest_of f 16
    front-is =
        let e = least-one f 16 (record { number = f (o 0); place = low }) (oldest_of f 16) front-least (oldest-is f 16) n in
        rw (e.0, e.1)

-- the lowest session of a run is below 16
pub low_small : (d : Desk) → Coherent d → (end j low : ℕ) → j ≤ 16 → Run d end j low → low < 16
low_small d h end j low l r = let s = order_small d h r.at.0 (omega (arith, r.at.1)) in omega (arith, r.at.2)

module _ (d : Desk) (h : Coherent d) (end : ℕ) where
  abbrev front : ℕ
  front = start_below end (session_at d (order_at d 0)).phase

  -- the front is in the way: the lowest session of its run is the reader
  pub reader-waits : (front ≡ 0 → ⊥) → (j low : ℕ) → j ≤ 16 → Run d end j low
      → (active_count d ≤ j) ⊎ (start_below end (session_at d (order_at d j)).phase ≡ front → ⊥) → reader_below d end ≡ Some low
  reader-waits n j low l r stop = rw (← (front-is d h end n j low l r stop), ne_eqb front 0 n)

  -- it is not: there is none
  pub reader-none : front ≡ 0 → reader_below d end ≡ None
  reader-none z = rw (front-none d h end z)

-- the start of an active session that is below an end, as the full walk has it: 0 for any other
module _ (end clock : ℕ) (p : Phase) {o : Option ℕ} (e : o ≡ cond (is_active p && ltb (start_of p) end) (Some (start_of p)) None) where
  pub start-some : NumberIn p clock → (b : ℕ) → o ≡ Some b → (start_below end p ≡ b) × (b ≡ 0 → ⊥)
  start-some = go p e
    where
      go : (p : Phase) → o ≡ cond (is_active p && ltb (start_of p) end) (Some (start_of p)) None → NumberIn p clock → (b : ℕ) → o ≡ Some b → (start_below end p ≡ b) × (b ≡ 0 → ⊥)
      go Idle e n b s = absurd (cc)
      go (Active a) e n b s =
          by-test (ltb a end)
          (λ t. let q : a ≡ b = (let x = rw t at e in cc) in (rw t q, λ z. omega (arith, n.0, q, z)))
          (λ f. absurd (let x = rw f at e in cc))
      go (Sealed a) e n b s = absurd (cc)
      go (Published a) e n b s = absurd (cc)

  pub start-none : o ≡ None → start_below end p ≡ 0
  start-none = go p e
    where
      go : (p : Phase) → o ≡ cond (is_active p && ltb (start_of p) end) (Some (start_of p)) None → o ≡ None → start_below end p ≡ 0
      go Idle e s = refl
      go (Active a) e s = by-test (ltb a end) (λ t. absurd (let x = rw t at e in cc)) (λ f. rw f)
      go (Sealed a) e s = refl
      go (Published a) e s = refl

  -- a session with this start that is in the way
  pub start-same : (b : ℕ) → (b ≡ 0 → ⊥) → start_below end p ≡ b → o ≡ Some b
  start-same = go p e
    where
      go : (p : Phase) → o ≡ cond (is_active p && ltb (start_of p) end) (Some (start_of p)) None → (b : ℕ) → (b ≡ 0 → ⊥) → start_below end p ≡ b → o ≡ Some b
      go Idle e b n s = absurd (n (sym s))
      go (Active a) e b n s = by-test (ltb a end) (λ t. e ∙ rw (t, rw t at s)) (λ f. absurd (n (sym (rw f at s))))
      go (Sealed a) e b n s = absurd (n (sym s))
      go (Published a) e b n s = absurd (n (sym s))

-- two answers that are compared
pub same_start : (o : Option ℕ) (b : ℕ) → option_eq eqb o (Some b) ≡ true → o ≡ Some b
same_start (Some a) b e = ap Some (eqb-true a b e)
same_start None b e = absurd (false≢true e)

pub other_start : (o : Option ℕ) (b : ℕ) → option_eq eqb o (Some b) ≡ false → o ≡ Some b → ⊥
other_start o b e s = false≢true (sym (rw s at e) ∙ eq-eqb b b refl)
