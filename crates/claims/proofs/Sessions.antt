-- The sessions that calls put in the place of another: each is in order, and copies the records that it should.
use Prim.Native.Nat.{ℕ, zero, suc, ◌+◌, ◌<◌, ◌≤◌}
use mathlib.Core.Bool.{Bool, true, false, cond, false≢true}
use mathlib.Core.List.{List}
use mathlib.Core.Path.{◌≡◌, refl, sym, ◌∙◌, subst}
use mathlib.Core.Logic.{inl, inr, ◌↔◌}
use native.Mathlib.Nat.{not-suc-le-zero}
use native.Mathlib.Omega.{arith}
use lib.Dec.{ltb}
use lib.ListN.{get_or, set, length, get_or-replicate}
use lib.Seq.{get_or-set_same, get_or-set_other}
use borrow.Author.Tests.{ltb-true, ltb-false}
use Rattle.layout.specs.Below.{lowest}
use Rattle.layout.proofs.Says.{says-lt, says_eq, says-and, by-test}
use Rattle.layout.specs.Homes.{Differ}
use Rattle.desk.specs.Desk.{no_copy, copy_at, copied_rec, is_active, zero_copy, idle_session, with_phase}
use Rattle.desk.specs.Coherent.{zero_copy_b, place_has}
use Rattle.desk.specs.declared.state.Phase.{Phase}
use Rattle.desk.specs.declared.state.Phase.TheVariants.{Idle, Active, Sealed, Published}
use Rattle.desk.specs.declared.state.RecordCopy.{RecordCopy}
use Rattle.desk.specs.declared.state.Session.{Session}
use Rattle.layout.proofs.Counts.{by-same}
use Rattle.desk.proofs.Facts.{CountIn, NumberIn, PlaceIn, SessionIn, Copies}
use Rattle.snapshot.specs.Own.{own_place}

-- what holds of a at place i, and of every other element, holds of every element once a is stored there
pub at_set : {A : Type 0} (l : List A) (i : ℕ) (a z : A) → i < length l → (P : ℕ → A → Type 0) → P i a → ((t : ℕ) → (t ≡ i → ⊥) → P t (get_or l t z)) → (t : ℕ) → P t (get_or (set l i a) t z)
at_set l i a z long P here other t =
    by-same t i
    (λ q. subst (λ (v : ℕ). P v (get_or (set l i a) v z)) (sym q) (subst (P i) (sym (get_or-set_same l i a z long)) here))
    (λ ne. subst (P t) (sym (get_or-set_other l i t a z ne)) (other t ne))

-- a number that is at most the clock stays so when the clock moves on
number-later : (p : Phase) (clock later : ℕ) → clock ≤ later → NumberIn p clock → NumberIn p later
number-later Idle clock later l h = tt
number-later (Active b) clock later l h = (h.0, omega (arith, h.1))
number-later (Sealed p) clock later l h = (h.0, omega (arith, h.1))
number-later (Published e) clock later l h = (h.0, omega (arith, h.1))

-- a session in order, in another phase that fits its count and the clock
pub phase-in : {clock n : ℕ} {e : Session} (p : Phase) (later : ℕ) → SessionIn clock n e → CountIn p e.count → NumberIn p later → SessionIn later n (with_phase e p)
phase-in p later h k b = record { count = k; number = b; slot_small = h.slot_small; slot-none = h.slot-none; places = h.places }

-- a session in order, when the clock moves on
pub session-later : {clock n : ℕ} {e : Session} (later : ℕ) → clock ≤ later → SessionIn clock n e → SessionIn later n e
session-later {clock} {n} {e} later l h = phase-in e.phase later h h.count (number-later e.phase clock later l h.number)

-- an idle session is in order
pub idle-in : (clock n : ℕ) → SessionIn clock n idle_session
idle-in clock n =
    record {
      count = refl;
      number = tt;
      slot_small = omega arith;
      slot-none = inr refl;
      places = λ j l. (λ u. absurd (not-suc-le-zero u), λ u. rw (get_or-replicate 4 j zero_copy no_copy l));
    }

-- an idle session copies nothing
pub idle-none : (k : ℕ) → Copies idle_session k → ⊥
idle-none k c = not-suc-le-zero c.2.0

-- an active session may have any number of copies up to four
active-any : (p : Phase) (k : ℕ) → is_active p ≡ true → k ≤ 4 → CountIn p k
active-any Idle k e l = absurd (false≢true e)
active-any (Active b) k e l = l
active-any (Sealed p) k e l = absurd (false≢true e)
active-any (Published b) k e l = absurd (false≢true e)

-- what a search finds passes the test
lowest-passes : (p : ℕ → Bool) (n : ℕ) → lowest n p < n → p (lowest n p) ≡ true
unfolding lowest
lowest-passes p zero l = absurd (not-suc-le-zero l)
lowest-passes p (suc n) l = go (ltb (lowest n p) n) refl (p n) refl (lowest-passes p n) l
  where
    go : (a : Bool) → ltb (lowest n p) n ≡ a → (b : Bool) → p n ≡ b → (lowest n p < n → p (lowest n p) ≡ true) → cond a (lowest n p) (cond b n (suc n)) < suc n → p (cond a (lowest n p) (cond b n (suc n))) ≡ true
    go true x b y before h = before (ltb-true _ _ x)
    go false x true y before h = y
    go false x false y before h = absurd (omega arith)

-- the session with a copy of record r in place j, and k copies then
abbrev pub written : Session → ℕ → List ℕ → ℕ → ℕ → ℕ → Session
written e r words j k slot = record { phase = e.phase; count = k; slot = slot; copies = set e.copies j (record { rec = r; words = words }) }

-- place j of the session can take record r, which makes k copies: it is that of the record's own copy, or the next one for a record not copied
pub record Room (e : Session) (r j k : ℕ) : Type 0 where
  pub long : length e.copies ≡ 4
  pub inside : j < k
  pub most : k ≤ 4
  pub no_less : e.count ≤ k
  pub no_more : (i : ℕ) → i < k → (i ≡ j → ⊥) → i < e.count
  pub own : j < e.count → copied_rec e j ≡ r
  pub only : (i : ℕ) → i < e.count → copied_rec e i ≡ r → i ≡ j

-- the place of the record's own copy
pub own_room : (e : Session) (r : ℕ) → length e.copies ≡ 4 → e.count ≤ 4 → Differ (copied_rec e) e.count → own_place e r < 4 → Room e r (own_place e r) e.count
own_room e r long most differ found =
    let p = own_place e r in
    let own = (says-and (says-lt p e.count) (says_eq (copied_rec e p) r)).yes (lowest-passes (place_has e r) 4 found) in
    record {
      long = long;
      inside = own.0;
      most = most;
      no_less = omega arith;
      no_more = λ i l ne. l;
      own = λ l. own.1;
      only = λ i l z.
          by-test (ltb i p)
          (λ x. absurd (differ i p (ltb-true i p x) own.0 (z ∙ sym own.1)))
          (λ x. by-test (ltb p i) (λ y. absurd (differ p i (ltb-true p i y) l (own.1 ∙ sym z))) (λ y. omega (arith, ltb-false i p x, ltb-false p i y)));
    }

-- the next place, for a record that is not copied
pub next-room : (e : Session) (r : ℕ) → length e.copies ≡ 4 → e.count < 4 → (Copies e r → ⊥) → Room e r e.count (e.count + 1)
next-room e r long less free =
    record {
      long = long;
      inside = omega arith;
      most = omega arith;
      no_less = omega arith;
      no_more = λ i l ne. omega arith;
      own = λ l. absurd (omega arith);
      only = λ i l z. absurd (free (i, omega arith, (l, z)));
    }

module _ (e : Session) (r : ℕ) (words : List ℕ) (j k slot : ℕ) (h : Room e r j k) where
  -- the session with that copy
  abbrev after : Session
  after = written e r words j k slot

  -- what holds of the copy in place j and of the others holds of each copy
  each : (P : ℕ → RecordCopy → Type 0) → P j (record { rec = r; words = words }) → ((t : ℕ) → (t ≡ j → ⊥) → P t (copy_at e t)) → (t : ℕ) → P t (copy_at after t)
  each = at_set e.copies j (record { rec = r; words = words }) no_copy (omega (arith, h.long, h.inside, h.most))

  -- the record is copied
  pub written_new : Copies after r
  written_new = (j, omega (arith, h.inside, h.most), (h.inside, each (λ t c. t ≡ j → c.rec ≡ r) (λ z. refl) (λ t ne z. absurd (ne z)) j refl))

  -- any other record is copied just where it was
  pub written-old : (q : ℕ) → (q ≡ r → ⊥) → Copies e q ↔ Copies after q
  written-old q ne = (
    λ c. (
      c.0,
      c.1,
      (
        omega (arith, c.2.0, h.no_less),
        each (λ t x. t < e.count → copied_rec e t ≡ q → x.rec ≡ q) (λ l z. absurd (ne (sym z ∙ h.own l))) (λ t n l z. z) c.0 c.2.0 c.2.1,
      ),
    ),
    λ c.
        each (λ t x. t < 4 → t < k → x.rec ≡ q → Copies e q) (λ l u z. absurd (ne (sym z))) (λ t n l u z. (t, l, (h.no_more t u n, z))) c.0 c.1 c.2.0 c.2.1,
  )

  -- the record is in place j only
  there : (t : ℕ) → t < k → copied_rec after t ≡ r → t ≡ j
  there = each (λ t c. t < k → c.rec ≡ r → t ≡ j) (λ u z. refl) (λ t ne u z. h.only t (h.no_more t u ne) z)

  -- the copy places are in order
  places : (n : ℕ) → r < n → ((t : ℕ) → t < 4 → PlaceIn e n t) → (t : ℕ) → t < 4 → PlaceIn after n t
  places n below old =
      each
      (λ t c. t < 4 → (t < k → (c.rec < n) × ((i : ℕ) → i < t → copied_rec after i ≡ c.rec → ⊥)) × ((t < k → ⊥) → zero_copy_b c ≡ true))
      (λ l. (λ u. (below, λ i v z. omega (arith, there i (omega (arith, h.inside)) z)), λ u. absurd (u h.inside)))
      (λ t ne l. (
        λ u. let o = (old t l).0 (h.no_more t u ne) in
            (o.0, each (λ i c. i < t → c.rec ≡ copied_rec e t → ⊥) (λ v z. ne (h.only t (h.no_more t u ne) (sym z))) (λ i n v. o.1 i v)),
        λ u. (old t l).1 (λ v. u (omega (arith, h.no_less))),
      ))

  -- the session is in order
  pub written_in : {clock n : ℕ} → is_active e.phase ≡ true → r < n → slot ≤ 1 → SessionIn clock n e → SessionIn clock n after
  written_in {clock} {n} active below small old =
      record {
        count = active-any e.phase k active h.most;
        number = old.number;
        slot_small = small;
        slot-none = inl (omega (arith, h.inside));
        places = places n below old.places;
      }
