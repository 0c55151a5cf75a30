-- The code's test, which strikes marks, is the definition: `coherent_by_striking` is true just where `coherent_b` is.
use Prim.Native.Nat.{ℕ, zero, suc, ◌+◌, ◌-◌, ◌<◌, ◌≤◌}
use mathlib.Core.Bool.{Bool, true, false, not, ◌&&◌, ◌||◌, cond, false≢true}
use mathlib.Core.List.{List}
use mathlib.Core.Path.{◌≡◌, refl, sym, ap, ◌∙◌, subst}
use mathlib.Core.Logic.{◌⊎◌, inl, inr}
use native.Mathlib.Omega.{arith}
use lib.Dec.{ltb, eqb}
use lib.ListN.{get_or, set}
use lib.Seq.{get_or-set_other}
use borrow.Author.Tests.{eqb-true, eqb-false, ne_eqb, not-true}
use Rattle.layout.specs.Below.{all_below, any_below, count_below}
use Rattle.layout.proofs.Says.{Says, says-le, says-lt, says_eq, says-and, says-or, says_all, says_any, says_if, says_then, says-itself, says-by, says-equal, by-test, by-case}
use Rattle.desk.specs.declared.state.Desk.{Desk}
use Rattle.desk.specs.declared.state.Session.{Session}
use Rattle.desk.specs.declared.state.Phase.{Phase}
use Rattle.desk.specs.declared.state.Phase.TheVariants.{Idle, Active, Sealed, Published}
use Rattle.desk.specs.Desk.{copy_at, session_at, mark_at, is_idle, active_count}
use Rattle.desk.specs.Coherent.{limit, zero_copy_b, sealed_at, coherent_b}
use Rattle.desk.specs.Strike.{strikable, struck, struck_places, place_passes, place_passes_at, session_passes, entry_passes, struck_entry, struck_below, entry_passes_at, quiet_at, zero_at, blank_below, coherent_by_striking}
use Rattle.desk.proofs.Facts.{CountIn, says-count, NumberIn, says-number, Copies, MarkIs, Coherent, says-coherent}
use Rattle.desk.proofs.Listed.{set-zero, Passes, says-passes, to-order, to-passes, to-blank}
use Rattle.desk.proofs.Sizes.{SizesIn, says-sizes-pass}

-- record i is struck (b), or not: the mark of record k is 0 or what it was
left_one : (b : Bool) (h : List ℕ) (i k : ℕ) → get_or (cond b (set h i 0) h) k 0 ≡ cond (b && eqb i k) 0 (get_or h k 0)
left_one false h i k = refl
left_one true h i k =
    by-test (eqb i k) (λ e. rw (e, ← eqb-true i k e) (set-zero h i)) (λ e. rw e (get_or-set_other h i k 0 0 (λ q. eqb-false i k e (sym q))))

-- a mark struck twice is struck by the one or the other
left-twice : (a b : Bool) (x : ℕ) → cond b 0 (cond a 0 x) ≡ cond (a || b) 0 x
left-twice true true x = refl
left-twice true false x = refl
left-twice false b x = refl

-- an idle session (i) strikes nothing
left-idle : (i b : Bool) (h l : List ℕ) (k : ℕ) → get_or l k 0 ≡ cond b 0 (get_or h k 0)
    → get_or (cond i h l) k 0 ≡ cond (not i && b) 0 (get_or h k 0)
left-idle true b h l k e = refl
left-idle false b h l k e = e

-- nothing is left of the mark x: it is struck (b), or was 0
left-none : (b : Bool) (x : ℕ) → eqb (cond b 0 x) 0 ≡ (b || eqb x 0)
left-none true x = refl
left-none false x = refl

-- the mark x is left as s + 1: it is not struck (b), and was s + 1
left-mark : (b : Bool) (x s : ℕ) → eqb (cond b 0 x) (s + 1) ≡ (not b && eqb x (s + 1))
left-mark true x s = ne_eqb 0 (s + 1) (λ e. omega arith)
left-mark false x s = refl

-- a test that is false says that its fact is not so
says-no : {b : Bool} {P : Type 0} → Says b P → Says (not b) (P → ⊥)
says-no {b} B = record {
  yes = λ e p. false≢true (sym (not-true b e) ∙ B.no p);
  no = λ f. by-test b (λ t. absurd (f (B.yes t))) (λ e. ap not e);
}

-- a mark left as s + 1, as facts
says-left : {b : Bool} {P Q : Type 0} (x s : ℕ) → Says b P → Says (eqb x (s + 1)) Q → Says (eqb (cond b 0 x) (s + 1)) ((P → ⊥) × Q)
says-left {b} x s B X = rw (left-mark b x s) (says-and (says-no B) X)

-- a test of a session, then a test of each of its places
all-four : (a : Bool) (p : ℕ → Bool) → (a && p 0 && p 1 && p 2 && p 3) ≡ (a && all_below 4 p)
unfolding all_below
all-four true p = refl
all-four false p = refl

-- the same, as facts
says_four : {a : Bool} {A : Type 0} {p : ℕ → Bool} {P : ℕ → Type 0} → Says a A → ((j : ℕ) → Says (p j) (P j))
    → Says (a && p 0 && p 1 && p 2 && p 3) (A × ((j : ℕ) → j < 4 → P j))
says_four {a} {p = p} A B = rw (all-four a p) (says-and A (says_all 4 B))

-- the phase that `is_idle` tests for
idle-is : (p : Phase) → is_idle p ≡ true → p ≡ Idle
idle-is Idle e = refl
idle-is (Active b) e = absurd (false≢true e)
idle-is (Sealed p) e = absurd (false≢true e)
idle-is (Published p) e = absurd (false≢true e)

-- an idle session has no copies
idle-none : (p : Phase) (k : ℕ) → CountIn p k → is_idle p ≡ true → k ≡ 0
idle-none p k c i = rw (idle-is p i) at c

module _ (d : Desk) where
  -- session s, whether it is idle, and the record of its place j
  abbrev at : ℕ → Session
  at s = session_at d s

  abbrev idle_at : ℕ → Bool
  idle_at s = is_idle (at s).phase

  abbrev rec_at : ℕ → ℕ → ℕ
  rec_at s j = (copy_at (at s) j).rec

  -- place j of session s strikes record k
  abbrev hits : ℕ → ℕ → ℕ → Bool
  hits s k j = strikable d.n (at s).count j (copy_at (at s) j) && eqb (rec_at s j) k

  abbrev Hits : ℕ → ℕ → ℕ → Type 0
  Hits s k j = ((j < (at s).count) × ((rec_at s j < d.n) × (rec_at s j < 256))) × (rec_at s j ≡ k)

  -- that test says that fact
  says-hits : (s k j : ℕ) → Says (hits s k j) (Hits s k j)
  says-hits s k j =
      says-and
      (says-and (says-lt j (at s).count) (says-and (says-lt (rec_at s j) d.n) (says-lt (rec_at s j) 256)))
      (says_eq (rec_at s j) k)

  -- session s strikes record k
  abbrev takes : ℕ → ℕ → Bool
  takes k s = not (idle_at s) && any_below 4 (hits s k)

  abbrev Takes : ℕ → ℕ → Type 0
  Takes k s = (idle_at s ≡ true → ⊥) × ((j : ℕ) × (j < 4) × Hits s k j)

  -- that test says that fact
  says-takes : (k s : ℕ) → Says (takes k s) (Takes k s)
  says-takes k s = says-and (says-no (says-itself (idle_at s))) (says_any 4 (says-hits s k))

  -- a session that strikes a record copies it
  takes-copies : (k s : ℕ) → Takes k s → Copies (at s) k
  takes-copies k s w = (w.1.0, w.1.1, (w.1.2.0.0, w.1.2.1))

  -- what the places below j of session s leave of the mark of record k
  left-places : (h : List ℕ) (s k j : ℕ) → get_or (struck_places h d.n (at s) j) k 0 ≡ cond (any_below j (hits s k)) 0 (get_or h k 0)
  unfolding struck_places struck any_below
  left-places h s k zero = refl
  left-places h s k (suc j) =
      left_one (strikable d.n (at s).count j (copy_at (at s) j)) (struck_places h d.n (at s) j) (rec_at s j) k
      ∙ (ap (cond (hits s k j) 0) (left-places h s k j) ∙ left-twice (any_below j (hits s k)) (hits s k j) (get_or h k 0))

  -- what the sessions below s leave of the mark of record k
  left-sessions : (k s : ℕ) → get_or (struck_below d s) k 0 ≡ cond (any_below s (takes k)) 0 (mark_at d k)
  unfolding struck_below struck_entry any_below
  left-sessions k zero = refl
  left-sessions k (suc s) =
      left-idle (idle_at s) _ (struck_below d s) _ k (left-places (struck_below d s) s k 4)
      ∙ (ap (cond (takes k s) 0) (left-sessions k s) ∙ left-twice (any_below s (takes k)) (takes k s) (mark_at d k))

  -- nothing is left of the mark of record k: a session strikes it, or it is 0
  abbrev Gone : ℕ → Type 0
  Gone k = ((s : ℕ) × (s < 16) × Takes k s) ⊎ (mark_at d k ≡ 0)

  -- the code tests it by the list that is left
  says-gone : (k : ℕ) → Says (zero_at (struck_below d 16) k) (Gone k)
  says-gone k =
      rw (left-sessions k 16, left-none (any_below 16 (takes k)) (mark_at d k))
      (says-or (says_any 16 (says-takes k)) (says_eq (mark_at d k) 0))

  -- place j of session s finds its mark at record k, in range: nothing before it strikes the record
  record Finds (s j k : ℕ) : Type 0 where
    low : k < d.n
    small : k < 256
    places : (i : ℕ) × (i < j) × Hits s k i → ⊥
    sessions : (t : ℕ) × (t < s) × Takes k t → ⊥
    mark : mark_at d k ≡ s + 1

  -- the code tests it by the list that it strikes
  says-finds : (s j k : ℕ)
      → Says ((ltb k d.n && ltb k 256) && eqb (get_or (struck_places (struck_below d s) d.n (at s) j) k 0) (s + 1)) (Finds s j k)
  says-finds s j k =
      rw (left-places (struck_below d s) s k j, left-sessions k s)
      (says-by
      (says-and (says-and (says-lt k d.n) (says-lt k 256))
      (says-left _ s (says_any j (says-hits s k)) (says-left _ s (says_any s (says-takes k)) (says_eq (mark_at d k) (s + 1)))))
      (λ t. record { low = t.0.0; small = t.0.1; places = t.1.0; sessions = t.1.1.0; mark = t.1.1.1 })
      (λ f. ((f.low, f.small), (f.places, (f.sessions, f.mark)))))

  -- a place in use finds its mark; any other is zero
  abbrev Place : ℕ → ℕ → Type 0
  Place s j = (j < (at s).count → Finds s j (rec_at s j)) × ((j < (at s).count → ⊥) → zero_copy_b (copy_at (at s) j) ≡ true)

  -- that is what the code tests
  says-place : (s j : ℕ) → Says (place_passes_at (struck_below d s) d.n (at s) (s + 1) j) (Place s j)
  unfolding place_passes
  says-place s j = says_if (says-lt j (at s).count) (says-finds s j (rec_at s j)) (says-itself (zero_copy_b (copy_at (at s) j)))

  -- an idle session has nothing
  abbrev Quiet : ℕ → Type 0
  Quiet s = (((at s).count ≡ 0) × ((at s).slot ≡ 0)) × ((j : ℕ) → j < 4 → zero_copy_b (copy_at (at s) j) ≡ true)

  -- that is what the code tests where the session is idle
  says-quiet : (s : ℕ) → Says (quiet_at d s) (idle_at s ≡ true → Quiet s)
  says-quiet s =
      says_then (says-itself (idle_at s))
      (says_four (says-and (says_eq (at s).count 0) (says_eq (at s).slot 0)) (λ j. says-itself (zero_copy_b (copy_at (at s) j))))

  -- any other session has its numbers in range, and its places find their marks
  abbrev Busy : ℕ → Type 0
  Busy s =
      ((CountIn (at s).phase (at s).count × NumberIn (at s).phase d.clock)
      × (((at s).slot ≤ 1) × ((1 ≤ (at s).count) ⊎ ((at s).slot ≡ 0))))
      × ((j : ℕ) → j < 4 → Place s j)

  -- that is what the code tests where it is not idle
  says-busy : (s : ℕ) → Says (entry_passes_at d s) ((idle_at s ≡ true → true ≡ true) × ((idle_at s ≡ true → ⊥) → Busy s × (s < d.m)))
  unfolding entry_passes session_passes
  says-busy s =
      says_if (says-itself (idle_at s)) (says-itself true)
      (says-and
      (says_four
      (says-and (says-and (says-count (at s).phase (at s).count) (says-number (at s).phase d.clock))
      (says-and (says-le (at s).slot 1) (says-or (says-le 1 (at s).count) (says_eq (at s).slot 0))))
      (says-place s))
      (says-lt s d.m))

  -- an entry of the desk: what is said of a busy session holds of an idle one too
  abbrev Entry : ℕ → Type 0
  Entry s = Busy s × ((s < d.m) ⊎ (idle_at s ≡ true))

  -- an entry, from the two tests
  to-entry : (s : ℕ) → (idle_at s ≡ true → Quiet s) → ((idle_at s ≡ true → ⊥) → Busy s × (s < d.m)) → Entry s
  to-entry s q b =
      by-test (idle_at s)
      (λ i.
      let z : (at s).phase ≡ Idle = idle-is (at s).phase i in
      let places : (j : ℕ) → j < 4 → Place s j = λ j l. (λ u. absurd (omega (arith, (q i).0.0)), λ n. (q i).1 j l) in
      ((((rw z (q i).0.0, rw z tt), (omega (arith, (q i).0.1), inr (q i).0.1)), places), inr i))
      (λ f. let r = b (λ i. false≢true (sym f ∙ i)) in (r.0, inl r.1))

  -- and back, where it is idle
  to-quiet : (s : ℕ) → Busy s → idle_at s ≡ true → Quiet s
  to-quiet s r i =
      let z : (at s).count ≡ 0 = idle-none (at s).phase _ r.0.0.0 i in
      ((z, by-case r.0.1.1 (λ l. absurd (omega arith)) (λ e. e)), λ j l. (r.1 j l).1 (λ u. omega arith))

  -- and where it is not
  to-busy : (s : ℕ) → Entry s → (idle_at s ≡ true → ⊥) → Busy s × (s < d.m)
  to-busy s r n = (r.0, by-case r.1 (λ l. l) (λ i. absurd (n i)))

  -- what `coherent_by_striking` says
  record Sound : Type 0 where
    sizes : SizesIn d
    clock-high : d.clock + count_below 16 (sealed_at d) ≤ limit + 16
    entry : (s : ℕ) → s < 16 → Entry s
    list : (j : ℕ) → j < active_count d → Passes d j
    gone : (k : ℕ) → k < 256 → Gone k
    blank : (j : ℕ) → j < 16 → get_or (blank_below d.order (active_count d)) j 0 ≡ 0

  -- the whole test
  says-sound : Says (coherent_by_striking d) Sound
  unfolding coherent_by_striking
  says-sound =
      says-by
      (says-and (says-sizes-pass d)
      (says-and (says_all 16 says-quiet)
      (says-and (says_all 16 says-busy)
      (says-and (says-le (d.clock + count_below 16 (sealed_at d)) (limit + 16))
      (says-and (says_all (active_count d) (says-passes d))
      (says-and (says_all 256 says-gone) (says_all 16 (λ j. says_eq (get_or (blank_below d.order (active_count d)) j 0) 0))))))))
      (λ t.
      record {
        sizes = t.0;
        clock-high = t.1.1.1.0;
        entry = λ s l. to-entry s (t.1.0 s l) (t.1.1.0 s l).1;
        list = t.1.1.1.1.0;
        gone = t.1.1.1.1.1.0;
        blank = t.1.1.1.1.1.1;
      })
      (λ r. (
        r.sizes,
        (λ s l. to-quiet s (r.entry s l).0, (λ s l. (λ i. refl, to-busy s (r.entry s l)), (r.clock-high, (r.list, (r.gone, r.blank))))),
      ))

  -- two places of a session with one record: the later would find 0
  fresh : (s j : ℕ) → Finds s j (rec_at s j) → j < (at s).count → (i : ℕ) → i < j → rec_at s i ≡ rec_at s j → ⊥
  fresh s j f u i l e = f.places (i, l, ((omega arith, (omega (arith, f.low), omega (arith, f.small))), e))

  module _ (r : Sound) where
    -- a copied record has the mark of the session that copies it, and is below N
    copied : (s k : ℕ) → s < 16 → Copies (at s) k → (mark_at d k ≡ s + 1) × (k < d.n)
    copied s k l c =
        let f = ((r.entry s l).0.1 c.0 c.1).0 c.2.0 in
        subst (λ (k : ℕ). (mark_at d k ≡ s + 1) × (k < d.n)) c.2.1 (f.mark, f.low)

    -- a mark that is gone was struck by the session that it names, or is 0
    marked : (k : ℕ) → k < 256 → MarkIs d k
    marked k l =
        by-case (r.gone k l)
        (λ w.
        let c = takes-copies k w.0 w.2 in
        let m = copied w.0 k w.1 c in
        ((omega arith, λ s ls. (λ e. subst (λ (t : ℕ). Copies (at t) k) (omega arith) c, λ y. (copied s k ls y).0)), inl m.1))
        (λ z. ((omega arith, λ s ls. (λ e. absurd (omega arith), λ y. (copied s k ls y).0)), inr z))

    -- what is sound is coherent
    to-coherent : Coherent d
    to-coherent =
        record {
          clock-low = r.sizes.0.0.0;
          clock-high = r.clock-high;
          n-low = r.sizes.0.1.0;
          n-high = r.sizes.0.1.1;
          m-low = r.sizes.1.0;
          m-high = r.sizes.1.1;
          session = λ s l.
              let x = (r.entry s l).0 in
              record {
                count = x.0.0.0;
                number = x.0.0.1;
                slot_small = x.0.1.0;
                slot-none = x.0.1.1;
                places = λ j lj. (λ u. let f = (x.1 j lj).0 u in (f.low, fresh s j f u), (x.1 j lj).1);
              };
          idle = λ s l. (r.entry s l).1;
          marks = marked;
          order = to-order d r.list r.blank;
        }

  module _ (c : Coherent d) where
    -- a session that copies a record strikes it
    copies-takes : (s k : ℕ) → s < 16 → k < 256 → Copies (at s) k → Takes k s
    copies-takes s k l lk y =
        let low : rec_at s y.0 < d.n = (((c.session s l).places y.0 y.1).0 y.2.0).0 in
        let busy : idle_at s ≡ true → ⊥ = λ i. omega (arith, y.2.0, idle-none (at s).phase _ (c.session s l).count i) in
        (busy, (y.0, y.1, ((y.2.0, (low, omega (arith, y.2.1))), y.2.1)))

    -- the mark of a copied record is there when its place is reached: no other place has the record
    finds : (s j : ℕ) → s < 16 → j < 4 → j < (at s).count → Finds s j (rec_at s j)
    finds s j l lj u =
        let k : ℕ = rec_at s j in
        let p = ((c.session s l).places j lj).0 u in
        let small : k < 256 = omega (arith, p.0, c.n-high) in
        let m : (t : ℕ) → t < 16 → Copies (at t) k → mark_at d k ≡ t + 1 = λ t lt. ((c.marks k small).0.1 t lt).1 in
        let e : mark_at d k ≡ s + 1 = m s l (j, lj, (u, refl)) in
        record {
          low = p.0;
          small = small;
          places = λ w. p.1 w.0 w.1 w.2.1;
          sessions = λ w. omega (arith, e, w.1, m w.0 (omega (arith, w.1)) (takes-copies k w.0 w.2));
          mark = e;
        }

    -- each mark is 0 or names a session, which copies the record
    gone-all : (k : ℕ) → k < 256 → Gone k
    gone-all k l =
        by-test (eqb (mark_at d k) 0)
        (λ e. inr (eqb-true _ _ e))
        (λ f.
        let h : mark_at d k ≡ 0 → ⊥ = eqb-false _ _ f in
        let s : ℕ = mark_at d k - 1 in
        let ls : s < 16 = omega (arith, (c.marks k l).0.0) in
        inl (s, ls, copies-takes s k ls l (((c.marks k l).0.1 s ls).0 (omega arith))))

    -- what is coherent is sound
    to-sound : Sound
    to-sound =
        record {
          sizes = (((c.clock-low, omega (arith, c.clock-high)), (c.n-low, c.n-high)), (c.m-low, c.m-high));
          clock-high = c.clock-high;
          entry = λ s l.
              let x = c.session s l in
              let places : (j : ℕ) → j < 4 → Place s j = λ j lj. (finds s j l lj, (x.places j lj).1) in
              ((((x.count, x.number), (x.slot_small, x.slot-none)), places), c.idle s l);
          list = to-passes d c.order;
          gone = gone-all;
          blank = to-blank d c.order;
        }

  -- the test that strikes marks is the definition
  pub sound-coherent : coherent_by_striking d ≡ coherent_b d
  sound-coherent = says-equal says-sound (says-coherent d) to-coherent to-sound
