-- A steady desk is coherent and has its arrays at their lengths. A change of one session keeps it so: another phase, a copy, or its marks and copies
-- dropped.
use Prim.Native.Nat.{ℕ, zero, suc, ◌+◌, ◌<◌, ◌≤◌}
use mathlib.Core.Bool.{Bool, true, false, ◌||◌}
use mathlib.Core.List.{List}
use mathlib.Core.Path.{◌≡◌, refl, sym, ap, ◌∙◌, subst, fun_ext}
use mathlib.Core.Logic.Iff
use mathlib.Core.Logic.{◌⊎◌, inl, inr, ◌↔◌}
use native.Mathlib.Nat.{not-suc-le-zero}
use native.Mathlib.Omega.{arith}
use lib.Dec.{leb, ltb, eqb}
use lib.ListN.{get_or, set, length, length-set, get_or-eq_default}
use lib.Seq.{get_or-set_same, get_or-set_other, set-get_or}
use borrow.Author.Tests.{eqb-true}
use Rattle.layout.specs.Below.{count_below}
use Rattle.layout.proofs.BelowLaws.{count_most}
use Rattle.layout.specs.Checks.{unless}
use Rattle.layout.proofs.ChecksLaws.{first-both, unless-zero}
use Rattle.layout.proofs.Says.{says-lt, says-le, says-or, by-test, by-case}
use Rattle.desk.specs.Desk.{no_copy, no_session, session_at, mark_at, is_idle, is_active, is_sealed, start_of, start_at, active_at, active_count, idle_session, with_phase, changed, put_session, joined, without, unmarked, rest_marks}
use Rattle.desk.specs.Coherent.{limit, sealed_at}
use Rattle.desk.specs.declared.state.Phase.{Phase}
use Rattle.desk.specs.declared.state.Phase.TheVariants.{Idle, Active, Sealed, Published}
use Rattle.desk.specs.declared.state.RecordCopy.{RecordCopy}
use Rattle.desk.specs.declared.state.Session.{Session}
use Rattle.desk.specs.declared.state.Desk.{Desk}
use Rattle.layout.proofs.Counts.{by-same, adds, count-changed, count_less}
use Rattle.desk.proofs.Facts.{CountIn, NumberIn, SessionIn, Copies, MarkIs, Coherent}
use Rattle.layout.proofs.Order.{InOrder, all_listed, joins, leaves}
use Rattle.desk.proofs.Without.{length_without, without_at}
use Rattle.desk.proofs.Copied.{copies-four, copies-differ}
use Rattle.snapshot.specs.Own.{own_place}
use Rattle.snapshot.specs.Write.{empty_slot, copy_fault, overwritten, reserved, copied}
use Rattle.snapshot.proofs.WriteLaws.{copy-room}
use Rattle.claims.specs.Listing.{Sized}
use Rattle.claims.proofs.Sessions.{at_set, phase-in, session-later, idle-in, idle-none, written, Room, own_room, next-room, written_new, written-old, written_in}

pub record Steady (d : Desk) : Type 0 where
  pub coherent : Coherent d
  pub sized : Sized d

-- a desk of the same store that is steady
pub record Kept (d d' : Desk) : Type 0 where
  pub steady : Steady d'
  pub n-same : d'.n ≡ d.n
  pub m-same : d'.m ≡ d.m

-- the order depends on which sessions are active, and on their starts
pub order_same : {act act' : ℕ → Bool} {start start' o : ℕ → ℕ} → ((t : ℕ) → act t ≡ act' t) → ((t : ℕ) → start t ≡ start' t)
    → InOrder act start o → InOrder act' start' o
order_same {act} {act'} {start} {start'} {o} a b h =
    subst (λ (g : ℕ → ℕ). InOrder act' g o) (fun_ext b) (subst (λ (g : ℕ → Bool). InOrder g start o) (fun_ext a) h)

-- the list of active sessions, with the entry e for session s
pub record Order (d : Desk) (s : ℕ) (e : Session) (order : List ℕ) : Type 0 where
  pub long : length order ≡ 16
  pub holds : InOrder (active_at (changed d s e d.clock d.holders order)) (start_at (changed d s e d.clock d.holders order)) (λ j. get_or order j 0)

-- what is asked of such a change: the clock is not set back, and with the number of sealed sessions does not pass its limit; the entry is in order;
-- the marks of session s are those of its copies, and the marks of the others are as they were; the active sessions are in order
record Change (d : Desk) (s : ℕ) (e : Session) (clock : ℕ) (holders order : List ℕ) : Type 0 where
  later : d.clock ≤ clock
  high : (clock + adds (is_sealed e.phase) ≤ d.clock + adds (sealed_at d s)) ⊎ (clock ≤ limit)
  session : SessionIn clock d.n e
  four : length e.copies ≡ 4
  long : length holders ≡ 256
  ordered : Order d s e order
  mine : (k : ℕ) → k < 256 → get_or holders k 0 ≡ s + 1 ↔ Copies e k
  others : (k : ℕ) → k < 256 → (t : ℕ) → (t ≡ s → ⊥) → get_or holders k 0 ≡ t + 1 ↔ mark_at d k ≡ t + 1

-- the start of a session is at most the clock
active-most : (p : Phase) (clock : ℕ) → NumberIn p clock → start_of p ≤ clock
active-most Idle clock n = omega arith
active-most (Active b) clock n = n.1
active-most (Sealed q) clock n = omega arith
active-most (Published q) clock n = omega arith

-- marks taken away leave the array as long as it was
length-unmarked : (h : List ℕ) (cs : List RecordCopy) (c : ℕ) → length (unmarked h cs c) ≡ length h
unfolding unmarked
length-unmarked h cs zero = refl
length-unmarked h cs (suc c) = simp length-set (length-unmarked h cs c)

-- a mark is taken away where one of the first c copies is of its record, and left where none is
unmarked-at : (h : List ℕ) (cs : List RecordCopy) (k : ℕ) → k < length h → (c : ℕ)
    → ((get_or (unmarked h cs c) k 0 ≡ 0) × ((j : ℕ) × (j < c) × ((get_or cs j no_copy).rec ≡ k)))
    ⊎ ((get_or (unmarked h cs c) k 0 ≡ get_or h k 0) × ((j : ℕ) → j < c → (get_or cs j no_copy).rec ≡ k → ⊥))
unfolding unmarked
unmarked-at h cs k l zero = inr (refl, λ j u. absurd (not-suc-le-zero u))
unmarked-at h cs k l (suc c) =
    by-same (get_or cs c no_copy).rec k
    (λ z. inl (rw z (get_or-set_same (unmarked h cs c) k 0 0 (rw (length-unmarked h cs c) l)), (c, omega arith, z)))
    (λ ne. let other = get_or-set_other (unmarked h cs c) (get_or cs c no_copy).rec k 0 0 (λ q. ne (sym q)) in
    by-case (unmarked-at h cs k l c)
    (λ w. inl (other ∙ w.0, (w.1.0, omega (arith, w.1.1), w.1.2)))
    (λ w. inr (other ∙ w.0, λ j u z. by-same j c (λ q. ne (rw q at z)) (λ n. w.1 j (omega arith) z))))

-- a record that may be copied is unmarked
copy-free : (mark count free : ℕ) → copy_fault mark count free ≡ 0 → mark ≡ 0
unfolding copy_fault
copy-free mark count free z = eqb-true mark 0 (unless-zero (eqb mark 0) 6 (first-both (unless (eqb mark 0) 7) _ z).0)

-- the slot reserved for the copies is 0 or 1
copy-slot : (mark count free slot : ℕ) → copy_fault mark count free ≡ 0 → slot ≤ 1 → reserved count free slot ≤ 1
unfolding copy_fault
copy-slot mark count free slot z small =
    let a = first-both (unless (eqb mark 0) 7) _ z in
    let b = first-both (unless (ltb count 4) 8) _ a.1 in
    let c = (says-or (says-le 1 count) (says-lt free 2)).yes (unless-zero (leb 1 count || ltb free 2) 8 b.1) in
    by-test (eqb count 0)
    (λ y. let none : count ≡ 0 = eqb-true count 0 y in rw y (by-case c (λ l. absurd (omega arith)) (λ l. omega arith)))
    (λ y. rw y small)

module _ (d : Desk) (s : ℕ) (h : Steady d) (low : s < d.m) where
  -- session s has an entry
  small : s < 16
  small = omega (arith, h.coherent.m-high)

  -- the array of sessions reaches that far
  stored : s < length d.sessions
  stored = omega (arith, small, h.sized.sessions)

  -- it is in order
  ordered : SessionIn d.clock d.n (session_at d s)
  ordered = h.coherent.session s small

  -- it has four copy places
  four-places : length (session_at d s).copies ≡ 4
  four-places = h.sized.copies s small

  -- the marks for it are those of its copies
  marked : (k : ℕ) → k < 256 → mark_at d k ≡ s + 1 ↔ Copies (session_at d s) k
  marked k l = (h.coherent.marks k l).0.1 s small

  -- what holds of the new entry and of the others holds of each session
  put-each : (e : Session) (P : ℕ → Session → Type 0) → P s e → ((t : ℕ) → (t ≡ s → ⊥) → P t (session_at d t)) → (t : ℕ) → P t (get_or (set d.sessions s e) t no_session)
  put-each e = at_set d.sessions s e no_session stored

  -- the entry put there, and the others
  put-here : (e : Session) → get_or (set d.sessions s e) s no_session ≡ e
  put-here e = get_or-set_same d.sessions s e no_session stored

  put-there : (e : Session) (t : ℕ) → (t ≡ s → ⊥) → get_or (set d.sessions s e) t no_session ≡ session_at d t
  put-there e t ne = get_or-set_other d.sessions s t e no_session ne

  -- a session that stays active, or inactive, stays where it is in the list
  pub same-order : (e : Session) → is_active e.phase ≡ active_at d s → start_of e.phase ≡ start_at d s → Order d s e d.order
  same-order e a b =
      record {
        long = h.sized.order;
        holds =
            order_same (put-each e (λ t f. active_at d t ≡ is_active f.phase) (sym a) (λ t ne. refl))
            (put-each e (λ t f. start_at d t ≡ start_of f.phase) (sym b) (λ t ne. refl)) h.coherent.order;
      }

  -- a session that begins at the clock is put behind the active ones
  pub begin-order : (e : Session) → active_at d s ≡ false → is_active e.phase ≡ true → start_of e.phase ≡ d.clock → Order d s e (joined d s)
  begin-order e was is start =
      let room = count_less (active_at d) 16 s small was in
      record {
        long = length-set d.order (active_count d) s ∙ h.sized.order;
        holds =
            joins h.coherent.order s small
            (λ t ne. ap (λ (f : Session). is_active f.phase) (put-there e t ne))
            (λ t ne. ap (λ (f : Session). start_of f.phase) (put-there e t ne))
            was
            (ap (λ (f : Session). is_active f.phase) (put-here e) ∙ is)
            (λ t l a. let b = ap (λ (f : Session). start_of f.phase) (put-here e) in
            omega (arith, active-most (session_at d t).phase d.clock (h.coherent.session t l).number, start))
            (get_or-set_same d.order (active_count d) s 0 (omega (arith, h.sized.order)))
            (λ j ne. get_or-set_other d.order (active_count d) j s 0 ne);
      }

  -- an active session that ends is taken out
  pub end-order : (e : Session) → active_at d s ≡ true → is_active e.phase ≡ false → Order d s e (without s d.order)
  end-order e was is =
      let p = all_listed h.coherent.order s small was in
      record {
        long = length_without s d.order ∙ h.sized.order;
        holds =
            leaves h.coherent.order s small
            (λ t ne. ap (λ (f : Session). is_active f.phase) (put-there e t ne))
            (λ t ne. ap (λ (f : Session). start_of f.phase) (put-there e t ne))
            was
            (ap (λ (f : Session). is_active f.phase) (put-here e) ∙ is)
            p.0 p.1 p.2
            (get_or-eq_default d.order 0 (omega (arith, h.sized.order)))
            (λ j l. without_at s d.order p.0 (omega (arith, p.1, count_most (active_at d) 16, h.sized.order)) p.2
            (λ i k q. ((h.coherent.order.used p.0 p.1).1 i k).0 (q ∙ sym p.2)) j);
      }

  module _ (e : Session) (clock : ℕ) (holders order : List ℕ) (c : Change d s e clock holders order) where
    each : (P : ℕ → Session → Type 0) → P s e → ((t : ℕ) → (t ≡ s → ⊥) → P t (session_at d t)) → (t : ℕ) → P t (session_at (changed d s e clock holders order) t)
    each = put-each e

    -- the clock with the number of sealed sessions stays within its limit
    clock-high : clock + count_below 16 (sealed_at (changed d s e clock holders order)) ≤ limit + 16
    clock-high =
        by-case c.high
        (λ l. let k = count-changed (sealed_at (changed d s e clock holders order)) (sealed_at d) s (each (λ t f. (t ≡ s → ⊥) → is_sealed f.phase ≡ sealed_at d t) (λ ne. absurd (ne refl)) (λ t ne z. refl)) 16 small in
        let a = ap (λ (f : Session). adds (is_sealed f.phase)) (get_or-set_same d.sessions s e no_session stored) in
        omega (arith, h.coherent.clock-high))
        (λ l. omega (arith, count_most (sealed_at (changed d s e clock holders order)) 16))

    -- a mark names a session, and is none from N up
    mark-in : (k : ℕ) → k < 256 → (v : ℕ) → get_or holders k 0 ≡ v → (v ≤ 16) × ((k < d.n) ⊎ (v ≡ 0))
    mark-in k l zero q = (omega arith, inr refl)
    mark-in k l (suc t) q =
        by-same t s
        (λ z. let w = (c.mine k l).0 (omega arith) in
        (omega (arith, small), inl (rw w.2.1 at ((c.session.places w.0 w.1).0 w.2.0).0)))
        (λ ne. let o = (c.others k l t ne).0 (omega arith) in
        let m = h.coherent.marks k l in
        (omega (arith, m.0.0), by-case m.1 inl (λ z. absurd (omega arith))))

    -- and it is that of the session that copies its record
    mark-is : (k : ℕ) → k < 256 → MarkIs (changed d s e clock holders order) k
    mark-is k l =
        let w = mark-in k l (get_or holders k 0) refl in
        let copied-by =
        each (λ t f. t < 16 → get_or holders k 0 ≡ t + 1 ↔ Copies f k)
        (λ u. c.mine k l)
        (λ t ne u. Iff.trans (c.others k l t ne) ((h.coherent.marks k l).0.1 t u)) in
        ((w.0, copied-by), w.1)

    -- the changed desk is steady
    change-kept : Kept d (changed d s e clock holders order)
    change-kept =
        record {
          steady =
              record {
                coherent =
                    record {
                      clock-low = omega (arith, h.coherent.clock-low, c.later);
                      clock-high = clock-high;
                      n-low = h.coherent.n-low;
                      n-high = h.coherent.n-high;
                      m-low = h.coherent.m-low;
                      m-high = h.coherent.m-high;
                      session = each (λ t f. t < 16 → SessionIn clock d.n f) (λ l. c.session) (λ t ne l. session-later clock c.later (h.coherent.session t l));
                      idle = each (λ t f. t < 16 → (t < d.m) ⊎ (is_idle f.phase ≡ true)) (λ l. inl low) (λ t ne. h.coherent.idle t);
                      marks = mark-is;
                      order = c.ordered.holds;
                    };
                sized =
                    record {
                      holders = c.long;
                      sessions = length-set d.sessions s e ∙ h.sized.sessions;
                      copies = each (λ t f. t < 16 → length f.copies ≡ 4) (λ l. c.four) (λ t ne. h.sized.copies t);
                      order = c.ordered.long;
                    };
              };
          n-same = refl;
          m-same = refl;
        }

  -- another phase
  pub phase-kept : (p : Phase) (clock : ℕ) → d.clock ≤ clock → (clock + adds (is_sealed p) ≤ d.clock + adds (sealed_at d s)) ⊎ (clock ≤ limit) → CountIn p (session_at d s).count → NumberIn p clock
      → (order : List ℕ) → Order d s (with_phase (session_at d s) p) order → Kept d (changed d s (with_phase (session_at d s) p) clock d.holders order)
  phase-kept p clock later high count number order ordered-by =
      change-kept (with_phase (session_at d s) p) clock d.holders order
      (record {
        later = later;
        high = high;
        session = phase-in p clock ordered count number;
        four = four-places;
        long = h.sized.holders;
        ordered = ordered-by;
        mine = marked;
        others = λ k l t ne. Iff.rfl;
      })

  -- the marks without those of session s
  abbrev rest : List ℕ
  rest = rest_marks d s

  -- a mark was for session s and is taken away, or was not and is left
  rest_at : (k : ℕ) → k < 256 → ((get_or rest k 0 ≡ 0) × (mark_at d k ≡ s + 1)) ⊎ ((get_or rest k 0 ≡ mark_at d k) × (mark_at d k ≡ s + 1 → ⊥))
  rest_at k l =
      by-case (unmarked-at d.holders (session_at d s).copies k (omega (arith, h.sized.holders)) (session_at d s).count)
      (λ w. inl (w.0, (marked k l).1 (w.1.0, omega (arith, w.1.1, copies-four d h.coherent s small), (w.1.1, w.1.2))))
      (λ w. inr (w.0, λ z. let q = (marked k l).0 z in w.1 q.0 q.2.0 q.2.1))

  -- marks and copies dropped
  pub drop-kept : (order : List ℕ) → Order d s idle_session order → Kept d (changed d s idle_session d.clock rest order)
  drop-kept order ordered-by =
      change-kept idle_session d.clock rest order
      (record {
        later = omega arith;
        high = inl (omega arith);
        session = idle-in d.clock d.n;
        four = refl;
        long = length-unmarked d.holders (session_at d s).copies (session_at d s).count ∙ h.sized.holders;
        ordered = ordered-by;
        mine = λ k l. (λ z. by-case (rest_at k l) (λ w. absurd (omega arith)) (λ w. absurd (w.1 (sym w.0 ∙ z))), λ q. absurd (idle-none k q));
        others = λ k l t ne. by-case (rest_at k l) (λ w. (λ z. absurd (omega arith), λ z. absurd (ne (omega arith)))) (λ w. rw w.0 Iff.rfl);
      })

  -- a copy of record r, which no other session has marked
  written-kept : (r : ℕ) (words : List ℕ) (j k slot : ℕ) → r < d.n → is_active (session_at d s).phase ≡ true → Room (session_at d s) r j k → slot ≤ 1 → (mark_at d r ≡ 0) ⊎ (mark_at d r ≡ s + 1)
      → Kept d (changed d s (written (session_at d s) r words j k slot) d.clock (set d.holders r (s + 1)) d.order)
  written-kept r words j k slot below active room slot_small free =
      change-kept (written (session_at d s) r words j k slot) d.clock (set d.holders r (s + 1)) d.order
      (record {
        later = omega arith;
        high = inl (omega arith);
        session = written_in (session_at d s) r words j k slot room active below slot_small ordered;
        four = simp length-set four-places;
        long = simp length-set h.sized.holders;
        ordered = same-order (written (session_at d s) r words j k slot) refl refl;
        mine =
            each-mark (λ q v. q < 256 → v ≡ s + 1 ↔ Copies (written (session_at d s) r words j k slot) q)
            (λ l. (λ z. written_new (session_at d s) r words j k slot room, λ z. refl))
            (λ q ne l. Iff.trans (marked q l) (written-old (session_at d s) r words j k slot room q ne));
        others =
            each-mark (λ q v. q < 256 → (t : ℕ) → (t ≡ s → ⊥) → v ≡ t + 1 ↔ mark_at d q ≡ t + 1)
            (λ l t ne. (λ z. absurd (ne (omega arith)), λ z. by-case free (λ a. absurd (omega arith)) (λ a. absurd (ne (omega arith)))))
            (λ q nq l t ne. Iff.rfl);
      })
    where
      -- what holds of the mark set and of the others holds of each mark
      each-mark : (P : ℕ → ℕ → Type 0) → P r (s + 1) → ((q : ℕ) → (q ≡ r → ⊥) → P q (mark_at d q)) → (q : ℕ) → P q (get_or (set d.holders r (s + 1)) q 0)
      each-mark = at_set d.holders r (s + 1) 0 (omega (arith, h.sized.holders, h.coherent.n-high))

  -- the session's own copy of record r overwritten: its mark is set already
  pub overwrite-kept : (r : ℕ) (ws : List ℕ) → r < d.n → is_active (session_at d s).phase ≡ true → own_place (session_at d s) r < 4 → Kept d (put_session d s (overwritten (session_at d s) r ws))
  overwrite-kept r ws below active found =
      let p = own_place (session_at d s) r in
      let room = own_room (session_at d s) r four-places (copies-four d h.coherent s small) (copies-differ d h.coherent s small) found in
      let mark = (marked r (omega (arith, h.coherent.n-high))).1 (p, found, (room.inside, room.own room.inside)) in
      rw (rw mark at (set-get_or d.holders r 0)) at
      (written-kept r ws p (session_at d s).count (session_at d s).slot below active room ordered.slot_small (inr mark))

  -- one copy more, of a record that is not marked
  pub copy-kept : (r : ℕ) (ws : List ℕ) → r < d.n → is_active (session_at d s).phase ≡ true
      → (img : List ℕ) → copy_fault (mark_at d r) (session_at d s).count (empty_slot img d.n s) ≡ 0 → Kept d (copied img d s r ws)
  copy-kept r ws below active img z =
      let e = session_at d s in
      let free = copy-free _ _ _ z in
      let room = next-room e r four-places (copy-room _ _ _ z)
      (λ q. omega (arith, (marked r (omega (arith, h.coherent.n-high))).1 q)) in
      let slot = copy-slot _ _ _ e.slot z ordered.slot_small in
      written-kept r ws e.count (e.count + 1) (reserved e.count (empty_slot img d.n s) e.slot) below active room slot (inl free)
