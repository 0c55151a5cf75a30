-- The list of active sessions is what is due, and settle's answer is that of its front run.
use Prim.Native.Nat.{ℕ, ◌+◌, ◌≤◌, ◌<◌}
use mathlib.Core.Bool.{true}
use mathlib.Core.Path.{◌≡◌, refl, sym, ap, ◌∙◌}
use mathlib.Core.List.{List}
use mathlib.Core.Logic.{◌⊎◌}
use native.Mathlib.Omega.{arith}
use lib.Dec.{eqb, ltb}
use lib.ListN.{get_or, length, get_or-eq_default}
use lib.Seq.{get_or-set_same, get_or-set_other}
use borrow.Author.Tests.{eq-eqb, ne_eqb, ltb-true, ltb-false}
use Rattle.std.specs.Prelude.{⊤, Option}
use Rattle.layout.specs.Checks.{unless, first, room_for}
use Rattle.layout.specs.Told.{ok}
use Rattle.layout.specs.declared.oldest.Oldest.{Oldest}
use Rattle.layout.proofs.BelowLaws.{count_most}
use Rattle.layout.proofs.ChecksLaws.{answered-zero, first-both, unless-zero}
use Rattle.layout.proofs.Least.{Least, oldest-is}
use Rattle.layout.proofs.Says.{by-test, by-case}
use Rattle.desk.specs.Abandon.{abandon_fault, abandon_reply}
use Rattle.desk.specs.Begin.{begin_fault, begin_reply}
use Rattle.desk.specs.Desk.{session_at, order_at, is_idle, is_active, start_at, active_at, active_count, without}
use Rattle.desk.specs.Entering.{image_fault, desk_fault}
use Rattle.desk.specs.Group.{group_fault, group_reply}
use Rattle.desk.specs.Publish.{publish_fault, publish_reply}
use Rattle.desk.specs.declared.reply.Reply.{Reply}
use Rattle.desk.specs.declared.reply.StoringReply.{StoringReply}
use Rattle.desk.specs.declared.state.Desk.{Desk}
use Rattle.desk.specs.declared.state.Phase.TheVariants.{Published}
use Rattle.layout.proofs.Counts.{by-same}
use Rattle.desk.proofs.DeskEntered.{desk-entered, joinable}
use Rattle.desk.proofs.Entered.{Entered, entered}
use Rattle.desk.specs.Coherent.{coherent_b}
use Rattle.desk.proofs.Facts.{Coherent, says-order, says-coherent}
use Rattle.layout.proofs.Order.{InOrder, places-apart, all_listed, skip, skip_is}
use Rattle.desk.proofs.Without.{without_at}
use Rattle.snapshot.specs.Read.{read_fault, read_reply}
use Rattle.snapshot.specs.Write.{owns_b, write_fault, write_refused, write_reply}
use Rattle.snapshot.specs.declared.seeing.Sight.{Sight}
use Rattle.commit.specs.Finish.{finish_fault, finish_done, finish_reply}
use Rattle.commit.specs.Reclaim.{none_left, held_b, reclaim_fault, reclaim_done, reclaim_reply}
use Rattle.commit.specs.Settle.{end_of, starts_for, oldest_reader, waits_b, settle_fault, settle_entries, settle_refused, settle_done, settle_reply}
use Rattle.commit.specs.Told.{settle_told}
use Rattle.commit.specs.declared.reclaiming.Reclaimed.{Reclaimed}
use Rattle.commit.proofs.Front.{in-the-way, active-below}
use Rattle.listening.specs.Find.{find_fault, find_reply}
use Rattle.listening.specs.Finish.{listen_finish_reply}
use Rattle.listening.specs.Listener.{listener_fault}
use Rattle.listening.specs.Read.{listen_read_fault, listen_read_reply}
use Rattle.history.specs.Call.{begin, abandon, settle}
use Rattle.claims.specs.Listing.{Listed, ListRule, CoherenceKept, Joins, Leaves, ListDue, LowestInFront, WaitsFor, SettleByFront}
use Rattle.claims.specs.Refusals.{first_cause}
use Rattle.claims.specs.Rules.{store_rules}
use Rattle.claims.proofs.Rows.{desk-row, finish-row, settle-row, write-row, listen-finish-row}
use Rattle.claims.proofs.ReadyKept.{call_kept}
use Rattle.claims.proofs.SteadyCalls.{by_answer, taken-entered}

-- ---- the rule

module _ (d : Desk) where
  to-listed : InOrder (active_at d) (start_at d) (order_at d) → Listed d
  to-listed h =
      record {
        only = λ j l. (h.used j l).0;
        all = all_listed h;
        once = λ i j li lj e. by-same i j (λ q. q) (λ ne. absurd (places-apart h i j li lj ne e));
        rises = λ i j l lj. by-same i j (λ q. let b = ap (λ (t : ℕ). start_at d (order_at d t)) q in omega arith) (λ ne. ((h.used j lj).1 i (omega arith)).1);
        rest = λ j u l. h.unused j l u;
      }

  from-listed : Listed d → InOrder (active_at d) (start_at d) (order_at d)
  from-listed l =
      record {
        used = λ j u. (l.only j u, λ i k. (λ e. let q = l.once i j (omega arith) u e in omega arith, l.rises i j (omega arith) u));
        unused = λ j k u. l.rest j u k;
      }

pub list-rule : ListRule
unfolding coherent_b
list-rule =
    record {
      asks = λ d e. to-listed d ((says-coherent d).yes e).order;
      no_more = λ d sizes entries marks l. rw (sizes, entries, marks, (says-order d).no (from-listed d l));
    }

pub coherence-kept : CoherenceKept store_rules
coherence-kept img d c z e =
    let h = (says-coherent d).yes e in
    (says-coherent (store_rules.call img d c).desk).no (call_kept img d c (record { coherent = h; sized = z })).steady.coherent

-- ---- what the calls do to it

-- the list before, with its sixteen places
module _ (d : Desk) (s : ℕ) (long : length d.order ≡ 16) where
  joins : begin_fault d s ≡ 0 → Joins d s (begin_reply d s).desk
  unfolding begin_reply begin_fault
  joins z =
      let h = desk-entered d s (first-both (desk_fault d s) _ z).0 in
      let k = joinable d s h (unless-zero _ 5 (first-both (desk_fault d s) _ z).1) in
      rw (answered-zero (first (desk_fault d s) (unless (is_idle (session_at d s).phase) 6)) _ _ z)
      (record {
        last = get_or-set_same d.order (active_count d) s 0 (omega (arith, long, k));
        others = λ j ne. get_or-set_other d.order (active_count d) j s 0 ne;
      })

  -- an active session of a coherent desk
  leaves : Coherent d → s < 16 → is_active (session_at d s).phase ≡ true → (e : Desk) → e.order ≡ without s d.order → Leaves d s e
  leaves h l a e q =
      record {
        place = p.0;
        used = p.1;
        here = p.2;
        before = λ j b. moved j ∙ by-case (skip_is p.0 j) (λ c. ap (order_at d) c.1) (λ c. absurd (omega arith));
        behind = λ j b c. moved j ∙ after j b;
        last = moved 15 ∙ after 15 (omega (arith, p.1, count_most (active_at d) 16)) ∙ get_or-eq_default d.order 0 (omega (arith, long));
      }
    where
      p : (j : ℕ) × (j < active_count d) × (order_at d j ≡ s)
      p = all_listed h.order s l a

      moved : (j : ℕ) → order_at e j ≡ order_at d (skip p.0 j)
      moved j =
          ap (λ (o : List ℕ). get_or o j 0) q
          ∙ without_at s d.order p.0 (omega (arith, p.1, count_most (active_at d) 16, long)) p.2
          (λ i k z. ((h.order.used p.0 p.1).1 i k).0 (z ∙ sym p.2)) j

      after : (j : ℕ) → p.0 ≤ j → order_at d (skip p.0 j) ≡ order_at d (j + 1)
      after j b = by-case (skip_is p.0 j) (λ c. absurd (omega arith)) (λ c. ap (order_at d) c.1)

  abandons : abandon_fault d s ≡ 0 → Leaves d s (abandon_reply d s).desk
  unfolding abandon_reply abandon_fault
  abandons z =
      let h = desk-entered d s (first-both (desk_fault d s) _ z).0 in
      leaves h.coherent h.below-16 (unless-zero _ 5 (first-both (desk_fault d s) _ z).1) (abandon_reply d s).desk
      (rw (answered-zero (first (desk_fault d s) (unless (is_active (session_at d s).phase) 6)) _ _ z))

  module _ (img : List ℕ) where
    -- sealed or empty
    finished : (finish_done img d s).desk.order ≡ without s d.order
    finished = by-test (eqb (session_at d s).count 0) (λ t. rw t) (λ f. rw f)

    finishes : (len : ℕ) → finish_fault img d len s ≡ 0 → Leaves d s (finish_reply img d len s).desk
    unfolding finish_reply finish_fault
    finishes len z =
        let b = first-both (image_fault img d (room_for len) s) _ z in
        let h = entered img d (room_for len) s b.0 in
        leaves h.coherent h.small (unless-zero _ 5 (first-both (unless (is_active (session_at d s).phase) 6) _ b.1).0) (finish_reply img d len s).desk
        (ap (λ (r : StoringReply (Option ℕ)). r.desk.order) (answered-zero (finish_fault img d len s) _ _ z) ∙ finished)

    stops : (len : ℕ) → listener_fault img d (room_for len) s ≡ 0 → Leaves d s (listen_finish_reply img d len s).desk
    unfolding listen_finish_reply listener_fault
    stops len z =
        let b = first-both (image_fault img d (room_for len) s) _ z in
        let h = entered img d (room_for len) s b.0 in
        leaves h.coherent h.small (unless-zero _ 5 (first-both (unless (is_active (session_at d s).phase) 6) _ b.1).0) (listen_finish_reply img d len s).desk
        (ap (λ (r : StoringReply (Option ℕ)). r.desk.order) (answered-zero (listener_fault img d (room_for len) s) _ _ z) ∙ finished)

-- ---- whom settle names

module _ (img : List ℕ) (d : Desk) (len s end : ℕ) (z : settle_fault img d len s ≡ 0) (published : (session_at d s).phase ≡ Published end) where
  known : Entered img d (room_for len) s
  unfolding settle_fault
  known = entered img d (room_for len) s (first-both (image_fault img d (room_for len) s) _ z).0

  abbrev order : InOrder (active_at d) (start_at d) (order_at d)
  order = known.coherent.order

  -- the starts in the way, and the oldest of them
  abbrev f : ℕ → ℕ
  f = starts_for d s

  abbrev reader : Oldest
  reader = oldest_reader d s

  least : Least f 16 reader
  unfolding oldest_reader
  least = oldest-is f 16

  same_end : end_of (session_at d s).phase ≡ end
  same_end = rw published

  -- it is at a place in use, active, with a start below the end that the front does not pass
  module _ (n : reader.number ≡ 0 → ⊥) where
    some : (reader.place < 16) × (f reader.place ≡ reader.number)
    some = least.some n

    way : (active_at d reader.place ≡ true) × ((f reader.place ≡ start_at d reader.place) × (start_at d reader.place < end))
    way =
        let w = in-the-way (end_of (session_at d s).phase) (session_at d reader.place).phase (λ y. n (sym some.1 ∙ y)) in
        (w.0, (w.1.0, omega (arith, w.1.1, same_end)))

    seat : (j : ℕ) × (j < active_count d) × (order_at d j ≡ reader.place)
    seat = all_listed order reader.place some.0 way.0

    ahead : start_at d (order_at d 0) ≤ start_at d reader.place
    ahead =
        let q = ap (start_at d) seat.2 in
        by-same 0 seat.0
        (λ e. let r = ap (λ (t : ℕ). start_at d (order_at d t)) e in omega arith)
        (λ ne. let r = ((order.used seat.0 seat.1).1 0 (omega arith)).1 in omega arith)

  rising : (i j : ℕ) → i ≤ j → j < active_count d → start_at d (order_at d i) ≤ start_at d (order_at d j)
  rising = (to-listed d order).rises

  -- a session at a place in use with a start below the end is in the way
  in-way : (j : ℕ) → j < active_count d → start_at d (order_at d j) < end → (f (order_at d j) ≡ start_at d (order_at d j)) × (f (order_at d j) ≡ 0 → ⊥)
  in-way j l b =
      let u = order.used j l in
      active-below (end_of (session_at d s).phase) d.clock (session_at d (order_at d j)).phase (known.coherent.session (order_at d j) u.0.0).number u.0.1
      (omega (arith, b, same_end))

  front-waits : 0 < active_count d → start_at d (order_at d 0) < end → (reader.number ≡ 0 → ⊥) × LowestInFront d reader.place
  front-waits l b =
      let a = in-way 0 l b in
      let n : reader.number ≡ 0 → ⊥ = λ y. a.1 (least.none y (order_at d 0) (order.used 0 l).0.0) in
      let m = least.least (order_at d 0) (order.used 0 l).0.0 a.1 in
      let e : start_at d reader.place ≡ start_at d (order_at d 0) = omega (arith, ahead n, m, a.0, (some n).1, (way n).1.0) in (
        n,
        record {
          place = (seat n).0;
          used = (seat n).1;
          here = (seat n).2;
          front = e;
          run = λ j l. let p = seat n in let q = ap (start_at d) p.2 in
              let k : j < active_count d = omega (arith, p.1) in omega (arith, rising 0 j (omega arith) k, rising j p.0 l p.1);
          lowest = λ j k same.
              let w = in-way j k (omega arith) in
              by-test (ltb (order_at d j) reader.place)
              (λ t. let c = least.first n (order_at d j) (ltb-true _ _ t) w.1 in absurd (omega (arith, w.0, (some n).1, (way n).1.0)))
              (λ t. ltb-false _ _ t);
        },
      )

  front_goes : (active_count d ≡ 0) ⊎ (end ≤ start_at d (order_at d 0)) → reader.number ≡ 0
  front_goes w =
      by-same reader.number 0
      (λ q. q)
      (λ n. by-case w (λ c. absurd (omega (arith, (seat n).1))) (λ c. absurd (omega (arith, ahead n, (way n).1.1))))

  waiting : (reader.number ≡ 0 → ⊥) → LowestInFront d reader.place → WaitsFor d (store_rules.call img d (settle len s))
  unfolding settle_reply settle_entries
  waiting n oldest =
      let e = answered-zero (settle_fault img d len s) (settle_refused d) (settle_done d s) z in
      record {
        session = reader.place;
        told = ap (λ (r : StoringReply (Option ℕ)). settle_told r.answer) e ∙ rw (ne_eqb reader.number 0 n);
        oldest = oldest;
        entries = answered-zero (settle_fault img d len s) _ _ z ∙ rw (ne_eqb reader.number 0 n);
        desk = ap (λ (r : StoringReply (Option ℕ)). r.desk) e ∙ rw (ne_eqb reader.number 0 n);
      }

  goes-told : reader.number ≡ 0 → (store_rules.call img d (settle len s)).told ≡ ok
  unfolding settle_reply
  goes-told e = ap (λ (r : StoringReply (Option ℕ)). settle_told r.answer) (answered-zero (settle_fault img d len s) _ _ z) ∙ rw (eq-eqb reader.number 0 e)

pub settle-by-front : SettleByFront store_rules
settle-by-front =
    record {
      waits = λ img d len s end z p l b.
          let y = settle-row img d len s ∙ z in
          let w = front-waits img d len s end y p l b in waiting img d len s end y p w.0 w.1;
      goes = λ img d len s end z p c. let y = settle-row img d len s ∙ z in goes-told img d len s end y p (front_goes img d len s end y p c);
    }

-- ---- the calls together

module _ (img : List ℕ) (d : Desk) (s r : ℕ) (ws : List ℕ) where
  taken : length d.order ≡ 16 → write_fault img d s r ≡ 7 → Leaves d s (write_reply img d s r ws).desk
  unfolding write_reply write_refused
  taken long z =
      let q = taken-entered img d s r z in
      let h = entered img d true s q.0 in
      leaves d s long h.coherent h.small q.1 (write_reply img d s r ws).desk
      (by_answer (λ (x : Reply ⊤). x.desk.order ≡ without s d.order) (write_fault img d s r) _ _ (rw (eq-eqb _ 7 z)) (λ y. absurd (omega (arith, z))))

  written : (write_fault img d s r ≡ 7 → ⊥) → (write_reply img d s r ws).desk.order ≡ d.order
  unfolding write_reply write_refused
  written n =
      by_answer (λ (x : Reply ⊤). x.desk.order ≡ d.order) (write_fault img d s r) _ _ (rw (ne_eqb _ 7 n))
      (λ z. by-test (owns_b d s r) (λ t. rw t) (λ t. rw t))

-- a call whose replies all have the list of the desk
reclaimed : (img : List ℕ) (d : Desk) (s : ℕ) → (reclaim_done img d s).desk.order ≡ d.order
reclaimed img d s = by-test (none_left img d s) (λ t. rw t) (λ t. rw t (by-test (held_b img d s) (λ u. rw u) (λ u. rw u)))

begin-row : (img : List ℕ) (d : Desk) (s : ℕ) → begin_fault d s ≡ first_cause img d (begin s)
unfolding begin_fault
begin-row img d s = desk-row img d s is_idle

abandon-row : (img : List ℕ) (d : Desk) (s : ℕ) → abandon_fault d s ≡ first_cause img d (abandon s)
unfolding abandon_fault
abandon-row img d s = desk-row img d s is_active

pub list-due : ListDue store_rules
unfolding read_reply publish_reply group_reply settle_reply reclaim_reply listen_read_reply find_reply
list-due =
    record {
      begins = λ img d s long z. joins d s long (begin-row img d s ∙ z);
      listener-begins = λ img d s long z. joins d s long (begin-row img d s ∙ z);
      finishes = λ img d len s long z. finishes d s long img len (finish-row img d len s ∙ z);
      listener-finishes = λ img d len s long z. stops d s long img len (listen-finish-row img d len s ∙ z);
      abandons = λ img d s long z. abandons d s long (abandon-row img d s ∙ z);
      taken = λ img d s r ws long z. taken img d s r ws long (write-row img d s r ws ∙ z);
      writes = λ img d s r ws n. written img d s r ws (λ z. n (sym (write-row img d s r ws) ∙ z));
      reads = λ img d s r. by_answer (λ (x : Reply Sight). x.desk.order ≡ d.order) (read_fault img d s r) _ _ refl (λ z. refl);
      publishes = λ img d len s. by_answer (λ (x : StoringReply ℕ). x.desk.order ≡ d.order) (publish_fault img d len s) _ _ refl (λ z. refl);
      groups = λ img d len set. by_answer (λ (x : StoringReply ℕ). x.desk.order ≡ d.order) (group_fault img d len set) _ _ refl (λ z. refl);
      settles = λ img d len s. by_answer (λ (x : StoringReply (Option ℕ)). x.desk.order ≡ d.order) (settle_fault img d len s) _ _ refl (λ z. by-test (waits_b d s) (λ t. rw t) (λ t. rw t));
      reclaims = λ img d len s. by_answer (λ (x : StoringReply Reclaimed). x.desk.order ≡ d.order) (reclaim_fault img d len s) _ _ refl (λ z. reclaimed img d s);
      listener-reads = λ img d s r. by_answer (λ (x : Reply Sight). x.desk.order ≡ d.order) (listen_read_fault img d s r) _ _ refl (λ z. refl);
      finds = λ img d s k. by_answer (λ (x : Reply (Option ℕ)). x.desk.order ≡ d.order) (find_fault img d s k) _ _ refl (λ z. refl);
    }
