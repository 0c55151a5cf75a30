-- Every call keeps the desk steady.
use Prim.Native.Nat.{ℕ, zero, suc, ◌+◌, ◌<◌, ◌≤◌}
use mathlib.Core.Bool.{true, false, false≢true}
use mathlib.Core.List.{List}
use mathlib.Core.Path.{◌≡◌, refl, sym, ap}
use mathlib.Core.Logic.{inl, inr}
use native.Mathlib.Omega.{arith}
use lib.Dec.{ltb, eqb}
use lib.ListN.{get_or-replicate}
use borrow.Author.Tests.{ltb-true, eqb-true, eqb-false}
use Rattle.layout.proofs.BelowLaws.{count_most}
use Rattle.layout.specs.Checks.{unless, first, answered}
use Rattle.layout.proofs.ChecksLaws.{first-both, unless-zero, unless-most}
use Rattle.layout.proofs.Says.{by-test}
use Rattle.desk.specs.Desk.{no_session, session_at, is_idle, is_active, is_sealed, is_published, start_of, active_count, idle_session, with_phase, joined, without, unmarked}
use Rattle.layout.specs.Below.{count_below}
use Rattle.desk.specs.Coherent.{limit, sealed_at}
use Rattle.desk.specs.Begin.{begin_fault, begin_refused, begun, begin_reply}
use Rattle.desk.specs.Abandon.{abandon_fault, abandon_refused, abandoned, abandon_reply}
use Rattle.desk.specs.Publish.{publish_fault, publish_refused, published, publish_reply}
use Rattle.desk.specs.declared.state.Phase.{Phase}
use Rattle.desk.specs.declared.state.Phase.TheVariants.{Idle, Active, Sealed, Published}
use Rattle.desk.specs.declared.state.Desk.{Desk}
use Rattle.desk.proofs.Copied.{copies-four, copies-some}
use Rattle.desk.proofs.DeskEntered.{desk-entered, idle-inactive}
use Rattle.desk.specs.Entering.{desk_fault, image_fault}
use Rattle.layout.specs.Checks.{room_for}
use Rattle.recovery.specs.Open.{fresh_desk}
use Rattle.snapshot.specs.Read.{read_fault, read_refused, read_done, read_reply}
use Rattle.snapshot.specs.Write.{owns_b, write_fault, write_refused, write_done, write_reply}
use Rattle.commit.specs.Finish.{finish_fault, finish_refused, finish_done, finish_reply}
use Rattle.commit.specs.Settle.{settle_fault, settle_refused, settle_done, waits_b, settle_reply}
use Rattle.commit.specs.Reclaim.{reclaim_fault, reclaim_refused, reclaim_done, none_left, held_b, reclaim_reply}
use Rattle.desk.proofs.Entered.{entered as image-entered, entry-most}
use Rattle.listening.specs.Listener.{listener_fault}
use Rattle.listening.specs.Read.{listen_read_fault, listen_read_reply}
use Rattle.listening.specs.Finish.{listen_finish_reply}
use Rattle.listening.specs.Find.{find_fault, find_refused, find_done, find_reply}
use Rattle.listening.proofs.FinishLaws.{finish-done}
use Rattle.claims.proofs.Sessions.{idle-in, idle-none}
use Rattle.claims.proofs.Steady.{Steady, Kept, same-order, begin-order, end-order, phase-kept, drop-kept, overwrite-kept, copy-kept}
use Rattle.layout.proofs.Counts.{adds}

-- no session of a fresh desk is active
none-active : (n m : ℕ) → active_count (fresh_desk 1 n m) ≡ 0
unfolding count_below
none-active n m = refl

-- the desk of an opened store, where nothing is marked
pub fresh-steady : (clock n m : ℕ) → 1 ≤ clock → clock ≤ limit → 1 ≤ n → n ≤ 256 → 1 ≤ m → m ≤ 16 → Steady (fresh_desk clock n m)
fresh-steady clock n m c-low c-high n-low n-high m-low m-high =
    record {
      coherent =
          record {
            clock-low = c-low;
            clock-high = omega (arith, count_most (sealed_at (fresh_desk clock n m)) 16);
            n-low = n-low;
            n-high = n-high;
            m-low = m-low;
            m-high = m-high;
            session = λ s l. rw (idle s l) (idle-in clock n);
            idle = λ s l. inr (rw (idle s l));
            marks = λ k l.
                rw (get_or-replicate {A = ℕ} 256 k 0 0 l)
                ((omega arith, λ s u. (λ z. absurd (omega arith), λ c. absurd (idle-none k (rw (idle s u) at c)))), inr refl);
            order = record { used = λ j l. absurd (omega (arith, none-active n m)); unused = λ j l u. get_or-replicate {A = ℕ} 16 j 0 0 l };
          };
      sized = record { holders = refl; sessions = refl; copies = λ s l. rw (idle s l); order = refl };
    }
  where
    -- every session is idle
    idle : (s : ℕ) → s < 16 → session_at (fresh_desk clock n m) s ≡ idle_session
    idle s l = get_or-replicate 16 s idle_session no_session l

-- what holds of a call's refusal and of what it does holds of its answer
pub by_answer : {A : Type 0} (P : A → Type 0) (k : ℕ) (f : ℕ → A) (a : A) → P (f k) → (k ≡ 0 → P a) → P (answered k f a)
unfolding answered
by_answer P zero f a refused done = done refl
by_answer P (suc k) f a refused done = refused

-- the desk as it was
pub unchanged : (d : Desk) → Steady d → Kept d d
unchanged d h = record { steady = h; n-same = refl; m-same = refl }

-- a sealed session is not active, and a published one
pub sealed-inactive : (p : Phase) → is_sealed p ≡ true → (is_active p ≡ false) × (start_of p ≡ 0)
sealed-inactive Idle e = (refl, refl)
sealed-inactive (Active b) e = absurd (false≢true e)
sealed-inactive (Sealed q) e = (refl, refl)
sealed-inactive (Published q) e = (refl, refl)

published-inactive : (p : Phase) → is_published p ≡ true → (is_active p ≡ false) × (start_of p ≡ 0)
published-inactive Idle e = (refl, refl)
published-inactive (Active b) e = absurd (false≢true e)
published-inactive (Sealed q) e = (refl, refl)
published-inactive (Published q) e = (refl, refl)

-- begin puts the session into another phase
pub begin-kept : (d : Desk) (s : ℕ) → Steady d → Kept d (begin_reply d s).desk
unfolding begin_reply begin_fault
begin-kept d s h =
    by_answer (λ r. Kept d r.desk) (begin_fault d s) (begin_refused d) (begun d s) (unchanged d h)
    (λ z. let e = desk-entered d s (first-both (desk_fault d s) _ z).0 in
    phase-kept d s h e.below-m (Active d.clock) d.clock (omega arith) (inl (omega arith)) (copies-four d h.coherent s e.below-16) (h.coherent.clock-low, omega arith)
    (joined d s) (begin-order d s h e.below-m (with_phase (session_at d s) (Active d.clock)) (idle-inactive (session_at d s).phase (unless-zero (is_idle (session_at d s).phase) 5 (first-both (desk_fault d s) _ z).1)) refl refl))

-- abandon drops the session's marks and copies
pub abandon-kept : (d : Desk) (s : ℕ) → Steady d → Kept d (abandon_reply d s).desk
unfolding abandon_reply abandon_fault
abandon-kept d s h =
    by_answer (λ r. Kept d r.desk) (abandon_fault d s) (abandon_refused d) (abandoned d s) (unchanged d h)
    (λ z. let f = first-both (desk_fault d s) _ z in
    let e = desk-entered d s f.0 in
    drop-kept d s h e.below-m (without s d.order)
    (end-order d s h e.below-m idle_session (unless-zero (is_active (session_at d s).phase) 5 f.1) refl))

-- publish puts the session into another phase; the clock moves on by one, and one session less is sealed
pub publish-kept : (img : List ℕ) (d : Desk) (len s : ℕ) → Steady d → Kept d (publish_reply img d len s).desk
unfolding publish_reply publish_fault
publish-kept img d len s h =
    by_answer (λ r. Kept d r.desk) (publish_fault img d len s) (publish_refused d) (published img d s) (unchanged d h)
    (λ z. let f = first-both (image_fault img d (room_for len) s) _ z in
    let e = image-entered img d (room_for len) s f.0 in
    let sealed = unless-zero (sealed_at d s) 5 f.1 in
    let a = ap adds sealed in
    phase-kept d s h e.below (Published (d.clock + 1)) (d.clock + 1) (omega arith) (inl (omega arith))
    (copies-some d h.coherent s e.small (rw sealed), copies-four d h.coherent s e.small)
    (omega (arith, h.coherent.clock-low), omega arith)
    d.order
    (let q = sealed-inactive (session_at d s).phase sealed in same-order d s h e.below (with_phase (session_at d s) (Published (d.clock + 1))) (sym q.0) (sym q.1)))

-- checks that refuse with a number above those of the first ones have passed these
first-passed : (a b k : ℕ) → a < k → first a b ≡ k → a ≡ 0
unfolding first
first-passed zero b k l q = refl
first-passed (suc a) b k l q = absurd (omega arith)

first-zero : {b : ℕ} → first 0 b ≡ b
unfolding first
first-zero = refl

-- refused by 7, a write has passed the checks that calls share, and the session is active
pub taken-entered : (img : List ℕ) (d : Desk) (s r : ℕ) → write_fault img d s r ≡ 7 → (image_fault img d true s ≡ 0) × (is_active (session_at d s).phase ≡ true)
unfolding write_fault
taken-entered img d s r q =
    let a = first-passed (image_fault img d true s) _ 7 (omega (arith, entry-most img d true s)) q in
    let b = rw (a, first-zero) at q in
    let c = first-passed (unless (ltb r d.n) 5) _ 7 (omega (arith, unless-most 5 (ltb r d.n) 5 (omega arith))) b in
    let e = rw (c, first-zero) at b in
    let f = first-passed (unless (is_active (session_at d s).phase) 6) _ 7 (omega (arith, unless-most 6 (is_active (session_at d s).phase) 6 (omega arith))) e in
    (a, unless-zero (is_active (session_at d s).phase) 5 f)

-- write overwrites an own copy or takes one more; refused by 7 it drops the session's marks and copies
pub write_kept : (img : List ℕ) (d : Desk) (s r : ℕ) (ws : List ℕ) → Steady d → Kept d (write_reply img d s r ws).desk
unfolding write_reply write_fault write_refused
write_kept img d s r ws h =
    by_answer (λ a. Kept d a.desk) (write_fault img d s r) (write_refused d s r) (write_done img d s r ws)
    (by-test (eqb (write_fault img d s r) 7)
    (λ y. let q = taken-entered img d s r (eqb-true _ _ y) in
    let low = (image-entered img d true s q.0).below in
    rw y (drop-kept d s h low (without s d.order) (end-order d s h low idle_session q.1 refl)))
    (λ y. rw y (unchanged d h)))
    (λ z. let a = first-both (image_fault img d true s) _ z in
    let b = first-both (unless (ltb r d.n) 5) _ a.1 in
    let c = first-both (unless (is_active (session_at d s).phase) 6) _ b.1 in
    let low = (image-entered img d true s a.0).below in
    let below = ltb-true r d.n (unless-zero (ltb r d.n) 4 b.0) in
    let active = unless-zero (is_active (session_at d s).phase) 5 c.0 in
    by-test (owns_b d s r)
    (λ y. rw y (overwrite-kept d s h low r ws below active (ltb-true _ _ y)))
    (λ y. rw y (copy-kept d s h low r ws below active img (rw y at c.1))))

-- finish seals a session with copies, below the clock's limit; one without copies has no marks and copies to drop
pub finish-kept : (img : List ℕ) (d : Desk) (len s : ℕ) → Steady d → Kept d (finish_reply img d len s).desk
unfolding finish_reply finish_fault unmarked
finish-kept img d len s h =
    by_answer (λ r. Kept d r.desk) (finish_fault img d len s) (finish_refused d) (finish_done img d s) (unchanged d h)
    (λ z. let f = first-both (image_fault img d (room_for len) s) _ z in
    let e = image-entered img d (room_for len) s f.0 in
    let g = first-both (unless (is_active (session_at d s).phase) 6) _ f.1 in
    let active = unless-zero (is_active (session_at d s).phase) 5 g.0 in
    by-test (eqb (session_at d s).count 0)
    (λ y. let none : (session_at d s).count ≡ 0 = eqb-true _ _ y in rw y (rw none at (drop-kept d s h e.below (without s d.order) (end-order d s h e.below idle_session active refl))))
    (λ y. let some : (session_at d s).count ≡ 0 → ⊥ = eqb-false _ _ y in
    let l : d.clock < limit = ltb-true _ _ (unless-zero (ltb d.clock limit) 9 (rw y at g.1)) in
    rw y
    (phase-kept d s h e.below (Sealed d.clock) d.clock (omega arith) (inr (omega arith))
    (omega arith, copies-four d h.coherent s e.small)
    (h.coherent.clock-low, omega arith)
    (without s d.order) (end-order d s h e.below (with_phase (session_at d s) (Sealed d.clock)) active refl))))

-- settle waits, or drops the session's marks and copies
pub settle-kept : (img : List ℕ) (d : Desk) (len s : ℕ) → Steady d → Kept d (settle_reply img d len s).desk
unfolding settle_reply settle_fault
settle-kept img d len s h =
    by_answer (λ r. Kept d r.desk) (settle_fault img d len s) (settle_refused d) (settle_done d s) (unchanged d h)
    (λ z. by-test (waits_b d s)
    (λ y. rw y (unchanged d h))
    (λ y. let f = first-both (image_fault img d (room_for len) s) _ z in
    let low = (image-entered img d (room_for len) s f.0).below in
    let q = published-inactive (session_at d s).phase (unless-zero (is_published (session_at d s).phase) 5 f.1) in
    rw y (drop-kept d s h low d.order (same-order d s h low idle_session (sym q.0) (sym q.1)))))

-- the listening room's finish, past its checks, is the store's
pub listen-finish-kept : (img : List ℕ) (d : Desk) (len s : ℕ) → Steady d → Kept d (listen_finish_reply img d len s).desk
unfolding listen_finish_reply
listen-finish-kept img d len s h =
    by_answer (λ r. Kept d r.desk) (listener_fault img d (room_for len) s) (finish_refused d) (finish_done img d s) (unchanged d h)
    (λ z. rw (finish-done img d len s z) at (finish-kept img d len s h))

-- read, with whatever checks, leaves the desk as it is
done-desk : (img : List ℕ) (d : Desk) (s r k : ℕ) → (answered k (read_refused d) (read_done img d s r)).desk ≡ d
done-desk img d s r k = by_answer (λ a. a.desk ≡ d) k (read_refused d) (read_done img d s r) refl (λ z. refl)

pub read-desk : (img : List ℕ) (d : Desk) (s r : ℕ) → (read_reply img d s r).desk ≡ d
unfolding read_reply
read-desk img d s r = done-desk img d s r (read_fault img d s r)

pub listen-read-desk : (img : List ℕ) (d : Desk) (s r : ℕ) → (listen_read_reply img d s r).desk ≡ d
unfolding listen_read_reply
listen-read-desk img d s r = done-desk img d s r (listen_read_fault img d s r)

-- so does find
pub find-desk : (img : List ℕ) (d : Desk) (s k : ℕ) → (find_reply img d s k).desk ≡ d
unfolding find_reply
find-desk img d s k = by_answer (λ a. a.desk ≡ d) (find_fault img d s k) (find_refused d) (find_done img d s k) refl (λ z. refl)

-- reclaim leaves the desk as it is
pub reclaim-desk : (img : List ℕ) (d : Desk) (len s : ℕ) → (reclaim_reply img d len s).desk ≡ d
unfolding reclaim_reply
reclaim-desk img d len s = by_answer (λ a. a.desk ≡ d) (reclaim_fault img d len s) (reclaim_refused d) (reclaim_done img d s) refl
    (λ z. by-test (none_left img d s) (λ y. rw y) (λ y. by-test (held_b img d s) (λ w. rw (y, w)) (λ w. rw (y, w))))
