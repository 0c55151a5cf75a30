use Prim.Native.Nat.{◌≤◌, ◌<◌}
use mathlib.Core.Path.{◌≡◌, refl, sym, ◌∙◌}
use native.Mathlib.Omega.{arith}
use lib.ListN.{length}
use borrow.Author.Tests.{leb-true}
use Rattle.std.proofs.lemmas.Result.{err_from_is_err_and}
use Rattle.std.specs.Option.{unwrap_or}
use Rattle.layout.specs.Checks.{room_for}
use Rattle.layout.proofs.AnswerLaws.{refused-by, given-by}
use Rattle.layout.proofs.Stored.{stored-none, stored-run}
use Rattle.layout.proofs.TraceLaws.{and_then, fenced}
use Rattle.desk.specs.Desk.{active_count}
use Rattle.desk.specs.Entering.{image_fault}
use Rattle.desk.proofs.Entered.{Entered, entered}
use Rattle.commit.specs.Reclaim.{chosen, oldest_log}
use Rattle.commit.proofs.ReclaimLaws.{none-found, some-found, own-slot, found-log, reclaim-refused, reclaim-none, reclaim-held, reclaim-clears}
use Rattle.commit.proofs.reclaiming.reclaim_slot.Goals as goal
use Rattle.commit.proofs.reclaiming.reclaim_slot.Goals.{In_ok-entered, In-Some, After-oldest_log}

pub returns-in_err-entered : goal.returns-in_err-entered
returns-in_err-entered c =
    let a = c.args in
    let p = err_from_is_err_and c.from_residual.result c.from_residual.ensures.1 in
    let f = refused-by _ (active_count a.desk.now) c.in_err-entered.ensures.answer in
    let g = reclaim-refused a.image.now a.desk.now (length a.trace.now) a.session _ refl f.0 in
    let s = stored-none _ _ _ g.lists in
    record { given = rw (p.1, p.2, f.1, g.replies) refl; image = s.0; trace = s.1 }

-- 1 to 4 have passed
passed : (c : In_ok-entered) → let a = c.args in image_fault a.image.now a.desk.now (room_for (length a.trace.now)) a.session ≡ 0
passed c = (given-by _ (active_count c.args.desk.now) c.in_ok-entered.ensures.answer).0

facts : (c : In_ok-entered) → let a = c.args in Entered a.image.now a.desk.now (room_for (length a.trace.now)) a.session
facts c = entered _ _ _ _ (passed c)

room : (c : In_ok-entered) → 48 ≤ length c.args.trace.now
room c = leb-true _ _ (facts c).room-enough

pub older_slot-requires : goal.older_slot-requires
older_slot-requires c = let f = facts (goal.at.older_slot-requires c).In_ok-entered in (f.coherent.n-high, f.small)

pub returns-in_default : goal.returns-in_default
returns-in_default c =
    let a = c.args in
    let g = reclaim-none a.image.now a.desk.now (length a.trace.now) a.session (passed (goal.at.returns-in_default c).In_ok-entered) _ refl (none-found _ (sym c.in_default.is ∙ c.older_slot.ensures)) in
    let s = stored-none _ _ _ g.lists in
    record { given = rw g.replies refl; image = s.0; trace = s.1 }

-- the older of the session's slots
own : (c : In-Some)
    → let a = c.args in (c.in-Some.own ≡ chosen a.image.now a.desk.now a.session) × (c.in-Some.own.number ≡ 0 → ⊥)
own c = some-found _ (sym c.in-Some.is ∙ c.older_slot.ensures)

-- it is one of the session's two
low : (c : In-Some) → c.in-Some.own.place < 2
low c =
    let a = c.args in
    let z = (given-by _ (active_count a.desk.now) c.in_ok-entered.ensures.answer).0 in
    let h = own c in
    own-slot a.image.now a.desk.now (length a.trace.now) a.session z c.in-Some.own h.0 h.1

pub overflow_mul-desk : goal.overflow_mul-desk
overflow_mul-desk c = omega (arith, (facts (goal.at.overflow_mul-desk c).In_ok-entered).coherent.m-high)

pub oldest_log-requires : goal.oldest_log-requires
oldest_log-requires c = let f = facts (goal.at.oldest_log-requires c).In_ok-entered in (f.coherent.n-high, omega (arith, f.coherent.m-high))

-- the oldest log of the image
oldest : (c : After-oldest_log) → unwrap_or c.oldest_log.result c.in-Some.own ≡ oldest_log c.args.image.now c.args.desk.now
oldest c =
    let a = c.args in
    let z = (given-by _ (active_count a.desk.now) c.in_ok-entered.ensures.answer).0 in
    let h = some-found _ (sym c.in-Some.is ∙ c.older_slot.ensures) in
    rw c.oldest_log.ensures (found-log a.image.now a.desk.now (length a.trace.now) a.session z c.in-Some.own h.0 h.1 (entered _ _ _ _ z).below)

pub returns-then-oldest-own : goal.returns-then-oldest-own
returns-then-oldest-own c =
    let a = c.args in
    let at = goal.at.returns-then-oldest-own c in
    let h = own at.In-Some in
    let g = reclaim-held a.image.now a.desk.now (length a.trace.now) a.session (passed at.In_ok-entered) c.in-Some.own h.0 h.1 _ (c.unwrap_or-oldest.ensures ∙ oldest at.After-oldest_log) c.if-oldest-own.true in
    let s = stored-none _ _ _ g.lists in
    record { given = rw g.replies refl; image = s.0; trace = s.1 }

pub overflow_add-session : goal.overflow_add-session
overflow_add-session c =
    let at = goal.at.overflow_add-session c in omega (arith, (facts at.In_ok-entered).small, low at.In-Some)

pub slot_at-slot-requires : goal.slot_at-slot-requires
slot_at-slot-requires c =
    let at = goal.at.slot_at-slot-requires c in
    let f = facts at.In_ok-entered in
    (f.coherent.n-high, omega (arith, f.small, low at.In-Some))

pub put_store-at-requires : goal.put_store-at-requires
put_store-at-requires c =
    let at = goal.at.put_store-at-requires c in
    let f = facts at.In_ok-entered in
    omega (arith, low at.In-Some, room at.In_ok-entered, c.slot_at-slot.ensures, f.below, f.n-same, f.m-same, f.shaped.size, f.coherent.n-high, f.coherent.m-high)

pub put_fence-requires : goal.put_fence-requires
put_fence-requires c = omega (arith, room (goal.at.put_fence-requires c).In_ok-entered, c.put_store-at.ensures.next)

pub returns : goal.returns
returns c =
    let a = c.args in
    let at = goal.at.returns c in
    let h = own at.In-Some in
    let g = reclaim-clears a.image.now a.desk.now (length a.trace.now) a.session (passed at.In_ok-entered) c.in-Some.own h.0 h.1 _ (c.unwrap_or-oldest.ensures ∙ oldest at.After-oldest_log) c.if-oldest-own.false in
    let s = stored-run _ g.lists (rw c.slot_at-slot.ensures at (and_then c.put_store-at.ensures (fenced c.put_fence.ensures))) (omega (arith, room at.In_ok-entered)) in
    record { given = rw g.replies refl; image = s.0; trace = s.1 }
