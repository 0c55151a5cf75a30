use Prim.Native.Nat.{◌≤◌}
use mathlib.Core.Path.{◌≡◌, refl, sym, ◌∙◌}
use native.Mathlib.Nat.{le_refl}
use native.Mathlib.Omega.{arith}
use lib.ListN.{length}
use borrow.Author.Tests.{leb-true}
use Rattle.std.proofs.lemmas.Result.{err_from_is_err_and}
use Rattle.layout.specs.Checks.{room_for}
use Rattle.layout.specs.Refusal.{cause}
use Rattle.layout.proofs.AnswerLaws.{refused-by, given-by}
use Rattle.layout.proofs.Stored.{stored-none, stored-run}
use Rattle.layout.proofs.TraceLaws.{and_then, fenced}
use Rattle.desk.specs.Desk.{session_at, active_count}
use Rattle.desk.specs.Entering.{image_fault}
use Rattle.desk.proofs.Copied.{copies-four}
use Rattle.desk.proofs.DeskEntered.{markable}
use Rattle.desk.proofs.Entered.{Entered, entered, homes-inside}
use Rattle.desk.proofs.Facts.{says-coherent}
use Rattle.journal.proofs.TakenLaws.{taken-length, taken-homes}
use Rattle.commit.proofs.Clauses.{count_bound-by_index}
use Rattle.commit.proofs.Lists.{settle-length}
use Rattle.commit.proofs.SettleLaws.{sendable, not-published, settle-refused, settle-unpublished, settle-waits, settle-stores}
use Rattle.commit.proofs.settling.settle_session.Goals as goal
use Rattle.commit.proofs.settling.settle_session.Goals.{In_ok-active}

pub returns-in_err-active : goal.returns-in_err-active
returns-in_err-active c =
    let a = c.args in
    let p = err_from_is_err_and c.from_residual.result c.from_residual.ensures.1 in
    let f = refused-by _ (active_count a.desk.now) c.in_err-active.ensures.answer in
    let g = settle-refused a.image.now a.desk.now (length a.trace.now) a.session _ refl f.0 in
    let s = stored-none _ _ _ g.lists in
    record { given = rw (p.1, p.2, f.1, g.replies) refl; desk = rw g.replies refl; image = s.0; trace = s.1 }

-- 1 to 4 have passed
passed : (c : In_ok-active)
    → let a = c.args in (image_fault a.image.now a.desk.now (room_for (length a.trace.now)) a.session ≡ 0) × (c.in_ok-active.active ≡ active_count a.desk.now)
passed c = given-by _ (active_count c.args.desk.now) c.in_ok-active.ensures.answer

facts : (c : In_ok-active) → let a = c.args in Entered a.image.now a.desk.now (room_for (length a.trace.now)) a.session
facts c = entered _ _ _ _ (passed c).0

room : (c : In_ok-active) → 48 ≤ length c.args.trace.now
room c = leb-true _ _ (facts c).room-enough

few : (c : In_ok-active) → (session_at c.args.desk.now c.args.session).count ≤ 4
few c = copies-four _ (facts c).coherent _ (facts c).small

pub returns-in_default : goal.returns-in_default
unfolding cause
returns-in_default c =
    let g = settle-unpublished _ _ _ _ (passed (goal.at.returns-in_default c).In_ok-active).0 (not-published _ c.in_default.not-Published) in
    let s = stored-none _ _ _ g.lists in
    record { given = rw g.replies refl; desk = rw g.replies refl; image = s.0; trace = s.1 }

pub reader_below-requires : goal.reader_below-requires
reader_below-requires c =
    let at = (goal.at.reader_below-requires c).In_ok-active in ((says-coherent _).no (facts at).coherent, (passed at).1)

pub returns-in-Some : goal.returns-in-Some
returns-in-Some c =
    let g = settle-waits _ _ _ _ (passed (goal.at.returns-in-Some c).In_ok-active).0 c.in-Published.end c.in-Published.is c.in-Some.reader (sym c.reader_below.ensures ∙ c.in-Some.is) in
    let s = stored-none _ _ _ g.lists in
    record { given = rw g.replies refl; desk = rw g.replies refl; image = s.0; trace = s.1 }

pub copies_of-requires : goal.copies_of-requires
copies_of-requires c = few (goal.at.copies_of-requires c).In_ok-active

pub put_homes-at-requires : goal.put_homes-at-requires
put_homes-at-requires c =
    let at = (goal.at.put_homes-at-requires c).In_ok-active in
    let h = c.copies_of.ensures in
    count_bound-by_index (rw h.value (sendable (session_at c.args.desk.now c.args.session) h.lower_bound (few at) (room at) (homes-inside (facts at))))

pub put_fence-requires : goal.put_fence-requires
put_fence-requires c =
    let at = (goal.at.put_fence-requires c).In_ok-active in
    let h = c.copies_of.ensures in
    let z = taken-length _ _ h.lower_bound in
    omega (arith, few at, room at, z, rw h.value at c.put_homes-at.ensures.value)

pub unmark-requires : goal.unmark-requires
unmark-requires c =
    let f = facts (goal.at.unmark-requires c).In_ok-active in markable (f.coherent.session _ f.small) f.coherent.n-high _ (le_refl _)

pub returns : goal.returns
returns c =
    let at = (goal.at.returns c).In_ok-active in
    let h = c.copies_of.ensures in
    let g = settle-stores _ _ _ _ (passed at).0 c.in-Published.end c.in-Published.is (sym c.reader_below.ensures ∙ c.in_default-reader_below.is) in
    let s = stored-run _ g.lists (and_then (rw (taken-homes _ _ h.lower_bound) at (rw h.value at c.put_homes-at.ensures.did)) (fenced c.put_fence.ensures)) (omega (arith, settle-length c.args.desk.now c.args.session, few at, room at)) in
    record {
      given = rw (g.replies, c.settle_length.ensures) refl;
      desk = rw (g.replies, c.idle.ensures, c.unmark.ensures) refl;
      image = s.0;
      trace = s.1;
    }
