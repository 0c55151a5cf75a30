use Prim.Native.Nat.{◌≤◌}
use mathlib.Core.Path.{◌≡◌, refl}
use native.Mathlib.Omega.{arith}
use lib.ListN.{length}
use borrow.Author.Tests.{leb-true}
use Rattle.std.proofs.lemmas.Result.{err_from_is_err_and}
use Rattle.layout.specs.Checks.{room_for}
use Rattle.layout.proofs.AnswerLaws.{refused-by, given-by}
use Rattle.layout.proofs.Stored.{stored-none}
use Rattle.desk.specs.Desk.{active_count}
use Rattle.desk.specs.Entering.{image_fault}
use Rattle.desk.specs.Group.{set_fault}
use Rattle.desk.proofs.DeskEntered.{clock-moves}
use Rattle.desk.proofs.Entered.{Entered, entered}
use Rattle.desk.proofs.GroupLaws.{group-refused, group-turned, group-ends}
use Rattle.desk.proofs.state.Desk.publish_set.Goals as goal
use Rattle.desk.proofs.state.Desk.publish_set.Goals.{In_ok-entered}

pub returns-in_err-entered : goal.returns-in_err-entered
returns-in_err-entered c =
    let a = c.args in
    let p = err_from_is_err_and c.from_residual.result c.from_residual.ensures.1 in
    let f = refused-by _ (active_count a.self.now) c.in_err-entered.ensures.answer in
    let g = group-refused a.image.now a.self.now (length a.trace.now) a.set _ refl f.0 in
    let s = stored-none _ _ _ g.lists in
    record { given = rw (p.1, p.2, f.1, g.replies) refl; desk = rw g.replies refl; image = s.0; trace = s.1 }

-- 1, 2 and 3 have passed
passed : (c : In_ok-entered) → let a = c.args in image_fault a.image.now a.self.now (room_for (length a.trace.now)) 0 ≡ 0
passed c = (given-by _ (active_count c.args.self.now) c.in_ok-entered.ensures.answer).0

facts : (c : In_ok-entered) → let a = c.args in Entered a.image.now a.self.now (room_for (length a.trace.now)) 0
facts c = entered _ _ _ _ (passed c)

room : (c : In_ok-entered) → 48 ≤ length c.args.trace.now
room c = leb-true _ _ (facts c).room-enough

pub returns-in_err-check_members : goal.returns-in_err-check_members
returns-in_err-check_members c =
    let a = c.args in
    let p = err_from_is_err_and c.from_residual-in_err-check_members.result c.from_residual-in_err-check_members.ensures.1 in
    let f = refused-by (set_fault a.self.now a.set) tt c.in_err-check_members.ensures in
    let g = group-turned _ _ _ _ (passed (goal.at.returns-in_err-check_members c).In_ok-entered) _ refl f.0 in
    let s = stored-none _ _ _ g.lists in
    record { given = rw (p.1, p.2, f.1, g.replies) refl; desk = rw g.replies refl; image = s.0; trace = s.1 }

pub overflow_add-end : goal.overflow_add-end
overflow_add-end c = omega (arith, clock-moves _ (facts (goal.at.overflow_add-end c).In_ok-entered).coherent)

pub raise_past-entries-requires : goal.raise_past-entries-requires
raise_past-entries-requires c =
    let at = (goal.at.raise_past-entries-requires c).In_ok-entered in
    let f = facts at in omega (arith, f.shaped.size, room at, f.coherent.clock-high)

pub returns : goal.returns
returns c =
    let a = c.args in
    let z = given-by (set_fault a.self.now a.set) tt c.in_ok-check_members.ensures in
    let g = group-ends _ _ _ _ (passed (goal.at.returns c).In_ok-entered) z.0 in
    let w = c.raise_past-entries.ensures in
    record {
      given = rw (w.count, g.replies) refl;
      desk = rw (c.publish_members.ensures, g.replies) refl;
      image = rw g.lists w.image;
      trace = rw g.lists w.trace;
    }
