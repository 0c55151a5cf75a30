use mathlib.Core.Bool.{true, false}
use mathlib.Core.Path.{◌≡◌, refl, sym, ◌∙◌}
use native.Mathlib.Omega.{arith}
use lib.ListN.{length}
use borrow.Author.Tests.{leb-true}
use Rattle.std.proofs.lemmas.Result.{err_from_is_err_and}
use Rattle.layout.specs.Checks.{room_for}
use Rattle.layout.specs.Refusal.{cause}
use Rattle.layout.proofs.AnswerLaws.{refused-by, given-by}
use Rattle.layout.proofs.Stored.{stored-none}
use Rattle.desk.specs.Desk.{session_at, is_sealed, active_count}
use Rattle.desk.specs.Entering.{image_fault}
use Rattle.desk.proofs.DeskEntered.{clock-moves}
use Rattle.desk.proofs.Entered.{Entered, entered}
use Rattle.desk.proofs.PublishLaws.{publish-refused, publish-busy, publish-ends}
use Rattle.desk.proofs.state.Desk.publish_session.Goals as goal
use Rattle.desk.proofs.state.Desk.publish_session.Goals.{In_ok-entered}

pub returns-in_err-entered : goal.returns-in_err-entered
unfolding cause
returns-in_err-entered c =
    let p = err_from_is_err_and c.from_residual.result c.from_residual.ensures.1 in
    let h = refused-by _ (active_count c.args.self.now) c.in_err-entered.ensures.answer in
    let g = publish-refused c.args.image.now c.args.self.now (length c.args.trace.now) c.args.session _ refl h.0 in
    let e = stored-none _ _ _ g.lists in
    record {
      given = rw (p.1, p.2, h.1, g.replies) refl;
      desk = rw g.replies refl;
      image = e.0;
      trace = e.1;
    }

-- 1 to 4 have passed
passed : (c : In_ok-entered) → image_fault c.args.image.now c.args.self.now (room_for (length c.args.trace.now)) c.args.session ≡ 0
passed c = (given-by _ (active_count c.args.self.now) c.in_ok-entered.ensures.answer).0

facts : (c : In_ok-entered) → Entered c.args.image.now c.args.self.now (room_for (length c.args.trace.now)) c.args.session
facts c = entered _ _ _ _ (passed c)

pub returns-then-not-is_sealed : goal.returns-then-not-is_sealed
unfolding cause
returns-then-not-is_sealed c =
    let z : is_sealed (session_at c.args.self.now c.args.session).phase ≡ false = sym c.is_sealed.ensures ∙ c.if-not-is_sealed.true in
    let g = publish-busy c.args.image.now c.args.self.now (length c.args.trace.now) c.args.session (passed (goal.at.returns-then-not-is_sealed c).In_ok-entered) z in
    let e = stored-none _ _ _ g.lists in
    record { given = rw g.replies refl; desk = rw g.replies refl; image = e.0; trace = e.1 }

pub overflow_add-end : goal.overflow_add-end
overflow_add-end c = omega (arith, clock-moves _ (facts (goal.at.overflow_add-end c).In_ok-entered).coherent)

pub raise_past-entries-requires : goal.raise_past-entries-requires
raise_past-entries-requires c =
    let f = facts (goal.at.raise_past-entries-requires c).In_ok-entered in
    omega (arith, f.shaped.size, leb-true _ _ f.room-enough, f.coherent.clock-high)

pub returns : goal.returns
returns c =
    let z : is_sealed (session_at c.args.self.now c.args.session).phase ≡ true = sym c.is_sealed.ensures ∙ c.if-not-is_sealed.false in
    let g = publish-ends c.args.image.now c.args.self.now (length c.args.trace.now) c.args.session (passed (goal.at.returns c).In_ok-entered) z in
    let w = c.raise_past-entries.ensures in
    record { given = rw (g.replies, w.count) refl; desk = rw g.replies refl; image = rw g.lists w.image; trace = rw g.lists w.trace }
