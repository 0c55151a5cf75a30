use mathlib.Core.Bool.{true}
use mathlib.Core.Path.{◌≡◌, refl, sym, ◌∙◌}
use Rattle.std.proofs.lemmas.Result.{err_from_is_err_and}
use Rattle.layout.proofs.AnswerLaws.{refused-by, given-by}
use Rattle.desk.specs.Desk.{start_at}
use Rattle.desk.proofs.Facts.{says-coherent}
use Rattle.reels.specs.Reel.{shelf_b}
use Rattle.listening.specs.Listener.{listener_fault}
use Rattle.listening.proofs.FinishLaws.{listener}
use Rattle.listening.proofs.FindLaws.{find-unshelved, find-refused, find-ends}
use Rattle.listening.proofs.finding.search.Goals as goal
use Rattle.listening.proofs.finding.search.Goals.{Else-not-shelved, In_ok-start}

pub returns-then-not-shelved : goal.returns-then-not-shelved
returns-then-not-shelved c =
    let a = c.args in rw (find-unshelved a.image.now a.desk.now a.session a.shelf (sym c.shelved.ensures ∙ c.if-not-shelved.true)) refl

-- the shelf number is in range
shelved : (c : Else-not-shelved) → shelf_b c.args.shelf ≡ true
shelved c = sym c.shelved.ensures ∙ c.if-not-shelved.false

pub returns-in_err-start : goal.returns-in_err-start
returns-in_err-start c =
    let a = c.args in
    let p = err_from_is_err_and c.from_residual.result c.from_residual.ensures.1 in
    let h = refused-by (listener_fault a.image.now a.desk.now true a.session) (start_at a.desk.now a.session) c.in_err-start.ensures in
    rw (p.1, p.2, h.1, find-refused a.image.now a.desk.now a.session a.shelf (shelved (goal.at.returns-in_err-start c).Else-not-shelved) h.0) refl

-- the checks have passed, and the start is the session's
passed : (c : In_ok-start) → let a = c.args in
    (listener_fault a.image.now a.desk.now true a.session ≡ 0) × (c.in_ok-start.start ≡ start_at a.desk.now a.session)
passed c = given-by _ (start_at c.args.desk.now c.args.session) c.in_ok-start.ensures

pub first_match-requires : goal.first_match-requires
first_match-requires c = (says-coherent _).no (listener _ _ _ _ (passed (goal.at.first_match-requires c).In_ok-start).0).session.coherent

pub returns : goal.returns
returns c =
    let a = c.args in let at = goal.at.returns c in let h = passed at.In_ok-start in
    rw (c.first_match.ensures, h.1, find-ends a.image.now a.desk.now a.session a.shelf (shelved at.Else-not-shelved) h.0) refl
