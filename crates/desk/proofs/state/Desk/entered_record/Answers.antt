use mathlib.Core.Path.{◌≡◌, sym, ◌∙◌}
use Rattle.std.specs.Prelude.{Ok}
use Rattle.std.proofs.lemmas.Result.{err_from_is_err_and}
use Rattle.layout.proofs.AnswerLaws.{given-by, refused-too}
use Rattle.layout.proofs.ChecksLaws.{answered-zero}
use Rattle.desk.specs.Desk.{active_count}
use Rattle.desk.specs.Entering.{record_fault}
use Rattle.desk.proofs.Census.{census-coherent, census-counts}
use Rattle.desk.proofs.Facts.{says-coherent}
use Rattle.desk.proofs.Entered.{on-ok}
use Rattle.desk.proofs.RecordEntered.{RecordEntered, record-entered}
use Rattle.desk.proofs.state.Desk.entered_record.Goals as goal

pub returns-in_err-check_record-clause-answer : goal.returns-in_err-check_record-clause-answer
returns-in_err-check_record-clause-answer c =
    let p = err_from_is_err_and c.from_residual.result c.from_residual.ensures.1 in
    let e = rw (c.is_some.ensures, c.census-active.ensures, census-coherent c.args.self.now) at c.in_err-check_record.ensures in
    rw (p.1, p.2) (refused-too _ tt (active_count c.args.self.now) e)

-- the checks of this desk have passed
unrefused : (c : goal.After-ok_or) → record_fault c.args.image.now c.args.self.now c.args.session c.args.rec ≡ 0
unrefused c = (given-by _ tt (rw (c.is_some.ensures, c.census-active.ensures, census-coherent c.args.self.now) at c.in_ok-check_record.ensures)).0

inside : (c : goal.After-ok_or) → RecordEntered c.args.image.now c.args.self.now c.args.session c.args.rec
inside c = record-entered _ _ _ _ (unrefused c)

pub returns-clause-answer : goal.returns-clause-answer
returns-clause-answer c =
    let d = c.args.self.now in
    c.ok_or.ensures.value
    ∙ rw (c.census-active.ensures, census-counts d ((says-coherent d).no (inside c).session.coherent)) (sym (answered-zero _ _ (Ok (active_count d)) (unrefused c)))

pub returns-clause-inside : goal.returns-clause-inside
returns-clause-inside c = on-ok c.ok_or.result ((inside c).session.small, (inside c).small)
