use Rattle.std.proofs.Common.{length, refl, sym, ◌∙◌, ap, ◌≡◌}
use Rattle.std.proofs.lemmas.Result.{err_from_is_err_and}
use Rattle.layout.proofs.AnswerLaws.{refused-by, given-by}
use Rattle.report.specs.Report.{report_fault, refused_by}
use Rattle.report.specs.Told.{report_told}
use Rattle.report.proofs.Checks.{passed, report-told, refused-table, filled-table, report-refused, report-filled}
use Rattle.report.proofs.Table.{begun_stays, table_begun}
use Rattle.report.proofs.reporting.report.Goals as goal
use Rattle.report.proofs.reporting.report.Goals.{In_ok-check_report}

pub returns-in_err-check_report : goal.returns-in_err-check_report
returns-in_err-check_report c =
    let img = c.args.image.now in
    let ls = c.args.lines.now in
    let p = err_from_is_err_and c.from_residual.result c.from_residual.ensures.1 in
    let h = refused-by (report_fault img (length ls)) tt c.in_err-check_report.ensures in
    let g = report-refused img (length ls) _ refl h.0 in
    let r : c.from_residual.result ≡ refused_by (report_fault img (length ls)) = rw (p.1, p.2, h.1) refl in
    (r ∙ sym g, sym (refused-table img ls h.0), ap report_told (r ∙ sym g) ∙ report-told img (length ls))

-- the checks have passed
clean : (c : In_ok-check_report) → report_fault c.args.image.now (length c.args.lines.now) ≡ 0
clean c = (given-by (report_fault c.args.image.now (length c.args.lines.now)) tt c.in_ok-check_report.ensures).0

pub begin_lines-requires : goal.begin_lines-requires
begin_lines-requires c = (passed _ _ (clean (goal.at.begin_lines-requires c).In_ok-check_report)).lines

pub add_records-requires : goal.add_records-requires
add_records-requires c =
    ((passed _ _ (clean (goal.at.add_records-requires c).In_ok-check_report)).records, rw c.begin_lines.ensures (begun_stays c.args.lines.now))

pub sum_up-requires : goal.sum_up-requires
sum_up-requires c = (passed _ _ (clean (goal.at.sum_up-requires c).In_ok-check_report)).records

pub returns : goal.returns
returns c =
    let img = c.args.image.now in
    let ls = c.args.lines.now in
    let z = clean (goal.at.returns c).In_ok-check_report in
    let g = report-filled img (length ls) z in
    let t = report-told img (length ls) in (
      rw (c.sum_up.ensures, g) refl,
      c.add_records.ensures ∙ rw (c.begin_lines.ensures) (table_begun img _ ls) ∙ sym (filled-table img ls z),
      rw c.sum_up.ensures (rw g at t),
    )
