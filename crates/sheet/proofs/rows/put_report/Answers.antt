use mathlib.Core.Path.{sym, ap, ◌∙◌}
use native.Mathlib.Omega.{arith}
use Rattle.lines.proofs.Puts.{put_as}
use Rattle.sheet.specs.Sheet.{no_row}
use Rattle.sheet.proofs.Texts.{text-refused, text-filled}
use Rattle.sheet.proofs.rows.put_report.Goals as goal

pub returns-in-Ok : goal.returns-in-Ok
returns-in-Ok c =
    let t = c.fill_table-totals.ensures in
    record {
      put = put_as (text-filled _ _ _ (sym c.in-Ok.is ∙ t.0) t.1) c.put_filled.ensures.put;
      upper_bound = c.put_filled.ensures.upper_bound;
    }

pub returns-in-Err : goal.returns-in-Err
returns-in-Err c =
    record {
      put = put_as (ap no_row c.number.ensures ∙ text-refused _ _ (sym c.in-Err.is ∙ c.fill_table-totals.ensures.0)) c.put_row.ensures.put;
      upper_bound = omega (arith, c.put_row.ensures.upper_bound);
    }
