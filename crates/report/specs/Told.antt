-- What a caller of the report is told, in document 02's words, and what its answer tells of it.
use Rattle.std.specs.Prelude.{ℕ, Ok, Err}
use Rattle.layout.specs.Refusal.{Answer, number_of}
use Rattle.report.specs.declared.summing.Totals.{Totals}

-- "no K"; or the table is filled, and there are so many reels with so many seconds, so many bad records and so many unused ones
pub data ReportTold : Type 0 where
  refused : ℕ → ReportTold
  report : ℕ → ℕ → ℕ → ℕ → ReportTold

abbrev pub report_told : Answer Totals → ReportTold
report_told (Err r) = refused (number_of r)
report_told (Ok t) = report t.reels t.seconds t.bad t.unused
