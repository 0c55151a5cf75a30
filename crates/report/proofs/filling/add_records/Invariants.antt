use Rattle.std.proofs.Common.{◌≡◌}
use Rattle.report.specs.Report.{table_to}
use Rattle.report.proofs.filling.add_records.Given as goal

abbrev pub invariant-loop-r : goal.invariant-loop-r
invariant-loop-r l = l.lines ≡ table_to l.image l.r l.initial.lines
