use Rattle.std.proofs.Common.{◌≡◌}
use Rattle.report.specs.Lines.{begun}
use Rattle.report.proofs.filling.begin_lines.Given as goal

abbrev pub invariant-loop-line : goal.invariant-loop-line
invariant-loop-line l = l.lines ≡ begun l.line l.initial.lines
