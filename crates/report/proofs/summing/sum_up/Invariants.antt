use Rattle.report.proofs.Sums.{TotalsTo}
use Rattle.report.proofs.summing.sum_up.Given as goal

abbrev pub invariant-loop-r : goal.invariant-loop-r
invariant-loop-r l = TotalsTo l.image l.r l.totals.reels l.totals.seconds l.totals.bad l.totals.unused
