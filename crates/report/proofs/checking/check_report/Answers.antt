use mathlib.Core.Path.{sym, ◌∙◌}
use native.Mathlib.Omega.{arith}
use Rattle.layout.proofs.Shape.{Shaped, says-shaped}
use Rattle.report.proofs.checking.check_report.Goals as goal
use Rattle.report.proofs.checking.check_report.Goals.{Else-not-shaped}

-- past check 1, N and M are in range
in-range : (c : Else-not-shaped) → Shaped c.args.image.now
in-range c = (says-shaped _).yes (sym c.shaped.ensures ∙ c.if-not-shaped.false)

pub overflow_mul-m : goal.overflow_mul-m
overflow_mul-m c = omega (arith, c.word-m.ensures, (in-range (goal.at.overflow_mul-m c).Else-not-shaped).range)

pub occupied-requires : goal.occupied-requires
occupied-requires c = (omega (arith, c.word-n.ensures, (in-range (goal.at.occupied-requires c).Else-not-shaped).range), omega (arith, c.word-m.ensures, (in-range (goal.at.occupied-requires c).Else-not-shaped).range))
