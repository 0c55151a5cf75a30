use mathlib.Core.Path.{sym, ◌∙◌}
use native.Mathlib.Omega.{arith}
use Rattle.layout.proofs.Shape.{Shaped, says-shaped}
use Rattle.recovery.proofs.opening.check_opening.Goals as goal
use Rattle.recovery.proofs.opening.check_opening.Goals.{Else-not-shaped}

-- past check 1, N and M are in range
in-range : (c : Else-not-shaped) → Shaped c.args.image.now
in-range c = (says-shaped _).yes (sym c.shaped.ensures ∙ c.if-not-shaped.false)

pub overflow_mul-m : goal.overflow_mul-m
overflow_mul-m c = omega (arith, c.word-m.ensures, (in-range (goal.at.overflow_mul-m c).Else-not-shaped).range)

pub occupied-requires : goal.occupied-requires
occupied-requires c =
    let r = (in-range (goal.at.occupied-requires c).Else-not-shaped).range in
    (omega (arith, c.word-n.ensures, r), omega (arith, c.word-m.ensures, r))
