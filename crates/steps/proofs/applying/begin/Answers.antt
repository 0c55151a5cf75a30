use Rattle.std.proofs.Common.{rules}
use Rattle.layout.specs.Told.{start}
use Rattle.steps.proofs.applying.begin.Goals as goal

pub returns : goal.returns
returns c = rw (← c.begin.ensures.reply) (c.of.ensures start (λ x o p. search rules))
