use Rattle.std.proofs.Common.{rules}
use Rattle.layout.specs.Told.{ok}
use Rattle.steps.proofs.applying.write.Goals as goal

pub returns : goal.returns
returns c = rw (← c.write.ensures.reply) (c.of.ensures (λ x. ok) (λ x o p. search rules))
