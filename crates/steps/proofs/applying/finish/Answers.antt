use Rattle.std.proofs.Common.{rules}
use Rattle.commit.specs.Told.{sealed_told}
use Rattle.steps.proofs.applying.finish.Goals as goal

pub returns-clause-reply : goal.returns-clause-reply
returns-clause-reply c = rw (← c.finish.ensures.reply) (c.storing.ensures sealed_told (λ x o p. search rules))
