use Rattle.std.proofs.Common.{rules}
use Rattle.commit.specs.Told.{wait_told}
use Rattle.steps.proofs.applying.settle.Goals as goal

pub returns-clause-reply : goal.returns-clause-reply
returns-clause-reply c = rw (← c.settle.ensures.reply) (c.storing.ensures wait_told (λ x o p. search rules))
