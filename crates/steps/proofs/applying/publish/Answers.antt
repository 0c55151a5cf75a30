use Rattle.std.proofs.Common.{rules}
use Rattle.layout.specs.Told.{ended_at}
use Rattle.steps.proofs.applying.publish.Goals as goal

pub returns-clause-reply : goal.returns-clause-reply
returns-clause-reply c = rw (← c.publish.ensures.reply) (c.storing.ensures ended_at (λ x o p. search rules))
