use Rattle.std.proofs.Common.{rules}
use Rattle.commit.specs.Told.{slot_told}
use Rattle.steps.proofs.applying.reclaim.Goals as goal

pub returns-clause-reply : goal.returns-clause-reply
returns-clause-reply c = rw (← c.reclaim.ensures.reply) (c.storing.ensures slot_told (λ x o p. search rules))
