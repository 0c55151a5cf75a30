use Rattle.std.proofs.Common.{rules}
use Rattle.snapshot.specs.Told.{sight_told}
use Rattle.steps.proofs.applying.read.Goals as goal

pub returns : goal.returns
returns c = rw (← c.read.ensures.reply) (c.of.ensures sight_told (λ x o p. search rules))
