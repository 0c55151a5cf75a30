use Rattle.std.proofs.Common.{refl, rules, tests}
use Rattle.layout.specs.Image.{occupied_at, occupied_b}
use Rattle.journal.proofs.AnyLaws.{any_by}
use Rattle.journal.proofs.scan.occupied.Goals as goal

pub returns : goal.returns
unfolding occupied_b
returns c = any_by (occupied_at c.args.image.now c.args.n) c.args.slots c.any.ensures.ran refl (λ x b q k. search (rules, tests))
