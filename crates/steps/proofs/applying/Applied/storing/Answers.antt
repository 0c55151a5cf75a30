use Rattle.std.proofs.Common.{rules}
use mathlib.Core.Path.{refl}
use Rattle.std.proofs.lemmas.Result.{MatchResult-weaker}
use Rattle.steps.proofs.ApplyLaws.{shown-told}
use Rattle.steps.proofs.applying.Applied.storing.Goals as goal

pub returns : goal.returns
returns g c told shows =
    let a = c.args.reply.answer in
    rw (shown-told told a (MatchResult-weaker a c.map_or_else.ensures (λ x p. shows x _ p) (λ r p. search rules))) refl
