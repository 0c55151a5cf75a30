use Rattle.std.proofs.Common.{rules, tests, ◌==◌, true}
use mathlib.Core.Bool.{◌&&◌}
use mathlib.Core.Path.{◌∙◌}
use Rattle.std.proofs.lemmas.Iterator.{YieldsList-from_slice}
use Rattle.std.proofs.lemmas.Iterator.Consumers.{fold_from_yields_List}
use Rattle.desk.proofs.Folded.{folded-all}
use Rattle.desk.proofs.coherence.all_zero.Goals as goal

pub returns : goal.returns
returns g c =
    fold_from_yields_List _ (λ b x. b && (x == 0)) true _ c.fold.ensures.ran (YieldsList-from_slice c.args.left.now cc) (λ b x r q k. search (rules, tests))
    ∙ folded-all (λ x. x == 0) c.args.left.now
