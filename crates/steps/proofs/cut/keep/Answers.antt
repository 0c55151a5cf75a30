use mathlib.Core.Path.{ap, ◌∙◌}
use mathlib.Core.List.{◌++◌}
use native.Mathlib.Omega.{arith}
use lib.ListN.{drop}
use Rattle.steps.proofs.CutLaws.{copied_all}
use Rattle.steps.proofs.cut.keep.Goals as goal
use borrow.Author.Rules.{rules}

pub returns : goal.returns
returns c =
    ap (λ l. l ++ drop c.min-n.result c.args.before.now) c.copy_from_slice.ensures.after
    ∙ copied_all c.min-n.result c.args.image.now c.args.before.now (search rules) (search rules) (λ a b. omega (arith, c.min-n.ensures))
