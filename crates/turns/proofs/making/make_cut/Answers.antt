use Rattle.turns.proofs.MakeLaws.{cut-after}
use borrow.Author.Rules.{rules}
use Rattle.turns.proofs.making.make_cut.Goals as goal

pub returns-clause-image : goal.returns-clause-image
returns-clause-image c =
    let a = c.args in
    cut-after a.k a.image.now a.before.now a.trace.now a.desk a.step c.apply-a.ensures.reply c.apply-a.ensures.image c.keep.ensures
    c.apply-a.ensures.trace c.cut_back.ensures (search rules) (search rules)
