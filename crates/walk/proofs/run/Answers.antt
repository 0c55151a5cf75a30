use Rattle.walk.proofs.Turns.{renamed}
use Rattle.walk.proofs.OneTurnLaws.{walked-none, walked-on}
use Rattle.walk.proofs.run.Goals as goal
use borrow.Author.Rules.{rules}

pub loop-init : goal.loop-init
loop-init c = (search rules, search rules, walked-none _ _)

pub loop-preserved : goal.loop-preserved
loop-preserved c =
    let i = c.loop.invariant in
    let t = c.take_turn-t.ensures in (
      renamed t.within_2.0 (search rules) (search rules) (search rules),
      search rules,
      walked-on _ c.loop.counter _ _ _ c.loop.auto.trace i.2 (search (rules, c.if-eq.ensures)) t.one_turn,
    )
