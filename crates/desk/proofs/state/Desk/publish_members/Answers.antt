use mathlib.Core.Path.{refl, sym, ◌∙◌}
use Rattle.desk.specs.Group.{published_below}
use Rattle.desk.proofs.GroupLaws.{published-member, published-other}
use Rattle.desk.proofs.state.Desk.publish_members.Goals as goal
use Rattle.desk.proofs.state.Desk.publish_members.Goals.{then-has, else-has}

pub loop-s-init : goal.loop-s-init
unfolding published_below
loop-s-init c = refl

pub loop-s-preserved : goal.loop-s-preserved
loop-s-preserved c =
    elim c.if-has.branch [
      | then-has w ↦ w.self-is ∙ published-member _ _ _ _ c.loop-s.invariant (sym c.has.ensures ∙ w.if-has.true)
      | else-has w ↦ w.self-is ∙ published-other _ _ _ _ c.loop-s.invariant (sym c.has.ensures ∙ w.if-has.false)
    ]
