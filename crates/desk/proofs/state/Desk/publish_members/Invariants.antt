use mathlib.Core.Path.{◌≡◌}
use Rattle.desk.specs.Group.{published_below}
use Rattle.desk.proofs.GroupLaws.{with_sessions}
use Rattle.desk.proofs.state.Desk.publish_members.Given as goal

abbrev pub invariant-loop-s : goal.invariant-loop-s
invariant-loop-s l = l.self ≡ with_sessions l.initial.self (published_below l.initial.self.sessions l.fn.set l.fn.end l.s)
