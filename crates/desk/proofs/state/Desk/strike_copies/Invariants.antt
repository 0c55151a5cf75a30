use Rattle.desk.proofs.Walk.{Walk}
use Rattle.desk.proofs.state.Desk.strike_copies.Given as goal

abbrev pub invariant-loop-s : goal.invariant-loop-s
invariant-loop-s l = Walk l.self l.struck l.s
