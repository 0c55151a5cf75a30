use Rattle.desk.proofs.Walk.{Lists}
use Rattle.desk.proofs.state.Desk.strike_list.Given as goal

abbrev pub invariant-loop-j : goal.invariant-loop-j
invariant-loop-j l = Lists l.fn.self l.left l.noted l.last l.j
