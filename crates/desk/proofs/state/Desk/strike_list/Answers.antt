use native.Mathlib.Omega.{arith}
use Rattle.desk.proofs.Walk.{lists-start, lists-end, lists-high, lists-twice, lists-idle, lists-falls, lists-turns}
use Rattle.desk.proofs.state.Desk.strike_list.Goals as goal
use Rattle.desk.proofs.state.Desk.strike_list.Goals.{then-x-ge16-via-then-x-ge16, then-x-ge16-via-else-x-ge16+then-noted-x}

pub loop-j-init : goal.loop-j-init
loop-j-init c = lists-start c.args.self.now

pub returns-then-x-ge16 : goal.returns-then-x-ge16
returns-then-x-ge16 c =
    let i = c.loop-j.invariant in let l = c.loop-j-test.true in let x = c.from-x.ensures in
    elim c.then-x-ge16.branch [
      | then-x-ge16-via-then-x-ge16 w ↦ lists-high i l (rw x at w.if-x-ge16.true)
      | then-x-ge16-via-else-x-ge16+then-noted-x w ↦ lists-twice i l (rw x at w.if-x-ge16.false) (rw x at w.if-noted-x.true)
    ]

pub returns-in_default : goal.returns-in_default
returns-in_default c =
    let x = c.from-x.ensures in
    lists-idle c.loop-j.invariant c.loop-j-test.true (rw x at c.if-x-ge16.false) (rw x at c.if-noted-x.false) (rw x at c.in_default.not-Active)

pub returns-then-start-last : goal.returns-then-start-last
returns-then-start-last c =
    let x = c.from-x.ensures in
    lists-falls c.loop-j.invariant c.loop-j-test.true (rw x at c.if-x-ge16.false) (rw x at c.if-noted-x.false) (rw x at c.in-Active.is) c.if-start-last.true

pub loop-j-preserved : goal.loop-j-preserved
loop-j-preserved c =
    let x = c.from-x.ensures in
    rw x
    (lists-turns c.loop-j.invariant c.loop-j-test.true (rw x at c.if-x-ge16.false) (rw x at c.if-noted-x.false) (rw x at c.in-Active.is) (omega arith))

pub returns : goal.returns
returns c = lists-end c.loop-j.invariant c.args.active (omega arith)
