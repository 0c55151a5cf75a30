use Prim.Native.Nat.{◌≤◌}
use Rattle.commit.proofs.Front.{Run}
use Rattle.commit.proofs.settling.reader_below.Given as goal

abbrev pub invariant-loop-j : goal.invariant-loop-j
invariant-loop-j l = (l.j ≤ 16) × Run l.desk l.end l.j l.lowest
