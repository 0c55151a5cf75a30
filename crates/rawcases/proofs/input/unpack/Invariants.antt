use Prim.Native.Nat.{◌+◌, ◌≤◌, ◌-◌}
use Rattle.rawcases.proofs.input.unpack.Given as goal

abbrev pub invariant-loop-n : goal.invariant-loop-n
invariant-loop-n l = (l.n ≤ 2725) × (l.end ≤ 2470) × (l.from ≤ l.at) × (l.at ≤ l.have + 8)

abbrev pub decreases-loop-n : goal.decreases-loop-n
decreases-loop-n l = l.have + 8 - l.at
