use Prim.Native.Nat.{◌≤◌}
use lib.ListN.{length}
use Rattle.walk.specs.Bounds.{Within}
use Rattle.walk.specs.Walk.{scene_of, Walked}
use Rattle.walk.proofs.run.Given as goal

abbrev pub invariant-loop : goal.invariant-loop
invariant-loop l =
    Within l.s (length l.input) (length l.output) (length l.image)
    × (l.s.number ≤ l.counter)
    × Walked (length l.initial.trace) l.counter (scene_of l.initial.input l.initial.image l.initial.output l.initial.desk l.initial.s) (scene_of l.input l.image l.output l.desk l.s)
