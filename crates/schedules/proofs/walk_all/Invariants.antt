use Prim.Native.Nat.{◌≤◌}
use lib.ListN.{length}
use mathlib.Core.Path.{◌≡◌}
use Rattle.schedules.proofs.walk_all.Given as goal

abbrev pub invariant-loop-turn : goal.invariant-loop-turn
invariant-loop-turn l =
    (256 ≤ length l.output) × (48 ≤ length l.trace) × (length l.input ≡ length l.initial.input) × (length l.image ≡ length l.initial.image) × (length l.before ≡ length l.initial.before) × (length l.trace ≡ length l.initial.trace) ×
    (length l.output ≡ length l.initial.output)
