use Prim.Native.Nat.{◌≤◌, ◌+◌, ◌*◌}
use lib.ListN.{take}
use Rattle.lines.specs.Put.{Put}
use Rattle.lines.specs.Line.{numbers}
use Rattle.lines.proofs.text.put_numbers.Given as goal

abbrev pub invariant-loop-n : goal.invariant-loop-n
invariant-loop-n l = (l.next ≤ l.initial.at + 21 * l.n-index) × Put (numbers (take l.n-index l.ns)) l.initial.at l.initial.out l.out l.next
