use mathlib.Core.Path.{◌≡◌}
use Rattle.desk.specs.Desk.{unmarked}
use Rattle.desk.proofs.session.unmark.Given as goal

abbrev pub invariant-loop-copy : goal.invariant-loop-copy
invariant-loop-copy l = l.holders ≡ unmarked l.initial.holders l.fn.copies l.copy-index
