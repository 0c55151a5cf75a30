use mathlib.Core.Path.{◌≡◌}
use lib.ListN.{take}
use Rattle.steps.proofs.CutLaws.{arrived}
use Rattle.steps.proofs.cut.replay.Given as goal

abbrev pub invariant-loop-index : goal.invariant-loop-index
invariant-loop-index l = l.image ≡ arrived (take l.index-index l.index-items) l.initial.image
