use mathlib.Core.Path.{◌≡◌}
use Rattle.layout.specs.Below.{lowest}
use Rattle.listening.specs.Find.{seen_matches}
use Rattle.listening.proofs.finding.first_match.Given as goal

abbrev pub invariant-loop-r : goal.invariant-loop-r
invariant-loop-r l = lowest l.r (seen_matches l.image l.desk l.start l.shelf) ≡ l.r
