use Prim.Native.Nat.{◌≤◌, ◌-◌}
use mathlib.Core.Path.{◌≡◌}
use lib.ListN.{length}
use Rattle.layout.specs.Image.{home_words}
use Rattle.journal.specs.Changes.{changes_below}
use Rattle.journal.specs.Copies.{rec_in, words_in}
use Rattle.journal.proofs.changes.gather.Given as goal

abbrev pub invariant-loop-floor : goal.invariant-loop-floor
invariant-loop-floor l =
    (l.floor ≤ l.n)
    × (length l.changes ≤ 13)
    × (l.changes ≡ changes_below (home_words l.image) (rec_in l.copies) (words_in l.copies) (length l.copies) l.floor)

abbrev pub decreases-loop-floor : goal.decreases-loop-floor
decreases-loop-floor l = l.n - l.floor
