use mathlib.Core.Path.{◌≡◌}
use Prim.Native.Nat.{◌*◌}
use lib.ListN.{length}
use Rattle.journal.specs.Copies.{rec_in, words_in}
use Rattle.layout.specs.Homes.{homes_writes}
use Rattle.layout.specs.Entries.{stores}
use Rattle.layout.specs.Trace.{Did}
use Rattle.journal.proofs.replay.put_homes.Given as goal

abbrev pub invariant-loop-c : goal.invariant-loop-c
invariant-loop-c l =
    (l.at ≡ 8 * l.c-index)
    × (length l.image ≡ length l.initial.image)
    × (length l.trace ≡ length l.initial.trace)
    × Did (stores (homes_writes (rec_in l.copies) (words_in l.copies) l.c-index)) 0 0 l.initial.image l.initial.trace l.image l.trace l.at
