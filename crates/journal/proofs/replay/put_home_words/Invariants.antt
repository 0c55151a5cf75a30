use mathlib.Core.Path.{◌≡◌}
use Prim.Native.Nat.{◌*◌}
use lib.ListN.{length}
use Rattle.layout.specs.Entries.{stores}
use Rattle.layout.specs.Trace.{Did}
use Rattle.journal.specs.Log.{pairs_writes, index_in, word_in}
use Rattle.journal.proofs.replay.put_home_words.Given as goal

abbrev pub invariant-loop-index : goal.invariant-loop-index
invariant-loop-index l =
    (l.at ≡ 2 * l.index-index)
    × (length l.image ≡ length l.initial.image)
    × (length l.trace ≡ length l.initial.trace)
    × Did (stores (pairs_writes (index_in l.changes) (word_in l.changes) l.index-index)) 0 0 l.initial.image l.initial.trace l.image l.trace l.at
