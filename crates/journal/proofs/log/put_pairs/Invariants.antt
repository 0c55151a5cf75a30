use Prim.Native.Nat.{ℕ, ◌+◌, ◌*◌}
use mathlib.Core.List.{List}
use mathlib.Core.Path.{◌≡◌}
use lib.ListN.{length}
use Rattle.layout.specs.Entries.{Write, stores}
use Rattle.layout.specs.Trace.{Did}
use Rattle.journal.specs.Log.{short_writes, index_in, word_in}
use Rattle.journal.proofs.log.put_pairs.Given as goal

-- the writes of the count and the first k changes
abbrev pub body : List Write → ℕ → List Write
body changes k = short_writes (index_in changes) (word_in changes) (length changes) k

abbrev pub invariant-loop-k : goal.invariant-loop-k
invariant-loop-k l =
    (l.next ≡ 2 + 4 * l.k)
    × (length l.slot ≡ length l.initial.slot)
    × (length l.trace ≡ length l.initial.trace)
    × ((p t : List ℕ) → Did (stores (body l.changes 0)) l.base 0 p t l.initial.slot l.initial.trace l.initial.next → Did (stores (body l.changes l.k)) l.base 0 p t l.slot l.trace l.next)
