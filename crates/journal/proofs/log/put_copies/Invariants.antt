use Rattle.std.proofs.Common.{ℕ, ◌+◌, ◌*◌, ◌≡◌, List, length}
use Rattle.layout.specs.Entries.{Write, stores}
use Rattle.layout.specs.Trace.{Did}
use Rattle.desk.specs.declared.state.RecordCopy.{RecordCopy}
use Rattle.journal.specs.Copies.{rec_in, words_in}
use Rattle.journal.specs.Log.{body_writes}
use Rattle.journal.proofs.log.put_copies.Given as goal

-- the writes of the count and the first k copies
abbrev pub body : List RecordCopy → ℕ → List Write
body copies k = body_writes (rec_in copies) (words_in copies) (length copies) k

-- the count was stored before the loop, from some part p and trace t
abbrev pub invariant-loop-k : goal.invariant-loop-k
invariant-loop-k l =
    (l.next ≡ 2 + 10 * l.k)
    × (length l.slot ≡ length l.initial.slot)
    × (length l.trace ≡ length l.initial.trace)
    × ((p t : List ℕ) → Did (stores (body l.copies 0)) l.base 0 p t l.initial.slot l.initial.trace l.initial.next → Did (stores (body l.copies l.k)) l.base 0 p t l.slot l.trace l.next)
