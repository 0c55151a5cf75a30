use native.Mathlib.Omega.{arith}
use lib.ListN.{length}
use Rattle.journal.specs.Copies.{rec_in, words_in}
use Rattle.journal.specs.Log.{index_in, word_in}
use Rattle.journal.proofs.LogGroups.{either-few}
use Rattle.layout.proofs.TraceLaws.{and_then, fenced, did_listed}
use Rattle.journal.proofs.log.write_log.Goals as goal
use Rattle.journal.proofs.Clauses.{image-trace}

pub returns : goal.returns
returns c =
    image-trace
    (let a = c.args in
    let d = and_then c.put_body-a.ensures.did
    (and_then (fenced c.put_fence-b.ensures)
    (and_then c.put_store-c.ensures (fenced c.put_fence.ensures))) in (
      d.stores,
      did_listed d (omega (arith, c.requires, either-few (index_in a.changes.now) (word_in a.changes.now) (length a.changes.now) (rec_in a.copies.now) (words_in a.copies.now) (length a.copies.now) a.persist (omega (arith, c.requires)))),
    ))
