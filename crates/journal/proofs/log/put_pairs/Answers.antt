use Rattle.std.proofs.Common.{◌≡◌, length, add-one}
use Rattle.layout.proofs.Groups.{stores-append}
use Rattle.layout.proofs.TraceLaws.{and_then}
use Rattle.journal.specs.Log.{short_writes}
use Rattle.journal.proofs.log.put_pairs.Goals as goal
use borrow.Author.Rules.{rules}

pub loop-k-preserved : goal.loop-k-preserved
unfolding short_writes
loop-k-preserved c = (
  search rules,
  search rules,
  search rules,
  λ p t d. rw (add-one, stores-append) (and_then (c.loop-k.invariant.3 p t d) c.put_pair-next.ensures),
)

pub returns-clause-did : goal.returns-clause-did
unfolding short_writes
returns-clause-did c =
    let e : c.loop-k.k ≡ length c.args.changes.now = search rules in
    rw e at (c.loop-k.invariant.3 _ _ c.put_store-next.ensures)
