use Rattle.std.proofs.Common.{add-one}
use Rattle.layout.proofs.Groups.{stores-append}
use Rattle.layout.proofs.TraceLaws.{and_then, did_none}
use Rattle.journal.specs.Log.{pairs_writes}
use Rattle.journal.proofs.replay.put_home_words.Goals as goal
use borrow.Author.Rules.{rules}

pub loop-index-init : goal.loop-index-init
unfolding pairs_writes
loop-index-init c = (search rules, search rules, search rules, did_none)

pub loop-index-preserved : goal.loop-index-preserved
unfolding pairs_writes
loop-index-preserved c = (
  search rules,
  search rules,
  search rules,
  rw (add-one, stores-append) (and_then c.loop-index.invariant.3 c.put_store-at.ensures),
)
