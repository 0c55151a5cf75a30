use Rattle.std.proofs.Common.{add-one}
use Rattle.layout.proofs.Groups.{stores-append}
use Rattle.layout.specs.Homes.{homes_writes}
use Rattle.layout.proofs.TraceLaws.{and_then, did_none}
use Rattle.journal.proofs.replay.put_homes.Goals as goal
use borrow.Author.Rules.{rules}

pub loop-c-init : goal.loop-c-init
unfolding homes_writes
loop-c-init c = (search rules, search rules, search rules, did_none)

pub loop-c-preserved : goal.loop-c-preserved
unfolding homes_writes
loop-c-preserved c = (
  search rules,
  search rules,
  search rules,
  rw (add-one, stores-append) (and_then c.loop-c.invariant.3 c.put_home-at.ensures),
)
