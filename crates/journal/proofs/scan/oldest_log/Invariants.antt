use Rattle.std.proofs.Common.{◌≡◌}
use Rattle.layout.specs.Image.{persist_at}
use Rattle.layout.specs.Oldest.{oldest_of, some_oldest}
use Rattle.journal.proofs.scan.oldest_log.Given as goal

abbrev pub invariant-loop-i : goal.invariant-loop-i
invariant-loop-i l = l.best ≡ some_oldest (oldest_of (persist_at l.image l.n) l.i)
