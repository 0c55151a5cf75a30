use mathlib.Core.Path.{◌≡◌}
use lib.ListN.{length}
use Rattle.commit.specs.Reclaim.{reclaim_reply}
use Rattle.commit.proofs.ReclaimLaws.{reclaim-whole}
use Rattle.commit.proofs.ToldLaws.{reclaim-told}
use Rattle.commit.proofs.reclaiming.reclaim.Goals as goal

pub returns : goal.returns
returns c =
    let a = c.args in
    let s = c.reclaim_slot-given.ensures in
    let r : c.of.result ≡ reclaim_reply a.image.now a.desk (length a.trace.now) a.session = rw (c.of.ensures, s.given) (reclaim-whole _ _ _ _) in
    record { reply = r; image = s.image; trace = s.trace; told = rw r (reclaim-told _ _ _ _) }
