use mathlib.Core.Path.{◌≡◌}
use lib.ListN.{length}
use Rattle.commit.specs.Settle.{settle_reply}
use Rattle.commit.proofs.SettleLaws.{settle-whole}
use Rattle.commit.proofs.ToldLaws.{settle-told}
use Rattle.commit.proofs.settling.settle.Goals as goal

pub returns : goal.returns
returns c =
    let a = c.args in
    let s = c.settle_session-given.ensures in
    let r : c.of.result ≡ settle_reply a.image.now a.desk (length a.trace.now) a.session = rw (c.of.ensures, s.given, s.desk) (settle-whole _ _ _ _) in
    record { reply = r; image = s.image; trace = s.trace; told = rw r (settle-told _ _ _ _) }
