use mathlib.Core.Path.{◌≡◌}
use lib.ListN.{length}
use Rattle.commit.specs.Finish.{finish_reply}
use Rattle.commit.proofs.FinishLaws.{finish-whole}
use Rattle.commit.proofs.ToldLaws.{finish-told}
use Rattle.commit.proofs.finishing.finish.Goals as goal

pub returns : goal.returns
returns c =
    let a = c.args in
    let s = c.finish_session-given.ensures in
    let r : c.of.result ≡ finish_reply a.image.now a.desk (length a.trace.now) a.session = rw (c.of.ensures, s.given, s.desk) (finish-whole _ _ _ _) in
    record { reply = r; image = s.image; trace = s.trace; told = rw r (finish-told _ _ _ _) }
