use mathlib.Core.Path.{◌≡◌}
use lib.ListN.{length}
use Rattle.desk.specs.Publish.{publish_reply}
use Rattle.desk.proofs.PublishLaws.{publish-whole}
use Rattle.desk.proofs.ToldLaws.{publish-told}
use Rattle.desk.proofs.state.Desk.publish.Goals as goal

pub returns : goal.returns
returns c =
    let a = c.args in
    let s = c.publish_session-given.ensures in
    let r : c.of.result ≡ publish_reply a.image.now a.self (length a.trace.now) a.session = rw (c.of.ensures, s.given, s.desk) (publish-whole _ _ _ _) in
    record { reply = r; image = s.image; trace = s.trace; told = rw r (publish-told _ _ _ _) }
