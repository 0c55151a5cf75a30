use mathlib.Core.Path.{◌≡◌}
use lib.ListN.{length}
use Rattle.desk.specs.Group.{group_reply}
use Rattle.desk.proofs.GroupLaws.{group-told, group-whole}
use Rattle.desk.proofs.state.Desk.publish_group.Goals as goal

pub returns : goal.returns
returns c =
    let a = c.args in
    let s = c.publish_set-given.ensures in
    let r : c.of.result ≡ group_reply a.image.now a.self (length a.trace.now) a.set = rw (c.of.ensures, s.given, s.desk) (group-whole _ _ _ _) in
    record { reply = r; image = s.image; trace = s.trace; told = rw r (group-told _ _ _ _) }
