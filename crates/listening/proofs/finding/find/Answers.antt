use Rattle.listening.proofs.FindLaws.{find-told, find-whole}
use Rattle.listening.proofs.finding.find.Goals as goal

pub returns-clause-reply : goal.returns-clause-reply
returns-clause-reply c = rw c.search-answer.ensures (find-whole c.args.image.now c.args.desk c.args.session c.args.shelf)

pub returns-clause-told : goal.returns-clause-told
returns-clause-told c = rw c.search-answer.ensures (find-told c.args.image.now c.args.desk c.args.session c.args.shelf)
