use Rattle.snapshot.proofs.ToldLaws.{read-told, read-whole}
use Rattle.snapshot.proofs.reading.read.Goals as goal

pub returns-clause-reply : goal.returns-clause-reply
returns-clause-reply c = rw c.sight-answer.ensures (read-whole c.args.image.now c.args.desk c.args.session c.args.rec)

pub returns-clause-told : goal.returns-clause-told
returns-clause-told c = rw c.sight-answer.ensures (read-told c.args.image.now c.args.desk c.args.session c.args.rec)
