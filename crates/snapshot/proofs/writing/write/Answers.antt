use Rattle.snapshot.proofs.ToldLaws.{write-told}
use Rattle.snapshot.proofs.writing.write.Goals as goal

pub returns-clause-told : goal.returns-clause-told
returns-clause-told c = rw c.put_copy-answer.ensures.answer (write-told c.args.image.now c.args.desk c.args.session c.args.rec c.args.words)
