use Rattle.desk.proofs.ToldLaws.{begin-told}
use Rattle.desk.proofs.state.Desk.begin.Goals as goal

pub returns-clause-told : goal.returns-clause-told
returns-clause-told c = rw c.start-answer.ensures.answer (begin-told c.args.self c.args.session)
