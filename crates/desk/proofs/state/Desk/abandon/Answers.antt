use Rattle.desk.proofs.ToldLaws.{abandon-told}
use Rattle.desk.proofs.state.Desk.abandon.Goals as goal

pub returns-clause-told : goal.returns-clause-told
returns-clause-told c = rw c.drop_session-answer.ensures.answer (abandon-told c.args.self c.args.session)
