use Rattle.lines.proofs.Puts.{put_as, put-cons, field-none, field-some}
use Rattle.lines.proofs.PutLaws.{put-none}
use Rattle.lines.proofs.text.put_field.Goals as goal
use borrow.Author.Rules.{rules}

pub returns-then-is_empty-clause-put : goal.returns-then-is_empty-clause-put
returns-then-is_empty-clause-put c = put_as (field-none c.args.text.now (search rules)) put-none

pub returns-clause-put : goal.returns-clause-put
returns-clause-put c = put_as (field-some c.args.text.now (search rules)) (put-cons c.put_text.ensures)
