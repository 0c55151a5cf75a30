use Rattle.lines.proofs.PutLaws.{and_then}
use Rattle.lines.proofs.text.put_head.Goals as goal

pub returns-clause-put : goal.returns-clause-put
returns-clause-put c = and_then c.put_number-a.ensures.put (and_then c.put_field-b.ensures.put c.put_numbers.ensures.put)
