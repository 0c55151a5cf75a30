use Rattle.lines.proofs.PutLaws.{and_then}
use Rattle.lines.proofs.text.put_result.Goals as goal

pub returns-clause-put : goal.returns-clause-put
returns-clause-put c = and_then c.put_field-a.ensures.put (and_then c.put_numbers-b.ensures.put c.put_field.ensures.put)
