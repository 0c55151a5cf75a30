use Rattle.lines.specs.Result.{step_line}
use Rattle.lines.proofs.PutLaws.{and_then}
use Rattle.lines.proofs.Puts.{put_last}
use Rattle.lines.proofs.line.put_line.Goals as goal

pub returns-clause-put : goal.returns-clause-put
unfolding step_line
returns-clause-put c = and_then c.put_step_head-a.ensures.put (and_then c.put_outcome-b.ensures.put put_last)
