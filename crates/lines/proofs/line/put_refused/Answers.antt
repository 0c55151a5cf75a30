use Rattle.lines.specs.Result.{refused_line}
use Rattle.lines.proofs.PutLaws.{and_then}
use Rattle.lines.proofs.Puts.{put_last}
use Rattle.lines.proofs.line.put_refused.Goals as goal

pub returns-clause-put : goal.returns-clause-put
unfolding refused_line
returns-clause-put c = and_then c.put_step_head-a.ensures.put (and_then c.put_result-b.ensures.put put_last)
