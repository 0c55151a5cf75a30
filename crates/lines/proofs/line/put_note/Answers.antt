use Rattle.lines.specs.Result.{note_line}
use Rattle.lines.proofs.PutLaws.{and_then}
use Rattle.lines.proofs.Puts.{put_last}
use Rattle.lines.proofs.line.put_note.Goals as goal

pub returns-clause-put : goal.returns-clause-put
unfolding note_line
returns-clause-put c = and_then c.put_head-a.ensures.put put_last
