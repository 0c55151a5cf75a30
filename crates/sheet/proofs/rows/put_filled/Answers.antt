use native.Mathlib.Omega.{arith}
use Rattle.lines.proofs.PutLaws.{and_then}
use Rattle.sheet.proofs.rows.put_filled.Goals as goal
use Rattle.sheet.proofs.Clauses.{put-upper_bound}

pub returns : goal.returns
returns c = put-upper_bound ((and_then c.put_row-a.ensures.put (and_then c.put_row-b.ensures.put (and_then c.put_row-c.ensures.put (and_then c.put_row-d.ensures.put c.put_row.ensures.put))), omega (arith, c.put_row-a.ensures.upper_bound, c.put_row-b.ensures.upper_bound, c.put_row-c.ensures.upper_bound, c.put_row-d.ensures.upper_bound, c.put_row.ensures.upper_bound)))
