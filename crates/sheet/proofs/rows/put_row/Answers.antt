use native.Mathlib.Omega.{arith}
use Rattle.lines.proofs.PutLaws.{and_then}
use Rattle.lines.proofs.Puts.{put_last}
use Rattle.sheet.proofs.rows.put_row.Goals as goal
use Rattle.sheet.proofs.Clauses.{put-upper_bound}

pub returns : goal.returns
returns c = put-upper_bound ((and_then (and_then c.put_text-a.ensures c.put_numbers-b.ensures.put) put_last, omega (arith, c.put_numbers-b.ensures.upper_bound, c.put_text-a.ensures.next, c.requires)))
