use Rattle.lines.proofs.Puts.{put_as, numbers_more}
use Rattle.lines.proofs.PutLaws.{and_then}
use Rattle.lines.proofs.text.put_numbers.Goals as goal
use borrow.Author.Rules.{rules}

pub loop-n-preserved : goal.loop-n-preserved
loop-n-preserved c =
    (search rules, put_as (numbers_more c.args.ns.now c.loop-n.n-index (search rules)) (and_then c.loop-n.invariant.1 c.put_field_number-next.ensures.put))
