use Rattle.lines.proofs.Digits.{digits_decimal, one-digit}
use Rattle.lines.proofs.Puts.{put_as, put_last}
use mathlib.Core.Path.{◌∙◌}
use Rattle.lines.proofs.text.put_number.Goals as goal
use borrow.Author.Rules.{rules}

pub returns-then-n-lt10-clause-put : goal.returns-then-n-lt10-clause-put
returns-then-n-lt10-clause-put c = put_as (one-digit c.args.n c.if-n-lt10.true) put_last

pub returns-clause-put : goal.returns-clause-put
returns-clause-put c =
    put_as (c.decimal-k.ensures.digits ∙ digits_decimal c.decimal-k.result c.args.n (search rules) c.decimal-k.ensures.len) c.put_text.ensures
