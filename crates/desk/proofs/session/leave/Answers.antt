use Rattle.std.proofs.Common.{rules}
use mathlib.Core.Path.{sym, ◌∙◌}
use Rattle.desk.proofs.Without.{without-rotated, without-none}
use Rattle.desk.proofs.session.leave.Goals as goal

pub returns-in-Some : goal.returns-in-Some
returns-in-Some c =
    rw c.rotate_left.ensures.after (without-rotated c.args.session c.args.order c.in-Some.place (search rules) (sym c.in-Some.ensures))

pub returns-in_default : goal.returns-in_default
returns-in_default c = sym (without-none c.args.session c.args.order (sym c.place_of.ensures ∙ c.in_default.is))
