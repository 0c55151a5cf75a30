use mathlib.Core.Path.{sym, ◌∙◌}
use borrow.Author.Tests.{lt-ltb, le-ltb}
use Rattle.std.proofs.lemmas.Result.{err_from_is_err_and}
use Rattle.layout.proofs.AnswerLaws.{hands-on, goes-on}
use Rattle.layout.specs.Checks.{answered}
use Rattle.layout.specs.Refusal.{cause}
use Rattle.desk.proofs.entering.check_record.Goals as goal

pub returns-in_err-check_entry : goal.returns-in_err-check_entry
returns-in_err-check_entry c =
    let p = err_from_is_err_and c.from_residual.result c.from_residual.ensures.1 in
    rw (p.1, p.2) (hands-on _ _ tt tt c.in_err-check_entry.ensures)

pub returns-then-rec-n : goal.returns-then-rec-n
unfolding answered
returns-then-rec-n c = sym (goes-on _ _ tt tt c.in_ok-check_entry.ensures ∙ rw (lt-ltb _ _ c.if-rec-n.true))

pub returns-else-rec-n : goal.returns-else-rec-n
unfolding answered cause
returns-else-rec-n c = sym (goes-on _ _ tt tt c.in_ok-check_entry.ensures ∙ rw (le-ltb _ _ c.if-rec-n.false))
