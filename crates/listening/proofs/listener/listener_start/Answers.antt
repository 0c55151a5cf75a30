use mathlib.Core.Path.{sym, ◌∙◌}
use borrow.Author.Tests.{eq-eqb, ne_eqb}
use Rattle.std.proofs.lemmas.Result.{err_from_is_err_and}
use Rattle.layout.specs.Checks.{first, answered}
use Rattle.layout.specs.Refusal.{cause}
use Rattle.layout.proofs.AnswerLaws.{hands-on, goes-on}
use Rattle.desk.specs.Desk.{start_at, active_count}
use Rattle.desk.specs.Entering.{image_fault}
use Rattle.snapshot.proofs.ReadLaws.{unstarted}
use Rattle.listening.specs.Listener.{listener_fault}
use Rattle.listening.proofs.listener.listener_start.Goals as goal

pub returns-in_err-entered : goal.returns-in_err-entered
unfolding listener_fault
returns-in_err-entered c =
    let a = c.args in
    let p = err_from_is_err_and c.from_residual.result c.from_residual.ensures.1 in
    rw (p.1, p.2)
    (hands-on (image_fault a.image.now a.desk.now a.room a.session) _ (active_count a.desk.now) (start_at a.desk.now a.session) c.in_err-entered.ensures.answer)

pub returns-in_default : goal.returns-in_default
unfolding listener_fault first answered cause
returns-in_default c =
    let a = c.args in
    sym (goes-on (image_fault a.image.now a.desk.now a.room a.session) _ (active_count a.desk.now) (start_at a.desk.now a.session) c.in_ok-entered.ensures.answer
    ∙ rw (unstarted _ c.in_default.not-Active))

pub returns-then-count-eq0 : goal.returns-then-count-eq0
unfolding listener_fault first answered
returns-then-count-eq0 c =
    let a = c.args in
    sym (goes-on (image_fault a.image.now a.desk.now a.room a.session) _ (active_count a.desk.now) (start_at a.desk.now a.session) c.in_ok-entered.ensures.answer
    ∙ rw (c.in-Active.is, eq-eqb _ 0 c.if-count-eq0.true))

pub returns-else-count-eq0 : goal.returns-else-count-eq0
unfolding listener_fault first answered cause
returns-else-count-eq0 c =
    let a = c.args in
    sym (goes-on (image_fault a.image.now a.desk.now a.room a.session) _ (active_count a.desk.now) (start_at a.desk.now a.session) c.in_ok-entered.ensures.answer
    ∙ rw (c.in-Active.is, ne_eqb _ 0 c.if-count-eq0.false))
