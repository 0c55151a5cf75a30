use mathlib.Core.Bool.{true, false}
use mathlib.Core.Path.{◌≡◌, refl, sym, ap, ◌∙◌}
use native.Mathlib.Omega.{arith}
use Rattle.std.specs.Prelude.{⊤}
use Rattle.std.proofs.lemmas.Result.{err_from_is_err_and}
use Rattle.layout.specs.Checks.{unless, answered}
use Rattle.layout.specs.Refusal.{cause}
use Rattle.layout.proofs.AnswerLaws.{given-by, turned-away, let-through}
use Rattle.desk.specs.Abandon.{abandon_reply, abandon_fault, abandon_refused, abandoned}
use Rattle.desk.specs.Desk.{session_at, is_active, active_count}
use Rattle.desk.specs.Entering.{desk_fault}
use Rattle.desk.specs.declared.reply.Reply.{Reply}
use Rattle.desk.proofs.DeskEntered.{desk-entered, markable}
use Rattle.desk.proofs.state.Desk.drop_session.Goals as goal
use Rattle.desk.proofs.state.Desk.drop_session.Goals.{In_ok-entered_alone}

pub returns-in_err-entered_alone : goal.returns-in_err-entered_alone
unfolding abandon_reply abandon_fault
returns-in_err-entered_alone c =
    let d = c.args.self.now in let s = c.args.session in
    let p = err_from_is_err_and c.from_residual.result c.from_residual.ensures.1 in
    let h = turned-away (desk_fault d s) _ (active_count d) (abandon_refused d) (abandoned d s) c.in_err-entered_alone.ensures.answer in
    record {
      answer = rw (p.1, p.2, h.1) (sym (ap (λ (r : Reply ⊤). r.answer) h.0));
      desk = sym (ap (λ (r : Reply ⊤). r.desk) h.0);
    }

-- past the first checks
entered : (c : In_ok-entered_alone) → abandon_reply c.args.self.now c.args.session
    ≡ answered (unless (is_active (session_at c.args.self.now c.args.session).phase) 6) (abandon_refused c.args.self.now) (abandoned c.args.self.now c.args.session)
unfolding abandon_reply abandon_fault
entered c =
    let d = c.args.self.now in let s = c.args.session in
    let-through (desk_fault d s) _ (active_count d) (abandon_refused d) (abandoned d s) c.in_ok-entered_alone.ensures.answer

pub returns-then-not-is_active : goal.returns-then-not-is_active
unfolding answered cause
returns-then-not-is_active c =
    let z : is_active (session_at c.args.self.now c.args.session).phase ≡ false = sym c.is_active.ensures ∙ c.if-not-is_active.true in
    rw (entered (goal.at.returns-then-not-is_active c).In_ok-entered_alone, z) (record { answer = refl; desk = refl })

pub unmark-requires : goal.unmark-requires
unmark-requires c =
    let h = (desk-entered c.args.self.now c.args.session (given-by _ (active_count c.args.self.now) c.in_ok-entered_alone.ensures.answer).0) in
    markable (h.coherent.session _ h.below-16) h.coherent.n-high _ (omega arith)

pub returns : goal.returns
unfolding answered
returns c =
    let z : is_active (session_at c.args.self.now c.args.session).phase ≡ true = sym c.is_active.ensures ∙ c.if-not-is_active.false in
    rw (entered (goal.at.returns c).In_ok-entered_alone, z, c.leave-self.ensures, c.unmark.ensures, c.idle.ensures) (record { answer = refl; desk = refl })
