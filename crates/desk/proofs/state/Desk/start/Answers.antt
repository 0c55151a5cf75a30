use Prim.Native.Nat.{◌<◌}
use mathlib.Core.Bool.{true, false}
use mathlib.Core.Path.{◌≡◌, refl, sym, ap, ◌∙◌}
use native.Mathlib.Omega.{arith}
use Rattle.std.specs.Prelude.{ℕ}
use Rattle.std.proofs.lemmas.Result.{err_from_is_err_and}
use Rattle.layout.specs.Checks.{unless, answered}
use Rattle.layout.specs.Refusal.{cause}
use Rattle.layout.proofs.AnswerLaws.{given-by, turned-away, let-through}
use Rattle.desk.specs.Begin.{begin_reply, begin_fault, begin_refused, begun}
use Rattle.desk.specs.Desk.{session_at, is_idle, active_count}
use Rattle.desk.specs.Entering.{desk_fault}
use Rattle.desk.specs.declared.reply.Reply.{Reply}
use Rattle.desk.proofs.DeskEntered.{desk-entered, joinable}
use Rattle.desk.proofs.state.Desk.start.Goals as goal
use Rattle.desk.proofs.state.Desk.start.Goals.{In_ok-active, Else-not-is_idle}

pub returns-in_err-active : goal.returns-in_err-active
unfolding begin_reply begin_fault
returns-in_err-active c =
    let d = c.args.self.now in let s = c.args.session in
    let p = err_from_is_err_and c.from_residual.result c.from_residual.ensures.1 in
    let h = turned-away (desk_fault d s) _ (active_count d) (begin_refused d) (begun d s) c.in_err-active.ensures.answer in
    record {
      answer = rw (p.1, p.2, h.1) (sym (ap (λ (r : Reply ℕ). r.answer) h.0));
      desk = sym (ap (λ (r : Reply ℕ). r.desk) h.0);
    }

-- past the first checks
entered : (c : In_ok-active) → begin_reply c.args.self.now c.args.session
    ≡ answered (unless (is_idle (session_at c.args.self.now c.args.session).phase) 6) (begin_refused c.args.self.now) (begun c.args.self.now c.args.session)
unfolding begin_reply begin_fault
entered c =
    let d = c.args.self.now in let s = c.args.session in
    let-through (desk_fault d s) _ (active_count d) (begin_refused d) (begun d s) c.in_ok-active.ensures.answer

pub returns-then-not-is_idle : goal.returns-then-not-is_idle
unfolding answered cause
returns-then-not-is_idle c =
    let z : is_idle (session_at c.args.self.now c.args.session).phase ≡ false = sym c.is_idle.ensures ∙ c.if-not-is_idle.true in
    rw (entered (goal.at.returns-then-not-is_idle c).In_ok-active, z) (record { answer = refl; desk = refl })

-- how many are active, and that there is a place behind them
counted : (c : Else-not-is_idle) → (c.in_ok-active.active ≡ active_count c.args.self.now) × (active_count c.args.self.now < 16)
counted c =
    let h = given-by (desk_fault c.args.self.now c.args.session) (active_count c.args.self.now) c.in_ok-active.ensures.answer in
    (h.1, joinable _ _ (desk-entered _ _ h.0) (sym c.is_idle.ensures ∙ c.if-not-is_idle.false))

pub bounds-self-active : goal.bounds-self-active
bounds-self-active c = omega (arith, counted c)

pub returns : goal.returns
unfolding answered
returns c =
    let z : is_idle (session_at c.args.self.now c.args.session).phase ≡ true = sym c.is_idle.ensures ∙ c.if-not-is_idle.false in
    rw (entered (goal.at.returns c).In_ok-active, z, (counted (goal.at.returns c).Else-not-is_idle).0) (record { answer = refl; desk = refl })
