use Prim.Native.Nat.{ℕ, ◌<◌, ◌≤◌}
use mathlib.Core.Path.{◌≡◌, sym, ◌∙◌}
use mathlib.Core.Logic.{◌⊎◌, inl, inr}
use borrow.Author.Tests.{not-true, not-false}
use native.Mathlib.Omega.{arith}
use Rattle.layout.proofs.BelowLaws.{count_most}
use Rattle.desk.specs.Desk.{session_at, order_at, active_at, active_count}
use Rattle.desk.proofs.Facts.{NumberIn, Coherent, says-coherent}
use Rattle.commit.specs.Settle.{start_below}
use Rattle.commit.proofs.Front.{order_small, run_more, reader-waits, reader-none, start-some, start-none, start-same, same_start, other_start}
use Rattle.commit.proofs.settling.reader_below.Goals as goal
use Rattle.commit.proofs.settling.reader_below.Goals.{Start, In_ok-start, else-loop-j-test, then-loop-j-test+then-ne}

coherent : (c : Start) → Coherent c.args.desk.now
coherent c = (says-coherent _).yes c.requires.0

-- the session at a place of the list
small : (c : Start) → (j : ℕ) → j < 16 → order_at c.args.desk.now j < 16
small c = order_small c.args.desk.now (coherent c)

few : (c : Start) → c.args.active ≤ 16
few c = omega (arith, c.requires.1, count_most (active_at c.args.desk.now) 16)

number : (c : Start) (j : ℕ) → j < 16 → let d = c.args.desk.now in NumberIn (session_at d (order_at d j)).phase d.clock
number c j l = ((coherent c).session _ (small c j l)).number

-- the start of the front of the list
started : (c : In_ok-start)
    → let d = c.args.desk.now in
    NumberIn (session_at d (order_at d 0)).phase d.clock → (start_below c.args.end (session_at d (order_at d 0)).phase ≡ c.in_ok-start.start) × (c.in_ok-start.start ≡ 0 → ⊥)
started c n =
    let d = c.args.desk.now in
    start-some c.args.end d.clock (session_at d (order_at d 0)).phase c.start_below.ensures n c.in_ok-start.start c.in_ok-start.was

pub bounds-desk-front : goal.bounds-desk-front
bounds-desk-front c = small (goal.at.bounds-desk-front c).Start 0 (omega arith)

pub returns-in_err-start : goal.returns-in_err-start
returns-in_err-start c =
    let d = c.args.desk.now in
    c.from_residual.ensures ∙ sym (reader-none d (coherent (goal.at.returns-in_err-start c).Start) c.args.end (start-none c.args.end 0 (session_at d (order_at d 0)).phase c.start_below.ensures c.in_err-start.was))

pub bounds-desk-j : goal.bounds-desk-j
bounds-desk-j c = omega (arith, c.loop-j-test.true, few (goal.at.bounds-desk-j c).Start)

pub bounds-desk-next : goal.bounds-desk-next
bounds-desk-next c = small (goal.at.bounds-desk-next c).Start c.loop-j.j (omega (arith, c.loop-j-test.true, few (goal.at.bounds-desk-next c).Start))

pub loop-j-preserved : goal.loop-j-preserved
loop-j-preserved c =
    let d = c.args.desk.now in
    let k = c.loop-j.j in
    let l : k < 16 = omega (arith, c.loop-j-test.true, few (goal.at.loop-j-preserved c).Start) in
    let o = same_start _ _ (not-false _ (sym c.ne.ensures ∙ c.if-ne.false)) in
    let e = start-some c.args.end d.clock (session_at d (order_at d k)).phase c.start_below-in-loop-j.ensures (number (goal.at.loop-j-preserved c).Start k l) _ o in
    (omega arith, run_more d c.args.end k c.loop-j.lowest _ c.loop-j.invariant.1 (e.0 ∙ sym (started (goal.at.loop-j-preserved c).In_ok-start (number (goal.at.loop-j-preserved c).Start 0 (omega arith))).0) c.min-lowest.ensures)

pub returns : goal.returns
returns c =
    let d = c.args.desk.now in
    let k = c.loop-j.j in
    let s = started (goal.at.returns c).In_ok-start (number (goal.at.returns c).Start 0 (omega arith)) in
    let front = (session_at d (order_at d 0)).phase in
    let stop : (active_count d ≤ k) ⊎ (start_below c.args.end (session_at d (order_at d k)).phase ≡ start_below c.args.end front → ⊥) =
    elim c.loop-j-test.branch [
      | else-loop-j-test w ↦ inl (omega (arith, w.loop-j-test.false, c.requires.1))
      | then-loop-j-test+then-ne w ↦
          inr (λ e. other_start _ _ (not-true _ (sym w.ne.ensures ∙ w.if-ne.true)) (start-same c.args.end d.clock (session_at d (order_at d k)).phase w.start_below-in-loop-j.ensures _ s.1 (e ∙ s.0)))
    ] in
    rw c.from.ensures (sym (reader-waits d (coherent (goal.at.returns c).Start) c.args.end (λ z. s.1 (sym s.0 ∙ z)) k c.loop-j.lowest c.loop-j.invariant.0 c.loop-j.invariant.1 stop))
