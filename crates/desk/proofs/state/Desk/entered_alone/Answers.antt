use mathlib.Core.Path.{sym, ◌∙◌}
use native.Mathlib.Omega.{arith}
use borrow.Author.Tests.{lt-ltb, le-ltb}
use Rattle.layout.specs.Checks.{first, answered}
use Rattle.layout.specs.Refusal.{cause}
use Rattle.desk.specs.Entering.{session_fault}
use Rattle.desk.proofs.Census.{census-none, census-some}
use Rattle.desk.proofs.Facts.{says-coherent}
use Rattle.desk.proofs.state.Desk.entered_alone.Goals as goal

pub returns-in_default-clause-answer : goal.returns-in_default-clause-answer
unfolding session_fault first answered cause
returns-in_default-clause-answer c = rw (census-none c.args.self.now (sym c.in_default.is ∙ c.census.ensures))

pub returns-then-session-self-clause-answer : goal.returns-then-session-self-clause-answer
unfolding session_fault first answered
returns-then-session-self-clause-answer c =
    let h = census-some c.args.self.now c.in-Some.ensures in rw (h.0, lt-ltb _ _ c.if-session-self.true, ← h.1)

pub returns-then-session-self-clause-inside : goal.returns-then-session-self-clause-inside
returns-then-session-self-clause-inside c =
    let h = census-some c.args.self.now c.in-Some.ensures in omega (arith, c.if-session-self.true, ((says-coherent c.args.self.now).yes h.0).m-high)

pub returns-else-session-self-clause-answer : goal.returns-else-session-self-clause-answer
unfolding session_fault first answered cause
returns-else-session-self-clause-answer c =
    let h = census-some c.args.self.now c.in-Some.ensures in rw (h.0, le-ltb _ _ c.if-session-self.false)
