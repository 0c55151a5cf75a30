use mathlib.Core.Bool.{false}
use mathlib.Core.Path.{◌≡◌, sym, ap, ◌∙◌}
use native.Mathlib.Omega.{arith}
use borrow.Author.Tests.{le-leb, ltb-false, eq-eqb}
use lib.Dec.{ltb}
use Rattle.std.specs.Prelude.{is_some}
use Rattle.layout.specs.Checks.{first, answered}
use Rattle.layout.specs.Refusal.{cause}
use Rattle.recovery.specs.Recover.{slots_of, unsound_place, recover_fault}
use Rattle.recovery.proofs.RecoverLaws.{unsound-most}
use Rattle.recovery.proofs.Searches.{found_some}
use Rattle.recovery.proofs.recovering.check_logs.Goals as goal
use Rattle.recovery.proofs.recovering.check_logs.Goals.{In_default}

-- all are sound
sound : (c : In_default) → unsound_place c.args.image.now ≡ slots_of c.args.image.now
sound c =
    let i = c.args.image.now in
    let f : ltb (unsound_place i) (slots_of i) ≡ false = sym (found_some _ _ c.unsound_place.ensures) ∙ ap is_some c.in_default.is in
    omega (arith, unsound-most i, ltb-false (unsound_place i) (slots_of i) f)

pub returns-then-ties : goal.returns-then-ties
unfolding recover_fault first answered cause
returns-then-ties c =
    rw (← c.shaped.ensures, c.if-not-shaped.false, le-leb _ _ c.if-len-lt48.false, eq-eqb _ _ (sound (goal.at.returns-then-ties c).In_default), ← c.ties.ensures, c.if-ties.true)

pub returns-else-ties : goal.returns-else-ties
unfolding recover_fault first answered
returns-else-ties c =
    rw (← c.shaped.ensures, c.if-not-shaped.false, le-leb _ _ c.if-len-lt48.false, eq-eqb _ _ (sound (goal.at.returns-else-ties c).In_default), ← c.ties.ensures, c.if-ties.false)
