use Prim.Native.Nat.{◌<◌}
use mathlib.Core.Bool.{false, not, ◌&&◌}
use mathlib.Core.Path.{◌≡◌, sym, ◌∙◌}
use native.Mathlib.Omega.{arith}
use lib.Dec.{eqb}
use borrow.Author.Tests.{eq-eqb, ne_eqb}
use Rattle.snapshot.specs.Own.{own_place}
use Rattle.snapshot.specs.Read.{shown_at, sight_of}
use Rattle.snapshot.proofs.Searches.{found_below, found_none}
use Rattle.snapshot.proofs.seeing.seen.Goals as goal
use Rattle.snapshot.proofs.seeing.seen.Goals.{In-Some, then-mark-ne0+then-shown_at+in_default, else-mark-ne0, else-mark-ne0-via-then-mark-ne0+else-shown_at, else-mark-ne0-via-else-mark-ne0}

-- the copy that is shown has one of the holder's four places
placed : (c : In-Some) → (own_place c.args.holder c.args.rec < 4) × (c.in-Some.place ≡ own_place c.args.holder c.args.rec)
placed c = found_below 4 _ c.own_place.ensures _ c.in-Some.is

pub offset_bounds-holder-place : goal.offset_bounds-holder-place
offset_bounds-holder-place c = omega (arith, placed c)

pub bounds-holder-place : goal.bounds-holder-place
bounds-holder-place c = omega (arith, placed c)

pub returns-in-Some : goal.returns-in-Some
unfolding sight_of
returns-in-Some c = rw (ne_eqb _ _ c.if-mark-ne0.true, sym c.shown_at.ensures ∙ c.if-shown_at.true, (placed (goal.at.returns-in-Some c).In-Some).1)

pub returns : goal.returns
unfolding sight_of
returns c =
    let a = c.args in
    let hidden : (not (eqb a.mark 0) && shown_at a.start a.holder.phase) ≡ false =
    elim c.if-mark-ne0.branch [
      | then-mark-ne0+then-shown_at+in_default w ↦ absurd (omega (arith, c.requires.1 w.if-mark-ne0.true, found_none 4 _ w.own_place.ensures w.in_default.not-Some))
      | else-mark-ne0 w ↦
          elim w.else-mark-ne0.branch [
            | else-mark-ne0-via-then-mark-ne0+else-shown_at v ↦ rw (ne_eqb _ _ v.if-mark-ne0.true) (sym v.shown_at.ensures ∙ v.if-shown_at.false)
            | else-mark-ne0-via-else-mark-ne0 v ↦ rw (eq-eqb _ _ v.if-mark-ne0.false)
          ]
    ] in
    rw (hidden, c.home_words.ensures)
