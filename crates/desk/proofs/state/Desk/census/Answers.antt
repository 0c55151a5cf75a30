use Rattle.std.proofs.Common.{rules}
use mathlib.Core.Path.{sym, ◌∙◌}
use native.Mathlib.Omega.{arith}
use Rattle.desk.proofs.Census.{Walked, sizes-fail, idles-fail, begins, copies-fail, walked, clock-fits, actives-few, clock-fails, list-fails, census-is}
use Rattle.desk.proofs.state.Desk.census.Goals as goal
use Rattle.desk.proofs.state.Desk.census.Goals.{In_ok-struck}
use Rattle.desk.proofs.state.Desk.census.Goals.{then-not-sizes_in_range-via-then-not-sizes_in_range, then-not-sizes_in_range-via-else-not-sizes_in_range+then-not-idles_are_quiet}

pub returns-then-not-sizes_in_range : goal.returns-then-not-sizes_in_range
returns-then-not-sizes_in_range c =
    let d = c.args.self.now in
    elim c.then-not-sizes_in_range.branch [
      | then-not-sizes_in_range-via-then-not-sizes_in_range w ↦ sizes-fail d (sym c.sizes_in_range.ensures ∙ w.if-not-sizes_in_range.true)
      | then-not-sizes_in_range-via-else-not-sizes_in_range+then-not-idles_are_quiet w ↦
          idles-fail d (search rules) (sym c.sizes_in_range.ensures ∙ w.if-not-sizes_in_range.false) (sym w.idles_are_quiet.ensures ∙ w.if-not-idles_are_quiet.true)
    ]

pub returns-in_err-struck : goal.returns-in_err-struck
returns-in_err-struck c =
    let d = c.args.self.now in
    let b = begins d (search rules) (sym c.sizes_in_range.ensures ∙ c.if-not-sizes_in_range.false) (sym c.idles_are_quiet.ensures ∙ c.if-not-idles_are_quiet.false) in
    c.from_residual.ensures ∙ copies-fail d b c.in_err-struck.ensures

-- the sessions have passed
through : (c : In_ok-struck) → Walked c.args.self.now c.in_ok-struck.struck
through c =
    let d = c.args.self.now in
    let b = begins d (search rules) (sym c.sizes_in_range.ensures ∙ c.if-not-sizes_in_range.false) (sym c.idles_are_quiet.ensures ∙ c.if-not-idles_are_quiet.false) in
    walked d b c.in_ok-struck.ensures

pub overflow_add-self : goal.overflow_add-self
overflow_add-self c = omega (arith, clock-fits _ (through c))

pub returns-then-self-struck-gt-CLOCK_MOST : goal.returns-then-self-struck-gt-CLOCK_MOST
returns-then-self-struck-gt-CLOCK_MOST c =
    clock-fails _ (through (goal.at.returns-then-self-struck-gt-CLOCK_MOST c).In_ok-struck) c.if-self-struck-gt-CLOCK_MOST.true

pub strike_list-requires : goal.strike_list-requires
strike_list-requires c = actives-few _ (through (goal.at.strike_list-requires c).In_ok-struck)

pub returns-in_err-left : goal.returns-in_err-left
returns-in_err-left c =
    let w = through (goal.at.returns-in_err-left c).In_ok-struck in
    c.from_residual-in_err-left.ensures ∙ list-fails _ w c.if-self-struck-gt-CLOCK_MOST.false c.in_err-left.ensures

pub returns : goal.returns
returns c =
    let w = through (goal.at.returns c).In_ok-struck in
    c.then_some.ensures ∙ rw (c.all_zero.ensures, c.all_zero-2.ensures)
    (census-is _ w c.if-self-struck-gt-CLOCK_MOST.false (search rules) (search rules) c.in_ok-left.ensures)
