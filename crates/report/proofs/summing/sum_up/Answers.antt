use mathlib.Core.Path.{◌≡◌, refl, sym, ap, ◌∙◌}
use native.Mathlib.Omega.{arith}
use Rattle.layout.specs.Below.{count_below}
use Rattle.layout.specs.Image.{records_of, home_words}
use Rattle.report.specs.Report.{sum_below}
use Rattle.report.specs.Changes.{counted_as}
use Rattle.report.proofs.Sums.{with-reel, with-unused, with-bad, few, all-summed}
use Rattle.report.proofs.summing.sum_up.Goals as goal
use Rattle.report.proofs.summing.sum_up.Goals.{After-kind, in-Unused, in-Reel, in-Bad}

counts : (c : After-kind) → c.kind.result ≡ counted_as (home_words c.args.image.now c.loop-r.r)
counts c = c.kind.ensures ∙ ap counted_as c.home_words.ensures

pub loop-r-init : goal.loop-r-init
unfolding count_below sum_below
loop-r-init c = record { reels = refl; seconds = refl; bad = refl; unused = refl }

pub overflow_add-totals : goal.overflow_add-totals
overflow_add-totals c = omega (arith, c.word-r-end.ensures, c.requires, few _ _ _ _ _ _ c.loop-r.invariant)

pub overflow_add-totals-in-Reel : goal.overflow_add-totals-in-Reel
overflow_add-totals-in-Reel c = omega (arith, c.word-r-end.ensures, c.requires, few _ _ _ _ _ _ c.loop-r.invariant)

pub overflow_add-totals-in-Reel-2 : goal.overflow_add-totals-in-Reel-2
overflow_add-totals-in-Reel-2 c =
    let e = sym (counts (goal.at.overflow_add-totals-in-Reel-2 c).After-kind) ∙ c.in-Reel.is in
    omega (arith, c.word-r-end.ensures, c.requires, few _ _ _ _ _ _ (with-reel _ _ _ _ _ _ c.loop-r.invariant _ e))

pub overflow_add-totals-in-Bad : goal.overflow_add-totals-in-Bad
overflow_add-totals-in-Bad c = omega (arith, c.word-r-end.ensures, c.requires, few _ _ _ _ _ _ c.loop-r.invariant)

pub loop-r-preserved : goal.loop-r-preserved
loop-r-preserved c =
    let e = sym (counts (goal.at.loop-r-preserved c).After-kind) in
    elim c.match-kind.branch [
      | in-Unused w ↦ rw w.totals-is (with-unused _ _ _ _ _ _ c.loop-r.invariant (e ∙ w.in-Unused.is))
      | in-Reel w ↦ rw w.totals-is (with-reel _ _ _ _ _ _ c.loop-r.invariant _ (e ∙ w.in-Reel.is))
      | in-Bad w ↦ rw w.totals-is (with-bad _ _ _ _ _ _ c.loop-r.invariant (e ∙ w.in-Bad.is))
    ]

pub returns : goal.returns
returns c =
    let e : c.loop-r.r ≡ records_of c.args.image.now = omega (arith, c.word-r-end.ensures, c.loop-r-test.false, c.loop-r.auto.r-end) in
    all-summed c.args.image.now c.loop-r.r c.loop-r.totals e c.loop-r.invariant
