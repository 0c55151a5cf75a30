use Prim.Native.Nat.{◌/◌}
use mathlib.Core.Path.{ap, ◌∙◌}
use native.Mathlib.Numerals.{add-one}
use native.Mathlib.Omega.{arith}
use lib.ListN.{length, take}
use lib.Seq.{take_all}
use Rattle.steps.proofs.CutLaws.{arrived, arrived-more, arrived-replayed}
use Rattle.steps.proofs.cut.replay.Goals as goal

pub loop-index-preserved : goal.loop-index-preserved
loop-index-preserved c = rw (c.arrive.ensures, c.loop-index.invariant, add-one) (arrived-more _ _ _ _ c.loop-index-test.true)

pub returns : goal.returns
returns c =
    let a = c.args in
    let n = c.min-n.ensures in
    let h = c.as_chunks.ensures in
    c.loop-index.invariant
    ∙ ap (λ l. arrived l a.image.now) (take_all c.loop-index.index-index _ c.loop-index-test.false ∙ ap (take c.min-n.result) h.front)
    ∙ arrived-replayed c.min-n.result (length a.trace.now / 2) a.count a.trace.now a.image.now (omega arith) (omega arith)
    (omega (arith, n, h.front_len)) (omega (arith, n)) (λ x y. omega (arith, n, h.front_len))
