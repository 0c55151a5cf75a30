use Prim.Native.Nat.{◌≤◌}
use mathlib.Core.Path.{◌≡◌, refl, ◌∙◌}
use native.Mathlib.Omega.{arith}
use Rattle.std.proofs.Common.{rules}
use Rattle.std.proofs.iter.Serving.{serving}
use Rattle.std.proofs.Common.{tests}
use Rattle.std.proofs.lemmas.Iterator.{YieldsList-from_range}
use Rattle.std.proofs.lemmas.Iterator.Search.{any_from_yields_List}
use Rattle.std.specs.List.{list_any, range_with_len}
use Rattle.layout.proofs.Shape.{Shaped, says-shaped}
use Rattle.layout.specs.Image.{slot_word}
use Rattle.journal.specs.Log.{tied_b}
use Rattle.recovery.specs.Recover.{tied_below}
use Rattle.layout.proofs.ListLaws.{any_range}
use Rattle.recovery.proofs.recovering.tied_below.Goals as goal
use Rattle.recovery.proofs.recovering.tied_below.Goals.{After-word-n}

-- past check 1, N and M are in range
in-range : (c : After-word-n) → Shaped c.args.image.now
in-range c = (says-shaped _).yes c.requires.0

pub any-requires-clause-callable : goal.any-requires-clause-callable
any-requires-clause-callable c =
    let r = (in-range (goal.at.any-requires-clause-callable c).After-word-n).range in
    let n : c.word-n.result ≤ 256 = omega (arith, r, c.word-n.ensures) in
    let p : c.args.p ≤ 32 = c.requires.1 in
    grind serving

pub returns : goal.returns
unfolding tied_below
returns c =
    let a = c.args in
    let found : c.any.result ≡ list_any (λ q. tied_b (slot_word a.image.now c.word-n.result a.p) (slot_word a.image.now c.word-n.result q)) (range_with_len 0 a.p) =
    any_from_yields_List (λ q. tied_b (slot_word a.image.now c.word-n.result a.p) (slot_word a.image.now c.word-n.result q)) _ _ c.any.result c.any.ensures.ran (YieldsList-from_range 0 a.p _ refl (omega arith)) (λ x b q k. search (rules, tests)) in
    found ∙ any_range _ a.p ∙ rw c.word-n.ensures
