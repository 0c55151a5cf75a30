use Prim.Native.Nat.{◌*◌, ◌≤◌}
use mathlib.Core.Path.{◌≡◌, refl, ◌∙◌}
use native.Mathlib.Omega.{arith}
use Rattle.std.proofs.Common.{rules}
use Rattle.std.proofs.iter.Serving.{serving}
use Rattle.std.proofs.Common.{tests}
use Rattle.std.proofs.lemmas.Iterator.{YieldsList-from_range}
use Rattle.std.proofs.lemmas.Iterator.Search.{any_from_yields_List}
use Rattle.std.specs.List.{list_any, range_with_len}
use Rattle.layout.proofs.Shape.{Shaped, says-shaped}
use Rattle.recovery.specs.Recover.{tied_below, ties_b}
use Rattle.layout.proofs.ListLaws.{any_range}
use Rattle.recovery.proofs.recovering.ties.Goals as goal
use Rattle.recovery.proofs.recovering.ties.Goals.{After-word-slots}

-- past check 1, N and M are in range
in-range : (c : After-word-slots) → Shaped c.args.image.now
in-range c = (says-shaped _).yes c.requires

pub overflow_mul-slots : goal.overflow_mul-slots
overflow_mul-slots c = omega (arith, (in-range c).range)

pub any-requires-clause-callable : goal.any-requires-clause-callable
any-requires-clause-callable c =
    let s : 2 * c.word-slots.result ≤ 32 = omega (arith, (in-range (goal.at.any-requires-clause-callable c).After-word-slots).range, c.word-slots.ensures) in
    grind serving

pub returns : goal.returns
unfolding ties_b
returns c =
    let i = c.args.image.now in
    let found : c.any.result ≡ list_any (tied_below i) (range_with_len 0 (2 * c.word-slots.result)) =
    any_from_yields_List (tied_below i) _ _ c.any.result c.any.ensures.ran (YieldsList-from_range 0 (2 * c.word-slots.result) _ refl (omega arith)) (λ x b q k. search (rules, tests)) in
    found ∙ any_range (tied_below i) (2 * c.word-slots.result) ∙ rw c.word-slots.ensures
