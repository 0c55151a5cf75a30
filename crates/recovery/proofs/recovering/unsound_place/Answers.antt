use Prim.Native.Nat.{ℕ, ◌*◌, ◌≤◌}
use mathlib.Core.Path.{◌≡◌, refl, sym, ◌∙◌}
use native.Mathlib.Omega.{arith}
use Rattle.std.proofs.Common.{rules}
use Rattle.std.proofs.iter.Serving.{serving}
use Rattle.std.proofs.Common.{tests}
use Rattle.std.specs.Prelude.{Option, Some, None, option_map}
use Rattle.std.proofs.lemmas.Iterator.{YieldsList-from_range}
use Rattle.std.proofs.lemmas.Iterator.Search.{find_from_yields_List}
use Rattle.std.specs.List.{find, range_with_len}
use Rattle.layout.proofs.Shape.{Shaped, says-shaped}
use Rattle.layout.specs.Image.{slot_word}
use Rattle.journal.specs.Log.{unsound_b}
use Rattle.recovery.specs.Recover.{unsound_place}
use Rattle.recovery.proofs.Searches.{find-lowest}
use Rattle.recovery.proofs.recovering.unsound_place.Goals as goal
use Rattle.recovery.proofs.recovering.unsound_place.Goals.{After-word-slots}

itself : (o : Option ℕ) → option_map (λ x. x) o ≡ o
itself None = refl
itself (Some x) = refl

-- past check 1, N and M are in range
in-range : (c : After-word-slots) → Shaped c.args.image.now
in-range c = (says-shaped _).yes c.requires

pub overflow_mul-slots : goal.overflow_mul-slots
overflow_mul-slots c = omega (arith, (in-range c).range)

pub find-requires-clause-callable : goal.find-requires-clause-callable
find-requires-clause-callable c =
    let r = (in-range (goal.at.find-requires-clause-callable c).After-word-slots).range in
    let n : c.word-n.result ≤ 256 = omega (arith, r, c.word-n.ensures) in
    let s : 2 * c.word-slots.result ≤ 32 = omega (arith, r, c.word-slots.ensures) in
    grind serving

pub returns : goal.returns
unfolding unsound_place
returns c =
    let i = c.args.image.now in
    let found : option_map (λ x. x) c.find.result ≡ find (λ p. unsound_b c.word-n.result (slot_word i c.word-n.result p)) (range_with_len 0 (2 * c.word-slots.result)) =
    find_from_yields_List (λ p. unsound_b c.word-n.result (slot_word i c.word-n.result p)) _ _ c.find.result c.find.ensures.ran (YieldsList-from_range 0 (2 * c.word-slots.result) _ refl (omega arith)) (λ x b q k. search (rules, tests)) in
    sym (itself c.find.result) ∙ found ∙ find-lowest _ (2 * c.word-slots.result) ∙ rw (c.word-slots.ensures, c.word-n.ensures)
