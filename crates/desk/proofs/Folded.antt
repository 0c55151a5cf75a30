-- A fold by "and" is a test of all.
use mathlib.Core.Bool.{Bool, true, false, ◌&&◌}
use mathlib.Core.List.{List, [], ◌∷◌}
use mathlib.Core.Path.{◌≡◌, refl, ◌∙◌}
use Rattle.std.proofs.Math.Bool.{and_assoc}
use Rattle.std.specs.List.{fold, list_all}

from : {X : Type 0} (p : X → Bool) (a : Bool) (xs : List X) → fold (λ b x. b && p x) a xs ≡ (a && list_all p xs)
from p true [] = refl
from p false [] = refl
from p a (x ∷ xs) = from p (a && p x) xs ∙ and_assoc a (p x) (list_all p xs)

pub folded-all : {X : Type 0} (p : X → Bool) (xs : List X) → fold (λ b x. b && p x) true xs ≡ list_all p xs
folded-all p xs = from p true xs
