-- Lay (document 01): an empty image, zero records and zero slots. It checks 14 before 1, and then the length alone.
use Rattle.std.specs.Prelude.{ℕ, ◌+◌, ◌*◌, List, ◌∷◌, length, replicate, eqb, ⊤}
use Rattle.layout.specs.Checks.{unless, first, answered}
use Rattle.layout.specs.Image.{in_range, size_of}
use Rattle.layout.specs.Refusal.{Answer, answer_of}
use Rattle.layout.specs.Told.{Told, refusal, ok}

unfoldable pub lay_fault : ℕ → ℕ → ℕ → ℕ
lay_fault n m size = first (unless (in_range n m) 14) (unless (eqb size (size_of n m)) 1)

unfoldable pub lay_answer : ℕ → ℕ → List ℕ → Answer ⊤
lay_answer n m img = answer_of (lay_fault n m (length img)) tt

-- the header, and zero everywhere else
abbrev pub empty_image : ℕ → ℕ → List ℕ
empty_image n m = 1 ∷ n ∷ m ∷ replicate (1 + 4 * n + 44 * m) 0

-- refused, the image is as it was; accepted, every word is written
unfoldable pub laid_image : ℕ → ℕ → List ℕ → List ℕ
laid_image n m img = answered (lay_fault n m (length img)) (λ k. img) (empty_image n m)

-- what it tells
unfoldable pub lay_said : ℕ → ℕ → List ℕ → Told
lay_said n m img = answered (lay_fault n m (length img)) refusal ok
