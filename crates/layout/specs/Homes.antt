-- Record words that go home: the writes of a record's four words, and of several records.
use Rattle.std.specs.Prelude.{ℕ, zero, suc, ◌+◌, ◌<◌, ◌≡◌, List, [], ◌∷◌, ◌++◌, get_or}
use Rattle.layout.specs.Image.{home_at}
use Rattle.layout.specs.Entries.{Write}

-- the writes of a record's four words to its home, in ascending index
abbrev pub home_writes : ℕ → List ℕ → List Write
home_writes r ws = (home_at r, get_or ws 0 0) ∷ (home_at r + 1, get_or ws 1 0) ∷ (home_at r + 2, get_or ws 2 0) ∷ (home_at r + 3, get_or ws 3 0) ∷ []

-- the writes of k records to their homes, in order
unfoldable pub homes_writes : (ℕ → ℕ) → (ℕ → List ℕ) → ℕ → List Write
homes_writes rec words zero = []
homes_writes rec words (suc k) = homes_writes rec words k ++ home_writes (rec k) (words k)

-- no two of the first k records are the same
abbrev pub Differ : (ℕ → ℕ) → ℕ → Type 0
Differ rec k = (i j : ℕ) → i < j → j < k → rec i ≡ rec j → ⊥
