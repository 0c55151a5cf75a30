-- The shape of a step that stores: writes, a fence, the one word that makes them count, a fence.
use Rattle.std.specs.Prelude.{ℕ, List, [], ◌∷◌, ◌++◌}
use Rattle.layout.specs.Entries.{Entry, store, fence, Write, stores}

abbrev pub batch : List Write → ℕ → ℕ → List Entry
batch ws b n = stores ws ++ fence ∷ store b n ∷ fence ∷ []
