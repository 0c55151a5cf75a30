-- The crash rule (document 01): a cut leaves a call's first entries made, none to all. Of these, stores before the last fence have arrived;
-- of the others, any selection of whole words.
use Rattle.std.specs.Prelude.{ℕ, zero, suc, Bool, true, false, cond, ◌||◌, List, [], ◌∷◌, set, take}
use Rattle.layout.specs.Entries.{Entry, store, fence}

-- a fence is among the entries
abbrev pub fenced : List Entry → Bool
fenced [] = false
fenced (store i w ∷ es) = fenced es
fenced (fence ∷ es) = true

-- the entries made, of which a store that no fence follows has arrived if it is selected; n is the number of the first entry
abbrev pub arrived : (ℕ → Bool) → ℕ → List Entry → List ℕ → List ℕ
arrived sel n [] img = img
arrived sel n (store i w ∷ es) img = arrived sel (suc n) es (cond (fenced es || sel n) (set img i w) img)
arrived sel n (fence ∷ es) img = arrived sel (suc n) es img

-- power fails once the first k entries are made
abbrev pub crashed : ℕ → (ℕ → Bool) → List Entry → List ℕ → List ℕ
crashed k sel es img = arrived sel zero (take k es) img
