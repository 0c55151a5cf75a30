-- A cut (document 01, "The program"): of a step that stores, only the first k entries arrive, all if it has fewer. The image of before the
-- step is kept, the step is made, and the first entries of its trace are then made again on the image that was kept.
use Rattle.std.specs.Prelude.{ℕ, zero, suc, cond, List, [], ◌∷◌, set, ltb, eqb}

-- a slice with another copied over it from the first word on, as far as both reach
abbrev pub overlaid : List ℕ → List ℕ → List ℕ
overlaid [] over = over
overlaid (x ∷ xs) [] = []
overlaid (x ∷ xs) (y ∷ ys) = x ∷ overlaid xs ys

-- the image with an entry made, by the two words that the trace has for it: a fence, and an index past the end, change nothing
abbrev pub entry_made : ℕ → ℕ → List ℕ → List ℕ
entry_made i w img = cond (eqb i 0xffff_ffff_ffff_ffff) img (set img i w)

-- the image with the first k entries of a trace made, as far as the trace has two words for each
abbrev pub replayed : ℕ → List ℕ → List ℕ → List ℕ
replayed zero trace img = img
replayed (suc k) [] img = img
replayed (suc k) (i ∷ []) img = img
replayed (suc k) (i ∷ w ∷ trace) img = replayed k trace (entry_made i w img)

-- k of a step with this number of entries; all, if it has fewer
abbrev pub arriving : ℕ → ℕ → ℕ
arriving entries k = cond (ltb k entries) k entries

-- the image that a cut leaves, from the one that was kept before the step
abbrev pub cut_back : List ℕ → List ℕ → List ℕ → ℕ → ℕ → List ℕ
cut_back img before trace entries k = replayed (arriving entries k) trace (overlaid before img)
