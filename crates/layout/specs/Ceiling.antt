-- The ceiling (document 02, Req 05): opening raises it to 1,024 above the clock that it gives, and publish, of one session or of a set, does
-- so where its new clock would pass it. A raise is two entries, the store and its fence.
use Rattle.std.specs.Prelude.{ℕ, ◌+◌, cond, List, [], ◌∷◌, leb}
use Rattle.layout.specs.Entries.{Entry, store, fence}
use Rattle.layout.specs.Image.{ceiling_of}

abbrev pub raise_entries : ℕ → List Entry
raise_entries clock = store 3 (clock + 1024) ∷ fence ∷ []

-- where the clock passes the ceiling of the image, else none
abbrev pub pass_entries : List ℕ → ℕ → List Entry
pass_entries img clock = cond (leb clock (ceiling_of img)) [] (raise_entries clock)
