-- Stores and fences (document 01, "Stores and fences"): what a call does to an image is a list of entries. The image afterwards is the
-- image before with the listed stores made; the trace (document 01's strip) has two words an entry in front, and the words past them as
-- they were.
use Rattle.std.specs.Prelude.{ℕ, ◌+◌, Bool, true, false, ◌&&◌, not, List, [], ◌∷◌, ◌++◌, length, drop, set, eqb}

-- a store: index in the image, new word; or a fence
pub data Entry : Type 0 where
  store : ℕ → ℕ → Entry
  fence : Entry

-- the image with the stores made
abbrev pub made : List Entry → List ℕ → List ℕ
made [] img = img
made (store i w ∷ es) img = made es (set img i w)
made (fence ∷ es) img = made es img

-- two words an entry; a fence is the index 2 to the 64th minus 1 with word 0
abbrev pub encoded : List Entry → List ℕ
encoded [] = []
encoded (store i w ∷ es) = i ∷ w ∷ encoded es
encoded (fence ∷ es) = 0xffff_ffff_ffff_ffff ∷ 0 ∷ encoded es

-- the trace with the entries in front
abbrev pub listed : List Entry → List ℕ → List ℕ
listed es t = encoded es ++ drop (length (encoded es)) t

-- a write of one word: its index, and the word
abbrev pub Write : Type 0
Write = ℕ × ℕ

-- the stores of a list of writes
abbrev pub stores : List Write → List Entry
stores [] = []
stores (x ∷ ws) = store x.0 x.1 ∷ stores ws

-- entries of a part that starts at `base`, as entries of the whole
abbrev pub shift : ℕ → List Entry → List Entry
shift base [] = []
shift base (store i w ∷ es) = store (base + i) w ∷ shift base es
shift base (fence ∷ es) = fence ∷ shift base es

-- index i is not stored before the next fence
abbrev pub not_again : ℕ → List Entry → Bool
not_again i [] = true
not_again i (store j w ∷ es) = not (eqb i j) && not_again i es
not_again i (fence ∷ es) = true

-- within one fence group no index appears twice
abbrev pub once : List Entry → Bool
once [] = true
once (store i w ∷ es) = not_again i es && once es
once (fence ∷ es) = once es

-- the list ends with a fence, or is empty
abbrev pub ends_fenced : List Entry → Bool
ends_fenced [] = true
ends_fenced (store i w ∷ []) = false
ends_fenced (fence ∷ []) = true
ends_fenced (x ∷ y ∷ es) = ends_fenced (y ∷ es)
