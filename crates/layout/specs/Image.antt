-- Where an image holds its parts (document 01, "The image"): a header of 4 words, N home records of 4 words, and for each session two log
-- slots of 22 words. N and M are words 1 and 2, and word 3 is the ceiling (document 02, Req 05). Everything is read by `word`, which gives 0
-- past the end.
use Rattle.std.specs.Prelude.{ℕ, ◌+◌, ◌*◌, Bool, ◌&&◌, not, List, [], ◌∷◌, length, get_or, leb, eqb}
use Rattle.layout.specs.Below.{any_below}

abbrev pub word : List ℕ → ℕ → ℕ
word img i = get_or img i 0

-- N, the number of records, and M, the number of sessions
abbrev pub records_of : List ℕ → ℕ
records_of img = word img 1

abbrev pub sessions_of : List ℕ → ℕ
sessions_of img = word img 2

-- the ceiling: no number above it has been given
abbrev pub ceiling_of : List ℕ → ℕ
ceiling_of img = word img 3

-- N is 1 to 256 and M is 1 to 16
abbrev pub in_range : ℕ → ℕ → Bool
in_range n m = leb 1 n && leb n 256 && leb 1 m && leb m 16

-- the exact length of an image
abbrev pub size_of : ℕ → ℕ → ℕ
size_of n m = 4 + 4 * n + 44 * m

-- what check 1 asks: word 0 is 1, N and M are in range, and the length is exact; any ceiling will do
unfoldable pub shaped_b : List ℕ → Bool
shaped_b img =
    eqb (word img 0) 1 && in_range (records_of img) (sessions_of img) && eqb (length img) (size_of (records_of img) (sessions_of img))

-- the index of record r's first word, and its four words
abbrev pub home_at : ℕ → ℕ
home_at r = 4 + 4 * r

abbrev pub home_words : List ℕ → ℕ → List ℕ
home_words img r = word img (home_at r) ∷ word img (home_at r + 1) ∷ word img (home_at r + 2) ∷ word img (home_at r + 3) ∷ []

-- a slot's place: twice its session plus 0 or 1
abbrev pub place_of : ℕ → ℕ → ℕ
place_of s q = 2 * s + q

-- the index of the first word of the slot at place p, behind n records
abbrev pub slot_at : ℕ → ℕ → ℕ
slot_at n p = 4 + 4 * n + 22 * p

-- word w of the slot at place p
abbrev pub slot_word : List ℕ → ℕ → ℕ → ℕ → ℕ
slot_word img n p w = word img (slot_at n p + w)

-- the persist number of the slot at place p; 0 means empty
abbrev pub persist_at : List ℕ → ℕ → ℕ → ℕ
persist_at img n p = slot_word img n p 0

abbrev pub occupied_at : List ℕ → ℕ → ℕ → Bool
occupied_at img n p = not (eqb (persist_at img n p) 0)

-- some slot of the first `slots` is occupied
unfoldable pub occupied_b : List ℕ → ℕ → ℕ → Bool
occupied_b img n slots = any_below slots (occupied_at img n)
