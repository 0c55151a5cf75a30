-- The two forms of a log, and what a log denotes. The code of this crate writes and reads them, and the invariant and recovery speak of what
-- this file says a log denotes (history/proofs/LogForm.antt has the laws that they need). A log is read by the words of its slot, by
-- their place: word 0 is the persist number. Of the full form (document 01) word 1 counts the copies, up to 4, and each has five words
-- behind it: its record's number and words. Of the short form (document 02, Req 08) word 1 is 16 more than the number of pairs, up to 9;
-- a pair has two words, the index of a home word and what goes there, and the indexes go up.
use Rattle.std.specs.Prelude.{ℕ, zero, suc, ◌+◌, ◌-◌, ◌*◌, ◌/◌, ◌≤◌, ◌<◌, Bool, ◌&&◌, ◌||◌, not, cond, ◌⊎◌, List, [], ◌∷◌, ◌++◌, length, get_or, leb, ltb, eqb}
use Rattle.layout.specs.Below.{any_below}
use Rattle.layout.specs.Homes.{homes_writes, Differ}
use Rattle.layout.specs.Entries.{Entry, store, fence, Write, stores}
use Rattle.journal.specs.Changes.{changes_below}

-- the words of a slot, by their place in it
abbrev pub Slot : Type 0
Slot = ℕ → ℕ

abbrev pub count_of : Slot → ℕ
count_of f = f 1

-- ---- the full form

-- the record number and the record words of place j
abbrev pub rec_of : Slot → ℕ → ℕ
rec_of f j = f (2 + 5 * j)

abbrev pub words_of : Slot → ℕ → List ℕ
words_of f j = f (2 + 5 * j + 1) ∷ f (2 + 5 * j + 2) ∷ f (2 + 5 * j + 3) ∷ f (2 + 5 * j + 4) ∷ []

-- ---- the short form

-- word 1 is 16 + k
abbrev pub short_b : Slot → Bool
short_b f = leb 16 (count_of f)

-- k, the number of pairs
abbrev pub pairs_of : Slot → ℕ
pairs_of f = count_of f - 16

-- the home word index, 0 to 4N - 1, and the new word of pair j
abbrev pub index_of : Slot → ℕ → ℕ
index_of f j = f (2 + 2 * j)

abbrev pub word_of : Slot → ℕ → ℕ
word_of f j = f (2 + 2 * j + 1)

-- the writes of the first k of some pairs to the home words
unfoldable pub pairs_writes : (ℕ → ℕ) → (ℕ → ℕ) → ℕ → List Write
pairs_writes index word zero = []
pairs_writes index word (suc k) = pairs_writes index word k ++ ((4 + index k, word k) ∷ [])

-- ---- what a log denotes: home-word writes, in the order of its places or pairs; those past the count denote nothing

unfoldable pub denoted : Slot → List Write
denoted f =
    cond (short_b f) (pairs_writes (index_of f) (word_of f) (pairs_of f)) (homes_writes (rec_of f) (words_of f) (count_of f))

-- ---- a log as finish writes it

-- the five words of place j, by their places in the slot: record number, record words
abbrev pub place_writes : ℕ → ℕ → List ℕ → List Write
place_writes j r ws =
    (2 + 5 * j, r) ∷ (2 + 5 * j + 1, get_or ws 0 0) ∷ (2 + 5 * j + 2, get_or ws 1 0) ∷ (2 + 5 * j + 3, get_or ws 2 0) ∷
    (2 + 5 * j + 4, get_or ws 3 0) ∷ []

-- the body of a full log with `count` copies: the count, and the first k of them
unfoldable pub body_writes : (ℕ → ℕ) → (ℕ → List ℕ) → ℕ → ℕ → List Write
body_writes rec words count zero = (1, count) ∷ []
body_writes rec words count (suc k) = body_writes rec words count k ++ place_writes k (rec k) (words k)

-- the two words of pair j
abbrev pub pair_writes : ℕ → ℕ → ℕ → List Write
pair_writes j i w = (2 + 2 * j, i) ∷ (2 + 2 * j + 1, w) ∷ []

-- the body of a short log with `count` pairs: 16 + count, and the first k of them
unfoldable pub short_writes : (ℕ → ℕ) → (ℕ → ℕ) → ℕ → ℕ → List Write
short_writes index word count zero = (1, 16 + count) ∷ []
short_writes index word count (suc k) = short_writes index word count k ++ pair_writes k (index k) (word k)

-- c copies of which k words differ from home: the short form when 2k is less than 5c, else the full one
abbrev pub shorter_b : ℕ → ℕ → Bool
shorter_b k c = ltb (2 * k) (5 * c)

abbrev pub either_body : (ℕ → ℕ) → (ℕ → ℕ) → ℕ → (ℕ → ℕ) → (ℕ → List ℕ) → ℕ → List Write
either_body index word k rec words c = cond (shorter_b k c) (short_writes index word k k) (body_writes rec words c c)

-- pair j of some
abbrev pub index_in : List Write → ℕ → ℕ
index_in ws j = (get_or ws j (0, 0)).0

abbrev pub word_in : List Write → ℕ → ℕ
word_in ws j = (get_or ws j (0, 0)).1

-- the body of the log of c copies over the home records of a store of n records; the short form lists exactly the words that differ
abbrev pub log_body : ℕ → (ℕ → List ℕ) → (ℕ → ℕ) → (ℕ → List ℕ) → ℕ → List Write
log_body n home rec words c =
    either_body (index_in (changes_below home rec words c n)) (word_in (changes_below home rec words c n))
    (length (changes_below home rec words c n)) rec words c

-- a log, by places in its slot: its body, a fence, the persist number, a fence
abbrev pub sealed_body : ℕ → List Write → List Entry
sealed_body persist ws = stores ws ++ (fence ∷ store 0 persist ∷ fence ∷ [])

abbrev pub log_entries : ℕ → (ℕ → List ℕ) → ℕ → (ℕ → ℕ) → (ℕ → List ℕ) → ℕ → List Entry
log_entries n home persist rec words c = sealed_body persist (log_body n home rec words c)

-- ---- check 12

-- place j is in use, and has a record at or above n or one that an earlier place has
abbrev pub bad_place : ℕ → Slot → ℕ → Bool
bad_place n f j = ltb j (count_of f) && (leb n (rec_of f j) || any_below j (λ i. eqb (rec_of f i) (rec_of f j)))

-- the index of pair j is not above the one before it
abbrev pub not_above : Slot → ℕ → Bool
not_above f j = not (eqb j 0) && leb (index_of f j) (index_of f (j - 1))

-- pair j is in use, and its index is out of range or does not ascend
abbrev pub bad_pair : ℕ → Slot → ℕ → Bool
bad_pair n f j = ltb j (pairs_of f) && (leb (4 * n) (index_of f j) || not_above f j)

-- what it finds in an occupied slot: of a short log more than 9 pairs, an index past the home words, or one that is not larger than the
-- one before; of a full log no copy or more than 4, a record that the store has not, or one in two places
unfoldable pub unsound_b : ℕ → Slot → Bool
unsound_b n f =
    not (eqb (f 0) 0)
    && cond (short_b f) (ltb 9 (pairs_of f) || any_below 9 (bad_pair n f))
    (eqb (count_of f) 0 || ltb 4 (count_of f) || any_below 4 (bad_place n f))

-- what it leaves of an occupied slot: of the full form, of the short one, and of either
pub record SoundFull (n : ℕ) (f : Slot) : Type 0 where
  pub at_least : 1 ≤ count_of f
  pub at_most : count_of f ≤ 4
  pub below : (j : ℕ) → j < count_of f → rec_of f j < n
  pub differ : Differ (rec_of f) (count_of f)

pub record SoundShort (n : ℕ) (f : Slot) : Type 0 where
  pub is-short : 16 ≤ count_of f
  pub few : pairs_of f ≤ 9
  pub below : (j : ℕ) → j < pairs_of f → index_of f j < 4 * n
  pub ascends : (i j : ℕ) → i < j → j < pairs_of f → index_of f i < index_of f j

abbrev pub Sound : ℕ → Slot → Type 0
Sound n f = SoundFull n f ⊎ SoundShort n f

-- ---- check 13: the records that logs touch, whatever their forms

-- how many places or pairs there are, how many are in use, and the record that number j touches
abbrev pub places_of : Slot → ℕ
places_of f = cond (short_b f) 9 4

abbrev pub used_of : Slot → ℕ
used_of f = cond (short_b f) (pairs_of f) (count_of f)

abbrev pub touched_of : Slot → ℕ → ℕ
touched_of f j = cond (short_b f) (index_of f j / 4) (rec_of f j)

-- number j is in use and touches the record r
abbrev pub place_touches : Slot → ℕ → ℕ → Bool
place_touches f r j = ltb j (used_of f) && eqb (touched_of f j) r

abbrev pub touches_b : Slot → ℕ → Bool
touches_b f r = any_below (places_of f) (place_touches f r)

-- number j of the first is in use and the second touches its record
abbrev pub place_shared : Slot → Slot → ℕ → Bool
place_shared f g j = ltb j (used_of f) && touches_b g (touched_of f j)

-- two logs touch a record in common
unfoldable pub shared_b : Slot → Slot → Bool
shared_b f g = any_below (places_of f) (place_shared f g)

-- what it finds in two slots: both occupied, equal persist numbers, a record in common
abbrev pub tied_b : Slot → Slot → Bool
tied_b f g = not (eqb (f 0) 0) && eqb (f 0) (g 0) && shared_b f g
