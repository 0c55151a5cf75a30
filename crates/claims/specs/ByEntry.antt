-- A call's list, entry by entry, and the words of a slot, in plain numbers.
use Rattle.std.specs.Prelude.{ℕ, ◌+◌, ◌*◌, ◌≡◌, List, length, get_or}
use Rattle.layout.specs.Entries.{Entry, store, fence}
use Rattle.layout.specs.Image.{word}

-- entry j, from 0 on
abbrev pub entry : List Entry → ℕ → Entry
entry es j = get_or es j fence

-- the index in the image of word w of the slot at place p: behind 4 words of header and 4 for each of N records, 22 words a slot
abbrev pub slot_index : ℕ → ℕ → ℕ → ℕ
slot_index N p w = 4 + 4 * N + 22 * p + w

-- that word, where the header has N
abbrev pub in_slot : List ℕ → ℕ → ℕ → ℕ
in_slot img p w = word img (slot_index (word img 1) p w)

-- behind n entries: a fence, the word v at index i, a fence, and no more
pub record Closes (es : List Entry) (n i v : ℕ) : Type 0 where
  pub fenced : entry es n ≡ fence
  pub number : entry es (n + 1) ≡ store i v
  pub last : entry es (n + 2) ≡ fence
  pub size : length es ≡ n + 3
