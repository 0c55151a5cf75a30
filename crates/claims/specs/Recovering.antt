-- What is due of recover, on any image and with any trace that it does not refuse (document 01, "Recover"): with all slots empty, "clean";
-- otherwise the slot with the smallest persist number, lowest place first, is replayed, whichever form its log has (document 02, Req 08).
use Rattle.std.specs.Prelude.{ℕ, ◌+◌, ◌*◌, ◌≤◌, ◌<◌, ◌≡◌, List, [], length}
use Rattle.layout.specs.Entries.{Entry, store}
use Rattle.layout.specs.Image.{word}
use Rattle.layout.specs.Told.{clean, replayed}
use Rattle.claims.specs.ByEntry.{entry, slot_index, in_slot, Closes}
use Rattle.claims.specs.Rules.{Recovery, Rules}
use Rattle.claims.specs.Refusals.{first_refusal, recover_row, of_image}

-- the persist number of the slot at place p
abbrev pub number_at : List ℕ → ℕ → ℕ
number_at img p = in_slot img p 0

-- all 2M slots are empty
abbrev pub AllEmpty : List ℕ → Type 0
AllEmpty img = (p : ℕ) → p < 2 * word img 2 → number_at img p ≡ 0

-- the slot at place p is occupied; no occupied slot has a smaller number, and none at a lower place has the same
pub record ComesFirst (img : List ℕ) (p : ℕ) : Type 0 where
  pub inside : p < 2 * word img 2
  pub occupied : number_at img p ≡ 0 → ⊥
  pub smallest : (q : ℕ) → q < 2 * word img 2 → (number_at img q ≡ 0 → ⊥) → number_at img p ≤ number_at img q
  pub lowest : (q : ℕ) → q < p → (number_at img q ≡ 0 → ⊥) → number_at img p < number_at img q

-- recover does not refuse the image with a trace of this length
abbrev pub Accepted : List ℕ → ℕ → Type 0
Accepted img len = first_refusal recover_row (of_image img len 0 0) ≡ 0

-- a full log goes home: the four words of each copy, in the order of the places, a fence, 0 into the persist number, a fence
pub record CopiesHome (img : List ℕ) (p : ℕ) (es : List Entry) : Type 0 where
  pub words : (j m : ℕ) → j < in_slot img p 1 → m < 4
      → entry es (4 * j + m) ≡ store (4 + 4 * in_slot img p (2 + 5 * j) + m) (in_slot img p (3 + 5 * j + m))
  pub closes : Closes es (4 * in_slot img p 1) (slot_index (word img 1) p 0) 0

-- a short one: the word of each pair, in their order, a fence, 0 into the persist number, a fence
pub record PairsHome (img : List ℕ) (p k : ℕ) (es : List Entry) : Type 0 where
  pub words : (j : ℕ) → j < k → entry es j ≡ store (4 + in_slot img p (2 + 2 * j)) (in_slot img p (3 + 2 * j))
  pub closes : Closes es k (slot_index (word img 1) p 0) 0

-- what it tells and stores; `count` is the number of entries that it gives
pub record Replays (img : List ℕ) (p : ℕ) (y : Recovery) : Type 0 where
  pub told : y.told ≡ replayed (number_at img p)
  pub full : in_slot img p 1 < 16 → CopiesHome img p y.entries
  pub short : (k : ℕ) → in_slot img p 1 ≡ 16 + k → PairsHome img p k y.entries
  pub count : y.count ≡ length y.entries

pub record RecoverDue (R : Rules) : Type 0 where
  pub cleans : (img : List ℕ) (len : ℕ) → Accepted img len → AllEmpty img
      → ((R.recover img len).told ≡ clean) × ((R.recover img len).entries ≡ []) × ((R.recover img len).count ≡ 0)
  pub replays : (img : List ℕ) (len p : ℕ) → Accepted img len → ComesFirst img p → Replays img p (R.recover img len)
