-- What is due of finish, on any image and desk that it does not refuse, entry by entry (document 01, "Finish"; document 02, Req 08). Of c
-- copies some words differ from the words of their home records. Where twice the number of these is less than 5c, the log lists exactly
-- them, in ascending home word index; else it has the copies, in the order of their first writes. Without copies there is no log.
use Rattle.std.specs.Prelude.{ℕ, suc, ◌+◌, ◌*◌, ◌≤◌, ◌<◌, ◌≡◌, List, [], length, get_or, replicate}
use Rattle.layout.specs.Entries.{Entry, store}
use Rattle.layout.specs.Image.{word}
use Rattle.layout.specs.Told.{empty, sealed_at}
use Rattle.desk.specs.Desk.{zero_copy, copied_rec, copied_words, session_at}
use Rattle.desk.specs.declared.state.Phase.TheVariants.{Idle, Sealed}
use Rattle.desk.specs.declared.state.Session.{Session}
use Rattle.desk.specs.declared.state.Desk.{Desk}
use Rattle.history.specs.Call.{finish}
use Rattle.claims.specs.ByEntry.{entry, slot_index, Closes}
use Rattle.claims.specs.Refusals.{first_cause}
use Rattle.claims.specs.Rules.{Reply, Rules}

-- word m of copy j of session s
abbrev pub copy_word : Desk → ℕ → ℕ → ℕ → ℕ
copy_word d s j m = get_or (copied_words (session_at d s) j) m 0

-- the home word index of that word, and the home word: home word i is word 4 + i of the image
abbrev pub home_index : Desk → ℕ → ℕ → ℕ → ℕ
home_index d s j m = 4 * copied_rec (session_at d s) j + m

abbrev pub home_word : List ℕ → ℕ → ℕ
home_word img i = word img (4 + i)

-- word w is that of a copy, for home word i, and differs from it
pub record Differs (img : List ℕ) (d : Desk) (s i w : ℕ) : Type 0 where
  pub j : ℕ
  pub m : ℕ
  pub copy : j < (session_at d s).count
  pub place : m < 4
  pub index : i ≡ home_index d s j m
  pub new : w ≡ copy_word d s j m
  pub other : home_word img i ≡ w → ⊥

-- k pairs of home word index and new word: exactly those that differ, ascending, below 4N
pub record Pairs (img : List ℕ) (d : Desk) (s k : ℕ) (index new : ℕ → ℕ) : Type 0 where
  pub only : (j : ℕ) → j < k → Differs img d s (index j) (new j)
  pub all : (i w : ℕ) → Differs img d s i w → (j : ℕ) × (j < k) × (index j ≡ i) × (new j ≡ w)
  pub ascends : (j : ℕ) → suc j < k → index j < index (suc j)
  pub below : (j : ℕ) → j < k → index j < 4 * d.n

-- word w of the slot that is reserved: session s's slots are at places 2s and 2s + 1
abbrev pub reserved_index : Desk → ℕ → ℕ → ℕ
reserved_index d s w = slot_index d.n (2 * s + (session_at d s).slot) w

-- a short log: 16 + k into word 1, each pair into the two words behind the ones before it, a fence, the persist number, a fence
pub record ListsPairs (d : Desk) (s k : ℕ) (index new : ℕ → ℕ) (es : List Entry) : Type 0 where
  pub count : entry es 0 ≡ store (reserved_index d s 1) (16 + k)
  pub indexes : (j : ℕ) → j < k → entry es (1 + 2 * j) ≡ store (reserved_index d s (2 + 2 * j)) (index j)
  pub words : (j : ℕ) → j < k → entry es (2 + 2 * j) ≡ store (reserved_index d s (3 + 2 * j)) (new j)
  pub closes : Closes es (1 + 2 * k) (reserved_index d s 0) d.clock

-- a full one: the count into word 1, record number and record words of each copy, a fence, the persist number, a fence
pub record ListsCopies (d : Desk) (s : ℕ) (es : List Entry) : Type 0 where
  pub count : entry es 0 ≡ store (reserved_index d s 1) (session_at d s).count
  pub records : (j : ℕ) → j < (session_at d s).count
      → entry es (1 + 5 * j) ≡ store (reserved_index d s (2 + 5 * j)) (copied_rec (session_at d s) j)
  pub words : (j m : ℕ) → j < (session_at d s).count → m < 4
      → entry es (2 + 5 * j + m) ≡ store (reserved_index d s (3 + 5 * j + m)) (copy_word d s j m)
  pub closes : Closes es (1 + 5 * (session_at d s).count) (reserved_index d s 0) d.clock

-- the desk e behind it: session s is x, and all else is as it was but for the list of active sessions, which `Listing` has
pub record DeskWith (d : Desk) (s : ℕ) (x : Session) (e : Desk) : Type 0 where
  pub session : session_at e s ≡ x
  pub others : (t : ℕ) → (t ≡ s → ⊥) → session_at e t ≡ session_at d t
  pub clock : e.clock ≡ d.clock
  pub marks : e.holders ≡ d.holders
  pub n-same : e.n ≡ d.n
  pub m-same : e.m ≡ d.m

-- what it tells, stores and leaves; `count` is the number of entries that it gives
pub record Seals (img : List ℕ) (d : Desk) (s : ℕ) (y : Reply) : Type 0 where
  pub k : ℕ
  pub index : ℕ → ℕ
  pub new : ℕ → ℕ
  pub pairs : Pairs img d s k index new
  pub short : 2 * k < 5 * (session_at d s).count → ListsPairs d s k index new y.entries
  pub full : 5 * (session_at d s).count ≤ 2 * k → ListsCopies d s y.entries
  pub told : y.told ≡ sealed_at d.clock
  pub count : y.count ≡ length y.entries
  -- the session is sealed with the number
  pub desk : DeskWith d s
      (record { phase = Sealed d.clock; count = (session_at d s).count; slot = (session_at d s).slot; copies = (session_at d s).copies }) y.desk

-- without copies nothing is stored, and the session is idle
pub record Empties (d : Desk) (s : ℕ) (y : Reply) : Type 0 where
  pub told : y.told ≡ empty
  pub entries : y.entries ≡ []
  pub count : y.count ≡ 0
  pub desk : DeskWith d s (record { phase = Idle; count = 0; slot = 0; copies = replicate 4 zero_copy }) y.desk

-- no cause of its row holds
abbrev pub Accepted : List ℕ → Desk → ℕ → ℕ → Type 0
Accepted img d len s = first_cause img d (finish len s) ≡ 0

pub record FinishDue (R : Rules) : Type 0 where
  pub seals : (img : List ℕ) (d : Desk) (len s : ℕ) → Accepted img d len s → ((session_at d s).count ≡ 0 → ⊥) → Seals img d s (R.call img d (finish len s))
  pub empties : (img : List ℕ) (d : Desk) (len s : ℕ) → Accepted img d len s → (session_at d s).count ≡ 0 → Empties d s (R.call img d (finish len s))
