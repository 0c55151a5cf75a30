-- Which logs recover refuses (document 01's table, 12 and 13; document 02, Req 08), by the words of their slots, in plain numbers: 12
-- exactly for these faults, 13 exactly for equal numbers and a record in common.
use Rattle.std.specs.Prelude.{ℕ, suc, ◌+◌, ◌*◌, ◌≤◌, ◌<◌, true, false, ◌≡◌, ◌⊎◌, List}
use Rattle.layout.specs.Image.{word}
use Rattle.claims.specs.ByEntry.{in_slot}
use Rattle.claims.specs.Refusals.{unsound_at, tied_at}

-- word 1 is none of 1 to 4 and 16 to 25
abbrev pub WrongCount : (ℕ → ℕ) → Type 0
WrongCount f = (f 1 ≡ 0) ⊎ ((5 ≤ f 1) × (f 1 ≤ 15)) ⊎ (26 ≤ f 1)

-- 1 to 4 copies: place j has a record at or above N, or an earlier place has its record
abbrev pub WrongRecord : ℕ → (ℕ → ℕ) → ℕ → Type 0
WrongRecord N f j = (N ≤ f (2 + 5 * j)) ⊎ ((i : ℕ) × (i < j) × (f (2 + 5 * i) ≡ f (2 + 5 * j)))

abbrev pub WrongCopies : ℕ → (ℕ → ℕ) → Type 0
WrongCopies N f = (f 1 ≤ 4) × ((j : ℕ) × (j < f 1) × WrongRecord N f j)

-- 16 + k: pair j has an index at or above 4N, or the one before it an index that is not smaller
abbrev pub WrongIndex : ℕ → (ℕ → ℕ) → ℕ → Type 0
WrongIndex N f j = (4 * N ≤ f (2 + 2 * j)) ⊎ ((i : ℕ) × (j ≡ suc i) × (f (2 + 2 * j) ≤ f (2 + 2 * i)))

abbrev pub WrongPairs : ℕ → (ℕ → ℕ) → Type 0
WrongPairs N f = (f 1 ≤ 25) × ((j : ℕ) × (16 + j < f 1) × WrongIndex N f j)

abbrev pub Wrong : ℕ → (ℕ → ℕ) → Type 0
Wrong N f = WrongCount f ⊎ WrongCopies N f ⊎ WrongPairs N f

-- a log that is not wrong touches record r: a place of it has r, or a pair of it one of the words 4r to 4r + 3
abbrev pub Touches : (ℕ → ℕ) → ℕ → Type 0
Touches f r = ((f 1 ≤ 4) × ((j : ℕ) × (j < f 1) × (f (2 + 5 * j) ≡ r)))
    ⊎ ((j : ℕ) × (16 + j < f 1) × (4 * r ≤ f (2 + 2 * j)) × (f (2 + 2 * j) < 4 * r + 4))

pub record LogFaults : Type 0 where
  -- 12, of the slot at place p
  pub unsound : (img : List ℕ) (p : ℕ) → (in_slot img p 0 ≡ 0 → ⊥) → Wrong (word img 1) (in_slot img p) → unsound_at img p ≡ true
  pub sound : (img : List ℕ) (p : ℕ) → (in_slot img p 0 ≡ 0) ⊎ (Wrong (word img 1) (in_slot img p) → ⊥) → unsound_at img p ≡ false
  -- 13, of two slots that 12 passes
  pub tied : (img : List ℕ) (p q r : ℕ) → unsound_at img p ≡ false → unsound_at img q ≡ false → (in_slot img p 0 ≡ 0 → ⊥)
      → in_slot img p 0 ≡ in_slot img q 0 → Touches (in_slot img p) r → Touches (in_slot img q) r → tied_at img p q ≡ true
  pub apart : (img : List ℕ) (p q : ℕ) → unsound_at img p ≡ false → unsound_at img q ≡ false
      → (in_slot img p 0 ≡ 0) ⊎ (in_slot img p 0 ≡ in_slot img q 0 → ⊥) ⊎ ((r : ℕ) → Touches (in_slot img p) r → Touches (in_slot img q) r → ⊥)
      → tied_at img p q ≡ false
