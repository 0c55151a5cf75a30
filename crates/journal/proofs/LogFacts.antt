-- What check 12 leaves of an occupied slot. Of the full form: its count is 1 to 4, its records are below N and differ. Of the short form: it
-- has at most 9 pairs, whose indexes are below 4N and ascend.
use Prim.Native.Nat.{ℕ, zero, suc, ◌-◌, ◌*◌, ◌<◌, ◌≤◌}
use mathlib.Core.Bool.{true, false, false≢true}
use mathlib.Core.Path.{◌≡◌, sym, ◌∙◌}
use mathlib.Core.Logic.{◌⊎◌, inl, inr}
use native.Mathlib.Omega.{arith}
use native.Mathlib.Decide.{ℕ_discrete, dec_lt}
use borrow.Author.Tests.{le-leb, lt-leb}
use Rattle.layout.specs.Homes.{homes_writes, Differ}
use Rattle.journal.specs.Log.{SoundFull, SoundShort, Sound, Slot, count_of, rec_of, words_of, short_b, pairs_of, index_of, word_of, pairs_writes, denoted, unsound_b}
use Rattle.layout.proofs.Says.{Says, says-le, says-lt, says_eq, says_ne, says-and, says-or, says_any, says_if}

-- ---- the form

pub short-test : (f : Slot) → 16 ≤ count_of f → short_b f ≡ true
short-test f l = le-leb 16 (count_of f) l

pub full-test : (f : Slot) → count_of f < 16 → short_b f ≡ false
full-test f l = lt-leb 16 (count_of f) l

-- what it denotes
pub denotes-short : (f : Slot) → 16 ≤ count_of f → denoted f ≡ pairs_writes (index_of f) (word_of f) (pairs_of f)
unfolding denoted
denotes-short f l = rw (short-test f l)

pub denotes-full : (f : Slot) → count_of f < 16 → denoted f ≡ homes_writes (rec_of f) (words_of f) (count_of f)
unfolding denoted
denotes-full f l = rw (full-test f l)

-- ---- check 12

-- place j is in use, and has a record at or above n or one that an earlier place has
abbrev pub BadPlace : ℕ → Slot → ℕ → Type 0
BadPlace n f j = (j < count_of f) × ((n ≤ rec_of f j) ⊎ ((i : ℕ) × (i < j) × (rec_of f i ≡ rec_of f j)))

-- pair j is in use, and its index is out of range or not above the one before it
abbrev pub BadPair : ℕ → Slot → ℕ → Type 0
BadPair n f j = (j < pairs_of f) × ((4 * n ≤ index_of f j) ⊎ ((j ≡ 0 → ⊥) × (index_of f j ≤ index_of f (j - 1))))

abbrev pub BadFull : ℕ → Slot → Type 0
BadFull n f = ((count_of f ≡ 0) ⊎ (4 < count_of f)) ⊎ ((j : ℕ) × (j < 4) × BadPlace n f j)

abbrev pub BadShort : ℕ → Slot → Type 0
BadShort n f = (9 < pairs_of f) ⊎ ((j : ℕ) × (j < 9) × BadPair n f j)

pub says-unsound : (n : ℕ) (f : Slot) → Says (unsound_b n f) ((f 0 ≡ 0 → ⊥) × ((16 ≤ count_of f → BadShort n f) × ((16 ≤ count_of f → ⊥) → BadFull n f)))
unfolding unsound_b
says-unsound n f =
    says-and (says_ne (f 0) 0)
    (says_if (says-le 16 (count_of f))
    (says-or (says-lt 9 (pairs_of f))
    (says_any 9 (λ j. says-and (says-lt j (pairs_of f)) (says-or (says-le (4 * n) (index_of f j)) (says-and (says_ne j 0) (says-le (index_of f j) (index_of f (j - 1))))))))
    (says-or (says-or (says_eq (count_of f) 0) (says-lt 4 (count_of f)))
    (says_any 4 (λ j. says-and (says-lt j (count_of f)) (says-or (says-le n (rec_of f j)) (says_any j (λ i. says_eq (rec_of f i) (rec_of f j))))))))

-- no fault of the full form
full-sound : (n : ℕ) (f : Slot) → (BadFull n f → ⊥) → SoundFull n f
full-sound n f never = record { at_least = least; at_most = most; below = low; differ = apart }
  where
    least : 1 ≤ count_of f
    least = elim (dec_lt 0 (count_of f)) [ yes l ↦ l | no u ↦ absurd (never (inl (inl (omega arith)))) ]

    most : count_of f ≤ 4
    most = elim (dec_lt 4 (count_of f)) [ yes l ↦ absurd (never (inl (inr l))) | no u ↦ omega arith ]

    low : (j : ℕ) → j < count_of f → rec_of f j < n
    low j l = elim (dec_lt (rec_of f j) n) [ yes b ↦ b | no u ↦ absurd (never (inr (j, omega (arith, most), (l, inl (omega arith))))) ]

    apart : Differ (rec_of f) (count_of f)
    apart i j l k q = never (inr (j, omega (arith, most), (k, inr (i, l, q))))

-- indexes each of which is above the one before ascend
pub ascending-all : (index : ℕ → ℕ) (k : ℕ) → ((j : ℕ) → suc j < k → index j < index (suc j)) → (i j : ℕ) → i < j → j < k → index i < index j
ascending-all index k step i zero l m = absurd (omega arith)
ascending-all index k step i (suc j) l m = go (ℕ_discrete i j) (λ a. ascending-all index k step i j a (omega arith))
  where
    go : Dec (i ≡ j) → (i < j → index i < index j) → index i < index (suc j)
    go (yes e) ih = rw e (step j m)
    go (no d) ih = omega (arith, ih (omega arith), step j m)

-- no fault of the short form
short-sound : (n : ℕ) (f : Slot) → 16 ≤ count_of f → (BadShort n f → ⊥) → SoundShort n f
short-sound n f is never = record { is-short = is; few = most; below = low; ascends = ascending-all (index_of f) (pairs_of f) step }
  where
    most : pairs_of f ≤ 9
    most = elim (dec_lt 9 (pairs_of f)) [ yes l ↦ absurd (never (inl l)) | no u ↦ omega arith ]

    low : (j : ℕ) → j < pairs_of f → index_of f j < 4 * n
    low j l = elim (dec_lt (index_of f j) (4 * n)) [ yes b ↦ b | no u ↦ absurd (never (inr (j, omega (arith, most), (l, inl (omega arith))))) ]

    step : (j : ℕ) → suc j < pairs_of f → index_of f j < index_of f (suc j)
    step j l =
        let e : suc j - 1 ≡ j = omega arith in
        elim (dec_lt (index_of f j) (index_of f (suc j)))
        [ yes b ↦ b | no u ↦ absurd (never (inr (suc j, omega (arith, most), (l, inr (λ z. omega arith, rw e (omega arith)))))) ]

pub sound-of : (n : ℕ) (f : Slot) → unsound_b n f ≡ false → (f 0 ≡ 0 → ⊥) → Sound n f
sound-of n f e o = go (dec_lt (count_of f) 16)
  where
    never : ((16 ≤ count_of f → BadShort n f) × ((16 ≤ count_of f → ⊥) → BadFull n f)) → ⊥
    never w = false≢true (sym e ∙ (says-unsound n f).no (o, w))

    go : Dec (count_of f < 16) → Sound n f
    go (yes l) = inl (full-sound n f (λ b. never (λ s. absurd (omega arith), λ _. b)))
    go (no u) = let is : 16 ≤ count_of f = omega arith in inr (short-sound n f is (λ b. never (λ _. b, λ s. absurd (s is))))

-- a slot whose log is sound where it is occupied passes check 12
pub sound-no-fault : (n : ℕ) (f : Slot) → Sound n f → ((16 ≤ count_of f → BadShort n f) × ((16 ≤ count_of f → ⊥) → BadFull n f)) → ⊥
sound-no-fault n f (inl s) w = go (w.1 (λ l. omega (arith, s.at_most)))
  where
    go : BadFull n f → ⊥
    go (inl (inl z)) = omega (arith, s.at_least)
    go (inl (inr m)) = omega (arith, s.at_most)
    go (inr j) = place j.2.1
      where
        place : (n ≤ rec_of f j.0) ⊎ ((i : ℕ) × (i < j.0) × (rec_of f i ≡ rec_of f j.0)) → ⊥
        place (inl h) = omega (arith, s.below j.0 j.2.0)
        place (inr i) = s.differ i.0 j.0 i.1 j.2.0 i.2
sound-no-fault n f (inr s) w = go (w.0 s.is-short)
  where
    go : BadShort n f → ⊥
    go (inl m) = omega (arith, s.few)
    go (inr j) = pair j.2.1
      where
        pair : (4 * n ≤ index_of f j.0) ⊎ ((j.0 ≡ 0 → ⊥) × (index_of f j.0 ≤ index_of f (j.0 - 1))) → ⊥
        pair (inl h) = omega (arith, s.below j.0 j.2.0)
        pair (inr a) =
            let z : j.0 ≡ 0 → ⊥ = a.0 in
            let l : j.0 - 1 < j.0 = omega arith in
            omega (arith, a.1, s.ascends (j.0 - 1) j.0 l j.2.0)
