-- Recover reads a slot by the words of the image, the invariant by the slot's own: of a sound log both find the same.
use Prim.Native.Nat.{ℕ, zero, suc, ◌+◌, ◌-◌, ◌*◌, ◌≤◌, ◌<◌}
use mathlib.Core.Bool.{false}
use mathlib.Core.Path.{◌≡◌, sym, ap, ◌∙◌}
use mathlib.Core.Logic.{inl, inr}
use mathlib.Core.List.{List}
use native.Mathlib.Omega.{arith}
use lib.ListN.{get_or}
use Rattle.layout.specs.Image.{slot_word}
use Rattle.journal.specs.Log.{Slot, count_of, rec_of, words_of, pairs_of, index_of, word_of, pairs_writes, denoted, unsound_b, places_of, used_of, touched_of, tied_b, shared_b, Sound}
use Rattle.layout.specs.Homes.{homes_writes}
use Rattle.layout.proofs.Says.{Says, says-lt, says_eq, says_ne, says-and, says_any, says-not}
use Rattle.journal.proofs.DenotedLaws.{pairs-same}
use Rattle.journal.proofs.LogFacts.{denotes-short, denotes-full, says-unsound, sound-no-fault}
use Rattle.history.specs.Layout.{body, log_of}
use Rattle.history.proofs.HomeWrites.{homes_same}
use Rattle.history.proofs.LogForm.{own-word}

-- ---- two slots that have the same words behind their numbers

module _ (f g : Slot) (same : (w : ℕ) → 1 ≤ w → w < 22 → f w ≡ g w) where
  same_count : count_of f ≡ count_of g
  same_count = same 1 (omega arith) (omega arith)

  -- the record at place k, and its words
  same-rec : (k : ℕ) → k < 4 → rec_of f k ≡ rec_of g k
  same-rec k l = same (2 + 5 * k) (omega arith) (omega arith)

  same_word : (k j : ℕ) → k < 4 → j < 4 → get_or (words_of f k) j 0 ≡ get_or (words_of g k) j 0
  same_word k zero l m = same (2 + 5 * k + 1) (omega arith) (omega arith)
  same_word k (suc zero) l m = same (2 + 5 * k + 2) (omega arith) (omega arith)
  same_word k (suc (suc zero)) l m = same (2 + 5 * k + 3) (omega arith) (omega arith)
  same_word k (suc (suc (suc zero))) l m = same (2 + 5 * k + 4) (omega arith) (omega arith)
  same_word k (suc (suc (suc (suc j)))) l m = absurd (omega arith)

  -- the pair at place k
  same-pairs : pairs_of f ≡ pairs_of g
  same-pairs = ap (λ c. c - 16) same_count

  same_index : (k : ℕ) → k < 9 → index_of f k ≡ index_of g k
  same_index k l = same (2 + 2 * k) (omega arith) (omega arith)

  same_new : (k : ℕ) → k < 9 → word_of f k ≡ word_of g k
  same_new k l = same (2 + 2 * k + 1) (omega arith) (omega arith)

  -- what a log denotes
  denotes-same : (N : ℕ) → Sound N f → denoted f ≡ denoted g
  denotes-same N (inl s) =
      denotes-full f (omega (arith, s.at_most))
      ∙ homes_same _ _ _ _ (count_of f) (λ k m. same-rec k (omega (arith, s.at_most))) (λ k j m n. same_word k j (omega (arith, s.at_most)) n)
      ∙ ap (homes_writes (rec_of g) (words_of g)) same_count
      ∙ sym (denotes-full g (omega (arith, s.at_most, same_count)))
  denotes-same N (inr s) =
      denotes-short f s.is-short
      ∙ pairs-same _ _ _ _ (pairs_of f) (λ k m. (same_index k (omega (arith, s.few)), same_new k (omega (arith, s.few))))
      ∙ ap (pairs_writes (index_of g) (word_of g)) same-pairs
      ∙ sym (denotes-short g (omega (arith, s.is-short, same_count)))

  -- that it is sound
  sound-same : (N : ℕ) → Sound N f → Sound N g
  sound-same N (inl s) =
      inl
      (record {
        at_least = omega (arith, same_count, s.at_least);
        at_most = omega (arith, same_count, s.at_most);
        below = λ j l. omega (arith, same-rec j (four j l), s.below j (used j l));
        differ = λ i j l m e. s.differ i j l (used j m) (same-rec i (omega (arith, four j m)) ∙ e ∙ sym (same-rec j (four j m)));
      })
    where
      used : (j : ℕ) → j < count_of g → j < count_of f
      used j l = omega (arith, same_count)

      four : (j : ℕ) → j < count_of g → j < 4
      four j l = omega (arith, same_count, s.at_most)
  sound-same N (inr s) =
      inr
      (record {
        is-short = omega (arith, same_count, s.is-short);
        few = omega (arith, same-pairs, s.few);
        below = λ j l. omega (arith, same_index j (nine j l), s.below j (used j l));
        ascends = λ i j l m. omega (arith, same_index i (omega (arith, nine j m)), same_index j (nine j m), s.ascends i j l (used j m));
      })
    where
      used : (j : ℕ) → j < pairs_of g → j < pairs_of f
      used j l = omega (arith, same-pairs)

      nine : (j : ℕ) → j < pairs_of g → j < 9
      nine j l = omega (arith, same-pairs, s.few)

module _ (N : ℕ) (img : List ℕ) (p : ℕ) where
  pub same_log : Sound N (log_of (body N img p)) → denoted (log_of (body N img p)) ≡ denoted (slot_word img N p)
  same_log = denotes-same (log_of (body N img p)) (slot_word img N p) (own-word N img p) N

  pub same-sound : Sound N (log_of (body N img p)) → Sound N (slot_word img N p)
  same-sound = sound-same (log_of (body N img p)) (slot_word img N p) (own-word N img p) N

-- a slot whose log is sound where it is occupied passes check 12
pub sound-passes : (n : ℕ) (f : Slot) → ((f 0 ≡ 0 → ⊥) → Sound n f) → unsound_b n f ≡ false
sound-passes n f sound = says-not (says-unsound n f) (λ u. sound-no-fault n f (sound u.0) u.1)

-- what check 13 finds in two slots: both occupied, with one persist number, and a place or pair of each in use, that touch one record
abbrev pub Tied : Slot → Slot → Type 0
Tied f g =
    ((f 0 ≡ 0 → ⊥) × (f 0 ≡ g 0))
    × ((j : ℕ) × (j < places_of f) × ((j < used_of f) × ((i : ℕ) × (i < places_of g) × ((i < used_of g) × (touched_of g i ≡ touched_of f j)))))

pub says-tied : (f g : Slot) → Says (tied_b f g) (Tied f g)
unfolding shared_b
says-tied f g =
    says-and (says-and (says_ne (f 0) 0) (says_eq (f 0) (g 0)))
    (says_any (places_of f) (λ j. says-and (says-lt j (used_of f)) (says_any (places_of g) (λ i. says-and (says-lt i (used_of g)) (says_eq (touched_of g i) (touched_of f j))))))
