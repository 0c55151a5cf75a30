-- What a log denotes, as a list of stores: how many there are, and that no index appears twice.
use Prim.Native.Nat.{ℕ, zero, suc, ◌+◌, ◌*◌, ◌≤◌, ◌<◌}
use mathlib.Core.Bool.{true, false, cond, false≢true}
use mathlib.Core.Path.{◌≡◌, refl, sym, ap, ◌∙◌}
use mathlib.Core.Logic.{inl, inr}
use mathlib.Core.List.{List, [], ◌∷◌}
use native.Mathlib.Omega.{arith}
use lib.ListN.{length, get_or, take}
use Rattle.std.proofs.lemmas.List.{get_or-take}
use Rattle.layout.specs.Entries.{Write}
use Rattle.layout.proofs.Groups.{homes_same, Ascending, Distinct, ascending-append, ascending-distinct, homes-distinct, length-homes}
use Rattle.layout.proofs.Says.{by-test}
use Rattle.journal.specs.Lengths.{replay_length}
use Rattle.layout.specs.Homes.{homes_writes}
use Rattle.desk.specs.Desk.{no_copy}
use Rattle.desk.specs.declared.state.RecordCopy.{RecordCopy}
use Rattle.journal.specs.Copies.{rec_in, words_in}
use Rattle.journal.specs.Log.{unsound_b, Slot, count_of, rec_of, words_of, short_b, pairs_of, index_of, word_of, index_in, word_in, pairs_writes, denoted, Sound, SoundFull, SoundShort}
use Rattle.journal.proofs.LengthLaws.{recover-formula}
use Rattle.journal.proofs.LogFacts.{sound-of, short-test, full-test, denotes-short, denotes-full}
use Rattle.journal.proofs.LogGroups.{length_pairs}

pub denoted-length : (f : Slot) → length (denoted f) ≡ cond (short_b f) (pairs_of f) (4 * count_of f)
unfolding denoted
denoted-length f =
    by-test (short_b f)
    (λ t. rw t (length_pairs (index_of f) (word_of f) (pairs_of f)))
    (λ e. rw e (length-homes (rec_of f) (words_of f) (count_of f)))

-- pairs whose indexes ascend, below hi
pub pairs-ascending : (index word : ℕ → ℕ) (k hi : ℕ) → ((j : ℕ) → j < k → index j < hi) → ((i j : ℕ) → i < j → j < k → index i < index j)
    → Ascending 4 (4 + hi) (pairs_writes index word k)
unfolding pairs_writes
pairs-ascending index word zero hi b a = omega arith
pairs-ascending index word (suc k) hi b a =
    ascending-append 4 (4 + index k) (4 + hi) (pairs_writes index word k) ((4 + index k, word k) ∷ [])
    (pairs-ascending index word k (index k) (λ j l. a j k l (omega arith)) (λ i j l m. a i j l (omega arith)))
    (omega arith, omega (arith, b k (omega arith)))

-- of a sound log
pub denoted-distinct : (n : ℕ) (f : Slot) → Sound n f → Distinct (denoted f)
denoted-distinct n f (inl s) = rw (denotes-full f (omega (arith, s.at_most))) (homes-distinct (rec_of f) (words_of f) (count_of f) s.differ)
denoted-distinct n f (inr s) =
    rw (denotes-short f s.is-short)
    (ascending-distinct 4 (4 + 4 * n) (pairs_writes (index_of f) (word_of f) (pairs_of f)) (pairs-ascending (index_of f) (word_of f) (pairs_of f) (4 * n) s.below s.ascends))

pub denoted-few : (n : ℕ) (f : Slot) → Sound n f → length (denoted f) ≤ 16
denoted-few n f (inl s) = rw (denoted-length f, full-test f (omega (arith, s.at_most))) (omega (arith, s.at_most))
denoted-few n f (inr s) = rw (denoted-length f, short-test f s.is-short) (omega (arith, s.few))

pub pairs-few : (n : ℕ) (f : Slot) → Sound n f → pairs_of f ≤ 9
pairs-few n f (inl s) = omega (arith, s.at_most)
pairs-few n f (inr s) = s.few

-- recover's number of entries: these, and a fence, the persist number, a fence
pub replay-counted : (n : ℕ) (f : Slot) → Sound n f → replay_length f ≡ length (denoted f) + 3
unfolding replay_length
replay-counted n f (inl s) = rw (denoted-length f, full-test f (omega (arith, s.at_most))) (recover-formula (count_of f) s.at_least s.at_most)
replay-counted n f (inr s) = rw (denoted-length f, short-test f s.is-short) refl

-- ---- a log read into arrays

-- the form of an occupied slot that check 12 passes
pub short-of : (n : ℕ) (f : Slot) → unsound_b n f ≡ false → (f 0 ≡ 0 → ⊥) → short_b f ≡ true → SoundShort n f
short-of n f u o t = go (sound-of n f u o)
  where
    go : Sound n f → SoundShort n f
    go (inl s) = absurd (false≢true (sym (full-test f (omega (arith, s.at_most))) ∙ t))
    go (inr s) = s

pub full-of : (n : ℕ) (f : Slot) → unsound_b n f ≡ false → (f 0 ≡ 0 → ⊥) → short_b f ≡ false → SoundFull n f
full-of n f u o t = go (sound-of n f u o)
  where
    go : Sound n f → SoundFull n f
    go (inl s) = s
    go (inr s) = absurd (false≢true (sym t ∙ short-test f s.is-short))

pub pairs-same : (index index' word word' : ℕ → ℕ) (k : ℕ) → ((j : ℕ) → j < k → (index j ≡ index' j) × (word j ≡ word' j))
    → pairs_writes index word k ≡ pairs_writes index' word' k
unfolding pairs_writes
pairs-same index index' word word' zero h = refl
pairs-same index index' word word' (suc k) h =
    rw (pairs-same index index' word word' k (λ j l. h j (omega arith)), (h k (omega arith)).0, (h k (omega arith)).1) refl

-- its pairs, and its copies, are what it denotes
pub pairs-read : {n : ℕ} (f : Slot) → SoundShort n f → (pairs : List Write) (k : ℕ) → k ≡ pairs_of f
    → ((j : ℕ) → j < 9 → get_or pairs j (0, 0) ≡ (index_of f j, word_of f j)) → length (take k pairs) ≡ k
    → pairs_writes (index_in (take k pairs)) (word_in (take k pairs)) (length (take k pairs)) ≡ denoted f
pairs-read f s pairs k e h z =
    ap (pairs_writes (index_in (take k pairs)) (word_in (take k pairs))) z
    ∙ pairs-same _ (index_of f) _ (word_of f) k
    (λ j m. let q = get_or-take k pairs j (0, 0) m ∙ h j (omega (arith, e, s.few)) in (ap (λ (w : Write). w.0) q, ap (λ (w : Write). w.1) q))
    ∙ ap (pairs_writes (index_of f) (word_of f)) e
    ∙ sym (denotes-short f s.is-short)

pub copies-read : {n : ℕ} (f : Slot) → SoundFull n f → (copies : List RecordCopy) (c : ℕ) → c ≡ count_of f
    → ((j : ℕ) → j < 4 → get_or copies j no_copy ≡ record { rec = rec_of f j; words = words_of f j }) → length (take c copies) ≡ c
    → homes_writes (rec_in (take c copies)) (words_in (take c copies)) (length (take c copies)) ≡ denoted f
copies-read f s copies c e h z =
    ap (homes_writes (rec_in (take c copies)) (words_in (take c copies))) z
    ∙ homes_same (rec_in (take c copies)) (rec_of f) (words_in (take c copies)) (words_of f) c
    (λ j l. let k = get_or-take c copies j no_copy l ∙ h j (omega (arith, e, s.at_most)) in (ap (λ (x : RecordCopy). x.rec) k, ap (λ (x : RecordCopy). x.words) k))
    ∙ ap (homes_writes (rec_of f) (words_of f)) e
    ∙ sym (denotes-full f (omega (arith, s.at_most)))
