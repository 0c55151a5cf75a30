-- The one crash theorem: what a cut of `batch ws b n` (writes, a fence, one word, a fence) leaves, word by word. Publishing a log, and
-- applying one, are both such batches.
use Prim.Native.Nat.{ℕ, zero, ◌<◌}
use mathlib.Core.Path.{◌≡◌, refl, ◌∙◌}
use mathlib.Core.Logic.{◌⊎◌, inl, inr, ◌≢◌}
use mathlib.Core.Bool.{Bool}
use mathlib.Core.List.{List, [], ◌∷◌}
use lib.ListN.{length, get_or, take, set, length-set}
use lib.Seq.{get_or-set_same}
use Rattle.history.specs.Log.{In, Functional}
use Rattle.layout.specs.Entries.{Entry, store, fence, made, stores, Write}
use Rattle.layout.specs.Crash.{arrived, crashed as cut}
use Rattle.history.specs.Batch.{batch}
use Rattle.history.proofs.Cuts.{set_word, Stored, stored-take, stored-in, arrived-word, length-arrived, made_word, length-made, made-written, made-append, cut-fence}

-- where the word at b turned to n, every write has arrived; and every other word is as it was, or one that is written there
pub record Words (ws : List Write) (b n : ℕ) (img img' : List ℕ) : Type 0 where
  pub long : length img' ≡ length img
  pub word : (j : ℕ) → j ≢ b → (get_or img' j 0 ≡ get_or img j 0) ⊎ In j (get_or img' j 0) ws
  pub turn : (get_or img' b 0 ≡ get_or img b 0) ⊎ ((get_or img' b 0 ≡ n) × ((i w : ℕ) → In i w ws → get_or img' i 0 ≡ w))

-- the entries after the first fence
abbrev ending : ℕ → ℕ → List Entry
ending b n = store b n ∷ fence ∷ []

-- the writes can be made in any order, miss b, and lie in the image
pub record Fit (ws : List Write) (b : ℕ) (img : List ℕ) : Type 0 where
  pub functional : Functional ws
  pub apart : (i w : ℕ) → In i w ws → i ≢ b
  pub inside : (i w : ℕ) → In i w ws → i < length img

module _ (ws : List Write) (b n : ℕ) (img : List ℕ) (fit : Fit ws b img) where
  -- the fence is not reached: of the writes, some
  before : (sel : ℕ → Bool) (l : ℕ) → Words ws b n img (arrived sel zero (take l (stores ws)) img)
  before sel l = record { long = length-arrived sel zero (take l (stores ws)) img; word = λ j _. any j; turn = inl (at_b (any b)) }
    where
      img' : List ℕ
      img' = arrived sel zero (take l (stores ws)) img

      some_of : (j : ℕ) → (get_or img' j 0 ≡ get_or img j 0) ⊎ Stored j (get_or img' j 0) (take l (stores ws)) → (get_or img' j 0 ≡ get_or img j 0) ⊎ In j (get_or img' j 0) ws
      some_of j (inl e) = inl e
      some_of j (inr h) = inr (stored-in j _ ws (stored-take l j _ (stores ws) h))

      any : (j : ℕ) → (get_or img' j 0 ≡ get_or img j 0) ⊎ In j (get_or img' j 0) ws
      any j = some_of j (arrived-word sel zero (take l (stores ws)) img j)

      at_b : (get_or img' b 0 ≡ get_or img b 0) ⊎ In b (get_or img' b 0) ws → get_or img' b 0 ≡ get_or img b 0
      at_b (inl e) = e
      at_b (inr h) = absurd (fit.apart b _ h refl)

  -- the fence is made: all of the writes
  mid : List ℕ
  mid = made (stores ws) img

  mid-word : (j : ℕ) → (get_or mid j 0 ≡ get_or img j 0) ⊎ In j (get_or mid j 0) ws
  unfolding mid
  mid-word j = go (made_word (stores ws) img j)
    where
      go : (get_or mid j 0 ≡ get_or img j 0) ⊎ Stored j (get_or mid j 0) (stores ws) → (get_or mid j 0 ≡ get_or img j 0) ⊎ In j (get_or mid j 0) ws
      go (inl e) = inl e
      go (inr h) = inr (stored-in j _ ws h)

  mid-slot_at : get_or mid b 0 ≡ get_or img b 0
  mid-slot_at = go (mid-word b)
    where
      go : (get_or mid b 0 ≡ get_or img b 0) ⊎ In b (get_or mid b 0) ws → get_or mid b 0 ≡ get_or img b 0
      go (inl e) = e
      go (inr h) = absurd (fit.apart b _ h refl)

  mid_written : (i w : ℕ) → In i w ws → get_or mid i 0 ≡ w
  unfolding mid
  mid_written i w h = fit.functional i _ w (made-written ws img i w h (fit.inside i w h)) h

  -- an image that differs from `mid` at b at most, where it is n then
  ended : (img' : List ℕ) → length img' ≡ length mid → ((j : ℕ) → (get_or img' j 0 ≡ get_or mid j 0) ⊎ ((j ≡ b) × (get_or img' j 0 ≡ n))) → Words ws b n img img'
  ended img' e h = record { long = e ∙ mid-long; word = λ j d. rw (other j d) (mid-word j); turn = at_b (h b) }
    where
      mid-long : length mid ≡ length img
      mid-long = unfold mid in (length-made (stores ws) img)

      pick : (j : ℕ) → j ≢ b → (get_or img' j 0 ≡ get_or mid j 0) ⊎ ((j ≡ b) × (get_or img' j 0 ≡ n)) → get_or img' j 0 ≡ get_or mid j 0
      pick j d (inl s) = s
      pick j d (inr c) = absurd (d c.0)

      other : (j : ℕ) → j ≢ b → get_or img' j 0 ≡ get_or mid j 0
      other j d = pick j d (h j)

      at_b : (get_or img' b 0 ≡ get_or mid b 0) ⊎ ((b ≡ b) × (get_or img' b 0 ≡ n))
          → (get_or img' b 0 ≡ get_or img b 0) ⊎ ((get_or img' b 0 ≡ n) × ((i w : ℕ) → In i w ws → get_or img' i 0 ≡ w))
      at_b (inl s) = inl (s ∙ mid-slot_at)
      at_b (inr c) = inr (c.1, λ i w d. other i (fit.apart i w d) ∙ mid_written i w d)

  stored-ending : (j v : ℕ) → Stored j v (ending b n) → (j ≡ b) × (v ≡ n)
  stored-ending j v (inl e) = e
  stored-ending j v (inr h) = absurd h

  after : (sel : ℕ → Bool) (m l : ℕ) → Words ws b n img (arrived sel m (take l (ending b n)) mid)
  after sel m l = ended img' (length-arrived sel m (take l (ending b n)) mid) (λ j. go j (arrived-word sel m (take l (ending b n)) mid j))
    where
      img' : List ℕ
      img' = arrived sel m (take l (ending b n)) mid

      go : (j : ℕ) → (get_or img' j 0 ≡ get_or mid j 0) ⊎ Stored j (get_or img' j 0) (take l (ending b n)) → (get_or img' j 0 ≡ get_or mid j 0) ⊎ ((j ≡ b) × (get_or img' j 0 ≡ n))
      go j (inl e) = inl e
      go j (inr h) = inr (stored-ending j _ (stored-take l j _ (ending b n) h))

  pub cut-words : (k : ℕ) (sel : ℕ → Bool) → Words ws b n img (cut k sel (batch ws b n) img)
  unfolding mid
  cut-words k sel = go (cut-fence k sel (stores ws) (ending b n) img)
    where
      go : ((l : ℕ) × (cut k sel (batch ws b n) img ≡ arrived sel zero (take l (stores ws)) img))
          ⊎ ((l m : ℕ) × (cut k sel (batch ws b n) img ≡ arrived sel m (take l (ending b n)) (made (stores ws) img)))
          → Words ws b n img (cut k sel (batch ws b n) img)
      go (inl c) = rw c.1 (before sel c.0)
      go (inr c) = rw c.2 (after sel c.1 c.0)

  pub made-words : Words ws b n img (made (batch ws b n) img)
  unfolding mid
  made-words = rw (made-append (stores ws) (fence ∷ ending b n) img) (ended (set mid b n) (length-set mid b n) (set_word mid b n))

  -- all entries made, b has turned
  pub made-turned : b < length img → get_or (made (batch ws b n) img) b 0 ≡ n
  made-turned fits = rw (made-append (stores ws) (fence ∷ ending b n) img) (get_or-set_same (made (stores ws) img) b n 0 (rw (length-made (stores ws) img) fits))
