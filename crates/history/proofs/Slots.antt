-- What the entries of finish, settle and reclaim leave of an image, whole or cut: the moves' relations on its view, and that logs stay sound.
use Prim.Native.Nat.{ℕ, zero, ◌+◌, ◌*◌, ◌≤◌, ◌<◌}
use mathlib.Core.Path.{◌≡◌, ap}
use mathlib.Core.Logic.{◌⊎◌, inl, inr, ◌≢◌}
use mathlib.Core.Bool.{Bool}
use mathlib.Core.List.{List, [], ◌∷◌, ◌++◌}
use native.Mathlib.Decide.{ℕ_discrete, dec_lt}
use native.Mathlib.Omega.{arith}
use lib.ListN.{length, get_or, take, set, length-set}
use lib.Seq.{take-nil}
use Rattle.history.specs.Log.{In, Functional}
use Rattle.layout.specs.Entries.{Entry, store, fence, made, stores, Write}
use Rattle.layout.specs.Crash.{arrived, crashed as cut}
use Rattle.layout.specs.Image.{slot_at}
use Rattle.history.specs.Layout.{Home, body, log_of, view}
use Rattle.journal.specs.Log.{denoted}
use Rattle.history.specs.Desk.{Copy, writes}
use Rattle.history.proofs.Cuts.{set_word, Stored, stored-take, stored-in, arrived-word, length-arrived, made_word, length-made, made-written, made-append, cut-fence}
use Rattle.history.proofs.Batch.{Words, Fit}
use Rattle.history.proofs.Places.{body_same, slot_at-apart, inside-apart}
use Rattle.history.proofs.LogForm.{body_at, body-lies, body-fit}
use Rattle.history.proofs.Copies.{Distinct, Below, in-word, mem-one}
use Rattle.history.proofs.Invariant.{Lawful}
use Rattle.history.proofs.MoveSettle.{Homing}
use Rattle.history.proofs.MoveClear.{Emptied}

-- ---- finish

module _ (N M : ℕ) (img : List ℕ) (home : ℕ → List ℕ) (p n : ℕ) (cs : List Copy) (whole : length img ≡ 4 + 4 * N + 44 * M) (inside : p < 2 * M) (lawful : Lawful N cs)
    (some-copy : 1 ≤ length cs) where
  pub finish-fit : Fit (body_at N home (slot_at N p) cs) (slot_at N p) img
  finish-fit = body-fit N home (slot_at N p) cs lawful some-copy img (omega arith)

  module _ (img' : List ℕ) (ws : Words (body_at N home (slot_at N p) cs) (slot_at N p) n img img') where
    pub finish-outside : (j : ℕ) → (j < slot_at N p) ⊎ (slot_at N p + 22 ≤ j) → get_or img' j 0 ≡ get_or img j 0
    finish-outside j o = go (ws.word j (miss o))
      where
        miss : (j < slot_at N p) ⊎ (slot_at N p + 22 ≤ j) → j ≢ slot_at N p
        miss (inl l) e = omega arith
        miss (inr l) e = omega arith

        off : (j < slot_at N p) ⊎ (slot_at N p + 22 ≤ j) → ¬ In j (get_or img' j 0) (body_at N home (slot_at N p) cs)
        off (inl l) h = omega (arith, (body-lies N home (slot_at N p) cs lawful some-copy j _ h).0)
        off (inr l) h = omega (arith, (body-lies N home (slot_at N p) cs lawful some-copy j _ h).1)

        go : (get_or img' j 0 ≡ get_or img j 0) ⊎ In j (get_or img' j 0) (body_at N home (slot_at N p) cs) → get_or img' j 0 ≡ get_or img j 0
        go (inl e) = e
        go (inr h) = absurd (off o h)

    side : (q j : ℕ) → q ≢ p → slot_at N q ≤ j → j < slot_at N q + 22 → (j < slot_at N p) ⊎ (slot_at N p + 22 ≤ j)
    side q j d lo hi = go (dec_lt q p)
      where
        go : Dec (q < p) → (j < slot_at N p) ⊎ (slot_at N p + 22 ≤ j)
        go (yes l) = inl (omega arith)
        go (no l) = inr (omega arith)

    pub finish-bodies : (q : ℕ) → q ≢ p → body N img' q ≡ body N img q
    finish-bodies q d = body_same N img img' q ws.long (λ j lo hi. finish-outside j (side q j d (omega arith) hi))

    pub finish-numbers : (q : ℕ) → q ≢ p → get_or img' (slot_at N q) 0 ≡ get_or img (slot_at N q) 0
    finish-numbers q d = finish-outside (slot_at N q) (side q (slot_at N q) d (omega arith) (omega arith))

    pub finish-homes : (i : ℕ) → Home N i → get_or img' i 0 ≡ get_or img i 0
    finish-homes i h = finish-outside i (inl (omega arith))

-- ---- settle

-- every word is as it was, or one that is written there
pub record Some-of (ws : List Write) (img img' : List ℕ) : Type 0 where
  pub long : length img' ≡ length img
  pub word : (j : ℕ) → (get_or img' j 0 ≡ get_or img j 0) ⊎ In j (get_or img' j 0) ws

module _ (ws : List Write) (img : List ℕ) where
  from-stored : (img' : List ℕ) → ((j : ℕ) → (get_or img' j 0 ≡ get_or img j 0) ⊎ Stored j (get_or img' j 0) (stores ws)) → (j : ℕ) → (get_or img' j 0 ≡ get_or img j 0) ⊎ In j (get_or img' j 0) ws
  from-stored img' h j = go (h j)
    where
      go : (get_or img' j 0 ≡ get_or img j 0) ⊎ Stored j (get_or img' j 0) (stores ws) → (get_or img' j 0 ≡ get_or img j 0) ⊎ In j (get_or img' j 0) ws
      go (inl e) = inl e
      go (inr k) = inr (stored-in j _ ws k)

  all_of : Some-of ws img (made (stores ws) img)
  all_of = record { long = length-made (stores ws) img; word = from-stored (made (stores ws) img) (λ j. made_word (stores ws) img j) }

  pub made_some : Some-of ws img (made (stores ws ++ fence ∷ []) img)
  made_some = rw (made-append (stores ws) (fence ∷ []) img) all_of

  pub made_all : Functional ws → ((i w : ℕ) → In i w ws → i < length img) → (i w : ℕ) → In i w ws → get_or (made (stores ws ++ fence ∷ []) img) i 0 ≡ w
  made_all f l i w h = rw (made-append (stores ws) (fence ∷ []) img) (f i _ w (made-written ws img i w h (l i w h)) h)

  pub cut-some : (k : ℕ) (sel : ℕ → Bool) → Some-of ws img (cut k sel (stores ws ++ fence ∷ []) img)
  cut-some k sel = go (cut-fence k sel (stores ws) [] img)
    where
      part : (l : ℕ) → Some-of ws img (arrived sel zero (take l (stores ws)) img)
      part l = record { long = length-arrived sel zero (take l (stores ws)) img; word = from-stored (arrived sel zero (take l (stores ws)) img) (λ j. on j (arrived-word sel zero (take l (stores ws)) img j)) }
        where
          on : (j : ℕ) → (get_or (arrived sel zero (take l (stores ws)) img) j 0 ≡ get_or img j 0) ⊎ Stored j (get_or (arrived sel zero (take l (stores ws)) img) j 0) (take l (stores ws))
              → (get_or (arrived sel zero (take l (stores ws)) img) j 0 ≡ get_or img j 0) ⊎ Stored j (get_or (arrived sel zero (take l (stores ws)) img) j 0) (stores ws)
          on j (inl e) = inl e
          on j (inr h) = inr (stored-take l j _ (stores ws) h)

      go : ((l : ℕ) × (cut k sel (stores ws ++ fence ∷ []) img ≡ arrived sel zero (take l (stores ws)) img))
          ⊎ ((l m : ℕ) × (cut k sel (stores ws ++ fence ∷ []) img ≡ arrived sel m (take l []) (made (stores ws) img)))
          → Some-of ws img (cut k sel (stores ws ++ fence ∷ []) img)
      go (inl c) = rw c.1 (part c.0)
      go (inr c) = rw (c.2, take-nil {A = Entry} c.0) all_of

module _ (N M : ℕ) (img : List ℕ) (cs : List Copy) (img' : List ℕ) (bl : Below N cs) (so : Some-of (writes cs) img img') where
  pub settle-home : (i w : ℕ) → In i w (writes cs) → Home N i
  settle-home i w h = let k = in-word cs i w h in let r : k.r < N = bl k.r k.ws k.mem in omega (arith, k.index, k.j<)

  pub settle-beyond : (j : ℕ) → 4 + 4 * N ≤ j → get_or img' j 0 ≡ get_or img j 0
  settle-beyond j lo = go (so.word j)
    where
      go : (get_or img' j 0 ≡ get_or img j 0) ⊎ In j (get_or img' j 0) (writes cs) → get_or img' j 0 ≡ get_or img j 0
      go (inl e) = e
      go (inr h) = let k : Home N j = settle-home j _ h in absurd (omega arith)

  pub settle-low : (j : ℕ) → j < 4 → get_or img' j 0 ≡ get_or img j 0
  settle-low j l = go (so.word j)
    where
      go : (get_or img' j 0 ≡ get_or img j 0) ⊎ In j (get_or img' j 0) (writes cs) → get_or img' j 0 ≡ get_or img j 0
      go (inl e) = e
      go (inr h) = let k : Home N j = settle-home j _ h in absurd (omega arith)

  pub settle-bodies : (q : ℕ) → body N img' q ≡ body N img q
  settle-bodies q = body_same N img img' q so.long (λ j lo hi. settle-beyond j (omega arith))

  pub settle-homing : Homing N (2 * M) (view N img) (view N img') (writes cs)
  settle-homing = record {
    number_same = λ q l. settle-beyond (slot_at N q) (omega arith);
    log-same = λ q l. ap (λ b. denoted (log_of b)) (settle-bodies q);
    home-kept = λ i h. so.word i;
  }

pub writes-functional : (cs : List Copy) → Distinct cs → Functional (writes cs)
writes-functional cs d i v w h k =
    let a = in-word cs i v h in
    let b = in-word cs i w k in
    let er : a.r ≡ b.r = omega (arith, a.index, b.index, a.j<, b.j<) in
    let ej : a.j ≡ b.j = omega (arith, a.index, b.index, er) in
    let ew : a.ws ≡ b.ws = mem-one cs d b.r a.ws b.ws (rw er at a.mem) b.mem in
    cc (a.content, b.content, ej, ew)

-- ---- reclaim

-- word b is as it was or n, and the others are as they were
pub record One-word (b n : ℕ) (img img' : List ℕ) : Type 0 where
  pub long : length img' ≡ length img
  pub others : (j : ℕ) → j ≢ b → get_or img' j 0 ≡ get_or img j 0
  pub turn : (get_or img' b 0 ≡ get_or img b 0) ⊎ (get_or img' b 0 ≡ n)

module _ (b n : ℕ) (img : List ℕ) where
  one_of : (img' : List ℕ) → length img' ≡ length img → ((j : ℕ) → (get_or img' j 0 ≡ get_or img j 0) ⊎ ((j ≡ b) × (get_or img' j 0 ≡ n))) → One-word b n img img'
  one_of img' e h = record { long = e; others = λ j d. pick j d (h j); turn = at (h b) }
    where
      pick : (j : ℕ) → j ≢ b → (get_or img' j 0 ≡ get_or img j 0) ⊎ ((j ≡ b) × (get_or img' j 0 ≡ n)) → get_or img' j 0 ≡ get_or img j 0
      pick j d (inl s) = s
      pick j d (inr c) = absurd (d c.0)

      at : (get_or img' b 0 ≡ get_or img b 0) ⊎ ((b ≡ b) × (get_or img' b 0 ≡ n)) → (get_or img' b 0 ≡ get_or img b 0) ⊎ (get_or img' b 0 ≡ n)
      at (inl s) = inl s
      at (inr c) = inr c.1

  pub made_one : One-word b n img (made (store b n ∷ fence ∷ []) img)
  made_one = one_of (set img b n) (length-set img b n) (set_word img b n)

  pub cut-one : (k : ℕ) (sel : ℕ → Bool) → One-word b n img (cut k sel (store b n ∷ fence ∷ []) img)
  cut-one k sel = one_of _ (length-arrived sel zero (take k (store b n ∷ fence ∷ [])) img) (λ j. go j (arrived-word sel zero (take k (store b n ∷ fence ∷ [])) img j))
    where
      only : (j v : ℕ) → Stored j v (store b n ∷ fence ∷ []) → (j ≡ b) × (v ≡ n)
      only j v (inl e) = e
      only j v (inr h) = absurd h

      go : (j : ℕ) → (get_or (cut k sel (store b n ∷ fence ∷ []) img) j 0 ≡ get_or img j 0) ⊎ Stored j (get_or (cut k sel (store b n ∷ fence ∷ []) img) j 0) (take k (store b n ∷ fence ∷ []))
          → (get_or (cut k sel (store b n ∷ fence ∷ []) img) j 0 ≡ get_or img j 0) ⊎ ((j ≡ b) × (get_or (cut k sel (store b n ∷ fence ∷ []) img) j 0 ≡ n))
      go j (inl e) = inl e
      go j (inr h) = inr (only j _ (stored-take k j _ (store b n ∷ fence ∷ []) h))

module _ (N M : ℕ) (img img' : List ℕ) (p : ℕ) (ow : One-word (slot_at N p) 0 img img') where
  pub clear-bodies : (q : ℕ) → body N img' q ≡ body N img q
  clear-bodies q = body_same N img img' q ow.long (λ j lo hi. ow.others j (inside-apart N p q j lo hi))

  pub clear-emptied : get_or img' (slot_at N p) 0 ≡ 0 → Emptied N (2 * M) (view N img) (view N img') p
  clear-emptied z = record {
    number-p = z;
    number_same = λ q l d. ow.others (slot_at N q) (slot_at-apart N q p d);
    log-same = λ q l. ap (λ b. denoted (log_of b)) (clear-bodies q);
    home_same = λ i h. ow.others i (λ e. omega arith);
  }

  -- the word has not turned: nothing has changed
  pub unturned : get_or img' (slot_at N p) 0 ≡ get_or img (slot_at N p) 0 → (j : ℕ) → get_or img' j 0 ≡ get_or img j 0
  unturned e j = go (ℕ_discrete j (slot_at N p))
    where
      go : Dec (j ≡ slot_at N p) → get_or img' j 0 ≡ get_or img j 0
      go (yes x) = rw x e
      go (no d) = ow.others j d
