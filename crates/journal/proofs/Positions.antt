-- Where each write of a log's lists stands: of lists that grow by groups of one length, of the words that finish writes, and of the home
-- words that a log denotes.
use Prim.Native.Nat.{ℕ, zero, suc, ◌+◌, ◌*◌, ◌≤◌, ◌<◌}
use mathlib.Core.Path.{◌≡◌, refl, sym, ap, ◌∙◌}
use mathlib.Core.List.{List, [], ◌∷◌, ◌++◌}
use native.Mathlib.Omega.{arith}
use native.Mathlib.Decide.{dec_lt}
use lib.ListN.{length, get_or}
use Rattle.layout.specs.Entries.{Write}
use Rattle.layout.specs.Homes.{home_writes, homes_writes}
use Rattle.layout.proofs.Groups.{length-homes}
use Rattle.journal.specs.Log.{Slot, words_of, pairs_writes, place_writes, body_writes, pair_writes, short_writes}
use Rattle.journal.proofs.LogGroups.{length-body, length-short, length_pairs}

-- ---- lists behind one another

module _ {A : Type 0} (none : A) where
  pub at_left : (xs ys : List A) (j : ℕ) → j < length xs → get_or (xs ++ ys) j none ≡ get_or xs j none
  at_left [] ys j l = absurd (omega arith)
  at_left (x ∷ xs) ys zero l = refl
  at_left (x ∷ xs) ys (suc j) l = at_left xs ys j (omega arith)

  pub at_right : (xs ys : List A) (j : ℕ) → get_or (xs ++ ys) (length xs + j) none ≡ get_or ys j none
  at_right [] ys j = let e : 0 + j ≡ j = omega arith in ap (λ i. get_or ys i none) e
  at_right (x ∷ xs) ys j =
      let e : length (x ∷ xs) + j ≡ suc (length xs + j) = omega arith in ap (λ i. get_or (x ∷ (xs ++ ys)) i none) e ∙ at_right xs ys j

  -- X k is X 0 and the groups g 0 .. g (k - 1), of c each; group j starts at `from j`
  module _ (X g : ℕ → List A) (from : ℕ → ℕ) (c : ℕ) (grows : (k : ℕ) → X (suc k) ≡ X k ++ g k) (long : (k : ℕ) → length (X k) ≡ from k)
      (next : (k : ℕ) → from (suc k) ≡ from k + c) where
    behind : (j k : ℕ) → j < k → from j + c ≤ from k
    behind j zero l = absurd (omega arith)
    behind j (suc k) l = elim (dec_lt j k) [
      | yes b ↦ omega (arith, behind j k b, next k)
      | no u ↦ let e : j ≡ k = omega arith in rw e (omega (arith, next k))
    ]

    pub at-group : (k j m : ℕ) → j < k → m < c → get_or (X k) (from j + m) none ≡ get_or (g j) m none
    at-group zero j m l h = absurd (omega arith)
    at-group (suc k) j m l h = rw (grows k) (elim (dec_lt j k) [
      | yes b ↦ at_left (X k) (g k) (from j + m) (omega (arith, behind j k b, long k)) ∙ at-group k j m b h
      | no u ↦ let e : j ≡ k = omega arith in rw e (ap (λ i. get_or (X k ++ g k) (i + m) none) (sym (long k)) ∙ at_right (X k) (g k) m)
    ])

    starts : (k : ℕ) → from 0 ≤ from k
    starts zero = omega arith
    starts (suc k) = omega (arith, starts k, next k)

    pub at-start : (k i : ℕ) → i < from 0 → get_or (X k) i none ≡ get_or (X 0) i none
    at-start zero i l = refl
    at-start (suc k) i l = rw (grows k) (at_left (X k) (g k) i (omega (arith, long k, starts k, l)) ∙ at-start k i l)

-- write j of a list
abbrev pub write : List Write → ℕ → Write
write ws j = get_or ws j (0, 0)

-- a write with this index and word
at : (i i' w w' : ℕ) → i ≡ i' → w ≡ w' → ◌≡◌ {A = Write} (i, w) (i', w')
at i i' w w' e f = rw (e, f) refl

-- ---- what a log denotes

module _ (index word : ℕ → ℕ) (k : ℕ) where
  pub pair-home : (j : ℕ) → j < k → write (pairs_writes index word k) j ≡ (4 + index j, word j)
  unfolding pairs_writes
  pair-home j l =
      let e : 1 * j + 0 ≡ j = omega arith in
      ap (write (pairs_writes index word k)) (sym e)
      ∙ at-group (0, 0) (pairs_writes index word) (λ i. (4 + index i, word i) ∷ []) (λ i. 1 * i) 1 (λ i. refl) (λ i. length_pairs index word i ∙ omega arith)
      (λ i. omega arith) k j 0 l (omega arith)

home-word : (r : ℕ) (ws : List ℕ) (m : ℕ) → m < 4 → write (home_writes r ws) m ≡ (4 + 4 * r + m, get_or ws m 0)
home-word r ws zero l = at _ _ _ _ (omega arith) refl
home-word r ws (suc zero) l = refl
home-word r ws (suc (suc zero)) l = refl
home-word r ws (suc (suc (suc zero))) l = refl
home-word r ws (suc (suc (suc (suc m)))) l = absurd (omega arith)

module _ (rec : ℕ → ℕ) (words : ℕ → List ℕ) (k : ℕ) where
  pub copy-home : (j m : ℕ) → j < k → m < 4 → write (homes_writes rec words k) (4 * j + m) ≡ (4 + 4 * rec j + m, get_or (words j) m 0)
  unfolding homes_writes
  copy-home j m l h =
      at-group (0, 0) (homes_writes rec words) (λ i. home_writes (rec i) (words i)) (λ i. 4 * i) 4 (λ i. refl) (length-homes rec words) (λ i. omega arith) k j m l h
      ∙ home-word (rec j) (words j) m h

-- the words of place j of a full log
pub place-word : (f : Slot) (j m : ℕ) → m < 4 → get_or (words_of f j) m 0 ≡ f (3 + 5 * j + m)
place-word f j zero l = ap f (omega arith)
place-word f j (suc zero) l = ap f (omega arith)
place-word f j (suc (suc zero)) l = ap f (omega arith)
place-word f j (suc (suc (suc zero))) l = ap f (omega arith)
place-word f j (suc (suc (suc (suc m)))) l = absurd (omega arith)

-- ---- a log as finish lists it

module _ (index word : ℕ → ℕ) (c k : ℕ) where
  in_pair : (j m : ℕ) → j < k → m < 2 → write (short_writes index word c k) (1 + 2 * j + m) ≡ write (pair_writes j (index j) (word j)) m
  unfolding short_writes
  in_pair = at-group (0, 0) (short_writes index word c) (λ i. pair_writes i (index i) (word i)) (λ i. 1 + 2 * i) 2 (λ i. refl) (length-short index word c) (λ i. omega arith) k

  pub pair-index : (j : ℕ) → j < k → write (short_writes index word c k) (1 + 2 * j) ≡ (2 + 2 * j, index j)
  pair-index j l = let e : 1 + 2 * j ≡ 1 + 2 * j + 0 = omega arith in ap (write (short_writes index word c k)) e ∙ in_pair j 0 l (omega arith)

  pub pair-word : (j : ℕ) → j < k → write (short_writes index word c k) (2 + 2 * j) ≡ (3 + 2 * j, word j)
  pair-word j l =
      let e : 2 + 2 * j ≡ 1 + 2 * j + 1 = omega arith in
      ap (write (short_writes index word c k)) e ∙ in_pair j 1 l (omega arith) ∙ at _ _ _ _ (omega arith) refl

  pub short-count : write (short_writes index word c k) 0 ≡ (1, 16 + c)
  unfolding short_writes
  short-count = at-start (0, 0) (short_writes index word c) (λ i. pair_writes i (index i) (word i)) (λ i. 1 + 2 * i) 2 (λ i. refl) (length-short index word c) (λ i. omega arith) k 0 (omega arith)

module _ (rec : ℕ → ℕ) (words : ℕ → List ℕ) (c k : ℕ) where
  in_place : (j m : ℕ) → j < k → m < 5 → write (body_writes rec words c k) (1 + 5 * j + m) ≡ write (place_writes j (rec j) (words j)) m
  unfolding body_writes
  in_place = at-group (0, 0) (body_writes rec words c) (λ i. place_writes i (rec i) (words i)) (λ i. 1 + 5 * i) 5 (λ i. refl) (length-body rec words c) (λ i. omega arith) k

  pub body-count : write (body_writes rec words c k) 0 ≡ (1, c)
  unfolding body_writes
  body-count = at-start (0, 0) (body_writes rec words c) (λ i. place_writes i (rec i) (words i)) (λ i. 1 + 5 * i) 5 (λ i. refl) (length-body rec words c) (λ i. omega arith) k 0 (omega arith)

  pub place-record : (j : ℕ) → j < k → write (body_writes rec words c k) (1 + 5 * j) ≡ (2 + 5 * j, rec j)
  place-record j l = let e : 1 + 5 * j ≡ 1 + 5 * j + 0 = omega arith in ap (write (body_writes rec words c k)) e ∙ in_place j 0 l (omega arith)

  four : (j : ℕ) (ws : List ℕ) (r m : ℕ) → m < 4 → write (place_writes j r ws) (1 + m) ≡ (3 + 5 * j + m, get_or ws m 0)
  four j ws r zero l = at _ _ _ _ (omega arith) refl
  four j ws r (suc zero) l = at _ _ _ _ (omega arith) refl
  four j ws r (suc (suc zero)) l = at _ _ _ _ (omega arith) refl
  four j ws r (suc (suc (suc zero))) l = at _ _ _ _ (omega arith) refl
  four j ws r (suc (suc (suc (suc m)))) l = absurd (omega arith)

  pub place-words : (j m : ℕ) → j < k → m < 4 → write (body_writes rec words c k) (2 + 5 * j + m) ≡ (3 + 5 * j + m, get_or (words j) m 0)
  place-words j m l h =
      let e : 2 + 5 * j + m ≡ 1 + 5 * j + (1 + m) = omega arith in
      ap (write (body_writes rec words c k)) e ∙ in_place j (1 + m) l (omega arith) ∙ four j (words j) (rec j) m h
