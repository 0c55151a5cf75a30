-- What the rest of this crate needs to know of the forms of a log (journal/specs/Log.antt). Of the files here only this one looks at them.
use Prim.Native.Nat.{ℕ, zero, suc, ◌+◌, ◌-◌, ◌*◌, ◌/◌, ◌≤◌, ◌<◌}
use mathlib.Core.Path.{◌≡◌, refl, sym, ap, ◌∙◌}
use mathlib.Core.Logic.{◌⊎◌, inl, inr}
use mathlib.Core.List.{List, [], ◌∷◌, ◌++◌}
use native.Mathlib.Decide.{dec_lt}
use native.Mathlib.Nat.{add-zero}
use native.Mathlib.Omega.{arith}
use lib.ListN.{length, get_or, drop}
use lib.Seq.{get_or-take, get_or-drop}
use borrow.Author.Tests.{ltb-true}
use Rattle.layout.specs.Entries.{Entry, store, Write, stores, shift}
use Rattle.layout.specs.Homes.{homes_writes}
use Rattle.layout.specs.Image.{slot_at}
use Rattle.layout.proofs.Says.{by-test}
use Rattle.layout.proofs.TraceLaws.{shift-append}
use Rattle.journal.specs.Changes.{changes_below}
use Rattle.journal.specs.Log.{Slot, count_of, rec_of, words_of, pairs_of, index_of, word_of, pairs_writes, denoted, used_of, touched_of, Sound, SoundFull, SoundShort}
use Rattle.journal.specs.Log.{place_writes, body_writes, pair_writes, short_writes, shorter_b, index_in, word_in, log_body, sealed_body, log_entries}
use Rattle.journal.proofs.ChangesLaws.{below-ascending}
use Rattle.journal.proofs.DenotedLaws.{pairs-same}
use Rattle.journal.proofs.LogGroups.{length-body, length-short}
use Rattle.journal.proofs.Positions.{write, place-word, pair-index, pair-word, short-count, place-record, place-words, body-count}
use Rattle.journal.proofs.LogFacts.{short-test, full-test, denotes-short, denotes-full}
use Rattle.history.specs.Batch.{batch}
use Rattle.history.specs.Desk.{Copy, spot, rec_at, words_at, writes}
use Rattle.history.specs.Layout.{Home, body, log_of}
use Rattle.history.specs.Log.{In, Functional}
use Rattle.history.proofs.Batch.{Fit}
use Rattle.history.proofs.Changed.{in-below, below_in, at_in, in-at, index-high, index-ascends}
use Rattle.history.proofs.Copies.{Mem, at_mem, mem-at, at-differ, word-in}
use Rattle.history.proofs.HomeWrites.{homes-placed, homes_in, homes_same, pairs-placed, pairs-in}
use Rattle.history.proofs.Invariant.{Lawful}

-- ---- what a sound log denotes

-- home words
pub sound-home : (N : ℕ) (f : Slot) → Sound N f → (i w : ℕ) → In i w (denoted f) → Home N i
sound-home N f (inl s) i w h =
    let p = homes-placed (rec_of f) (words_of f) (count_of f) i w (rw (denotes-full f (omega (arith, s.at_most))) at h) in
    omega (arith, p.index, p.j<, s.below p.k p.k<)
sound-home N f (inr s) i w h =
    let p = pairs-placed (index_of f) (word_of f) (pairs_of f) i w (rw (denotes-short f s.is-short) at h) in
    omega (arith, p.spot_of, s.below p.j p.j<)

-- no two of which disagree
pub sound-functional : (N : ℕ) (f : Slot) → Sound N f → Functional (denoted f)
sound-functional N f (inl s) i v w h h' =
    let full = denotes-full f (omega (arith, s.at_most)) in
    let p = homes-placed (rec_of f) (words_of f) (count_of f) i v (rw full at h) in
    let q = homes-placed (rec_of f) (words_of f) (count_of f) i w (rw full at h') in
    let r : rec_of f p.k ≡ rec_of f q.k = omega (arith, p.index, q.index, p.j<, q.j<) in
    let j : p.j ≡ q.j = omega (arith, p.index, q.index, r) in
    let k : p.k ≡ q.k = one p.k q.k p.k< q.k< r in
    cc (p.content, q.content, j, k)
  where
    one : (k l : ℕ) → k < count_of f → l < count_of f → rec_of f k ≡ rec_of f l → k ≡ l
    one k l lk ll e =
        elim (dec_lt k l) [ yes a ↦ absurd (s.differ k l a ll e) | no a ↦ elim (dec_lt l k) [ yes b ↦ absurd (s.differ l k b lk (sym e)) | no b ↦ omega arith ] ]
sound-functional N f (inr s) i v w h h' =
    let p = pairs-placed (index_of f) (word_of f) (pairs_of f) i v (rw (denotes-short f s.is-short) at h) in
    let q = pairs-placed (index_of f) (word_of f) (pairs_of f) i w (rw (denotes-short f s.is-short) at h') in
    let j : p.j ≡ q.j = one p.j q.j p.j< q.j< (omega (arith, p.spot_of, q.spot_of)) in
    p.content ∙ ap (word_of f) j ∙ sym q.content
  where
    one : (k l : ℕ) → k < pairs_of f → l < pairs_of f → index_of f k ≡ index_of f l → k ≡ l
    one k l lk ll e =
        elim (dec_lt k l) [
          | yes a ↦ absurd (let lt : index_of f k < index_of f l = s.ascends k l a ll in omega arith)
          | no a ↦ elim (dec_lt l k) [ yes b ↦ absurd (let lt : index_of f l < index_of f k = s.ascends l k b lk in omega arith) | no b ↦ omega arith ]
        ]

-- what is in use writes a word of the record that it touches
pub record Touching (f : Slot) (r : ℕ) : Type 0 where
  pub m : ℕ
  pub v : ℕ
  pub m< : m < 4
  pub written : In (spot r m) v (denoted f)

pub sound-touches : (N : ℕ) (f : Slot) → Sound N f → (j : ℕ) → j < used_of f → Touching f (touched_of f j)
sound-touches N f (inl s) j l =
    let few : count_of f < 16 = omega (arith, s.at_most) in
    let u : j < count_of f = rw (full-test f few) at l in
    rw (full-test f few)
    (record { m = 0; v = get_or (words_of f j) 0 0; m< = omega arith; written = rw (denotes-full f few) (homes_in (rec_of f) (words_of f) (count_of f) j 0 u (omega arith)) })
sound-touches N f (inr s) j l =
    let u : j < pairs_of f = rw (short-test f s.is-short) at l in
    let e : spot (index_of f j / 4) (index_of f j - 4 * (index_of f j / 4)) ≡ 4 + index_of f j = omega arith in
    rw (short-test f s.is-short)
    (record {
      m = index_of f j - 4 * (index_of f j / 4);
      v = word_of f j;
      m< = omega arith;
      written = rw (denotes-short f s.is-short, e) (pairs-in (index_of f) (word_of f) (pairs_of f) j u);
    })

-- ---- the log of copies, in a slot at b

-- writes of a part that starts at b
abbrev pub moved : ℕ → List Write → List Write
moved b [] = []
moved b (x ∷ ws) = (b + x.0, x.1) ∷ moved b ws

-- the body of the log of copies over home records
abbrev pub body_at : ℕ → (ℕ → List ℕ) → ℕ → List Copy → List Write
body_at N home b cs = moved b (log_body N home (rec_at cs) (words_at cs) (length cs))

pub log-batch : (N : ℕ) (home : ℕ → List ℕ) (b n : ℕ) (cs : List Copy)
    → shift b (log_entries N home n (rec_at cs) (words_at cs) (length cs)) ≡ batch (body_at N home b cs) b n
log-batch N home b n cs = sealed (log_body N home (rec_at cs) (words_at cs) (length cs))
  where
    stored : (ws : List Write) → shift b (stores ws) ≡ stores (moved b ws)
    stored [] = refl
    stored (x ∷ ws) = ap {B = List Entry} (λ es. store (b + x.0) x.1 ∷ es) (stored ws)

    sealed : (ws : List Write) → shift b (sealed_body n ws) ≡ batch (moved b ws) b n
    sealed ws = shift-append b (stores ws) _ ∙ rw (add-zero b, stored ws) refl

moved-append : (b : ℕ) (xs ys : List Write) → moved b (xs ++ ys) ≡ moved b xs ++ moved b ys
moved-append b [] ys = refl
moved-append b (x ∷ xs) ys = ap {B = List Write} (λ ws. (b + x.0, x.1) ∷ ws) (moved-append b xs ys)

-- ---- writes to the words of a slot, one behind the other

-- from word i on
abbrev Run : ℕ → List Write → Type 0
Run i [] = Unit {0}
Run i (x ∷ ws) = (x.0 ≡ i) × Run (suc i) ws

run-append : (i : ℕ) (xs ys : List Write) → Run i xs → Run (i + length xs) ys → Run i (xs ++ ys)
run-append i [] ys a b = let e : i + 0 ≡ i = omega arith in rw e at b
run-append i (x ∷ xs) ys a b = let e : i + suc (length xs) ≡ suc i + length xs = omega arith in (a.0, run-append (suc i) xs ys a.1 (rw e at b))

run_at : (i : ℕ) (ws : List Write) → Run i ws → (p : ℕ) → p < length ws → index_in ws p ≡ i + p
run_at i [] r p l = absurd (omega arith)
run_at i (x ∷ ws) r zero l = omega (arith, r.0)
run_at i (x ∷ ws) r (suc p) l = omega (arith, run_at (suc i) ws r.1 p (omega arith))

-- the bodies of both forms: of copies, and of the words that differ
abbrev full_body : List Copy → List Write
full_body cs = body_writes (rec_at cs) (words_at cs) (length cs) (length cs)

abbrev short_body : List Write → List Write
short_body ws = short_writes (index_in ws) (word_in ws) (length ws) (length ws)

-- behind the slot's number
full-run : (rec : ℕ → ℕ) (words : ℕ → List ℕ) (c k : ℕ) → Run 1 (body_writes rec words c k)
unfolding body_writes
full-run rec words c zero = (refl, tt)
full-run rec words c (suc k) =
    run-append 1 (body_writes rec words c k) (place_writes k (rec k) (words k)) (full-run rec words c k)
    (rw (length-body rec words c k) (omega arith, (omega arith, (omega arith, (omega arith, (omega arith, tt))))))

short-run : (index word : ℕ → ℕ) (c k : ℕ) → Run 1 (short_writes index word c k)
unfolding short_writes
short-run index word c zero = (refl, tt)
short-run index word c (suc k) =
    run-append 1 (short_writes index word c k) (pair_writes k (index k) (word k)) (short-run index word c k)
    (rw (length-short index word c k) (omega arith, (omega arith, tt)))

module _ (b : ℕ) where
  in_moved : (ws : List Write) (p : ℕ) → p < length ws → In (b + index_in ws p) (word_in ws p) (moved b ws)
  in_moved [] p l = absurd (omega arith)
  in_moved (x ∷ ws) zero l = inl (refl, refl)
  in_moved (x ∷ ws) (suc p) l = inr (in_moved ws p (omega arith))

  moved_at : (ws : List Write) (i w : ℕ) → In i w (moved b ws) → (p : ℕ) × (p < length ws) × (i ≡ b + index_in ws p) × (w ≡ word_in ws p)
  moved_at [] i w h = absurd h
  moved_at (x ∷ ws) i w (inl e) = (0, omega arith, e.0, e.1)
  moved_at (x ∷ ws) i w (inr h) = let a = moved_at ws i w h in (suc a.0, omega (arith, a.1), a.2, a.3)

  module _ (ws : List Write) (r : Run 1 ws) where
    -- in the slot at b
    run_lies : length ws ≤ 21 → (i w : ℕ) → In i w (moved b ws) → (b < i) × (i < b + 22)
    run_lies few i w h =
        let a = moved_at ws i w h in
        let e = run_at 1 ws r a.0 a.1 in
        (omega (arith, a.2, e), omega (arith, a.1, a.2, e, few))

    -- no index has two words
    run-one : Functional (moved b ws)
    run-one i v w h h' =
        let a = moved_at ws i v h in
        let c = moved_at ws i w h' in
        let p : a.0 ≡ c.0 = omega (arith, a.2, c.2, run_at 1 ws r a.0 a.1, run_at 1 ws r c.0 c.1) in
        a.3 ∙ ap (word_in ws) p ∙ sym c.3

-- ---- a slot in which all of it stands

in-equal : (i i' w w' : ℕ) (ws : List Write) → i ≡ i' → w ≡ w' → In i' w' ws → In i w ws
in-equal i i' w w' ws e f h = rw (e, f) h

-- its log is sound, writes words of the copies alone, and each of these or it is at home
pub record Stands (N : ℕ) (home : ℕ → List ℕ) (cs : List Copy) (f : Slot) : Type 0 where
  pub sound : Sound N f
  pub only : (i w : ℕ) → In i w (denoted f) → In i w (writes cs)
  pub covers : (r : ℕ) (ws : List ℕ) → Mem r ws cs → (j : ℕ) → j < 4 → In (spot r j) (get_or ws j 0) (denoted f) ⊎ (get_or (home r) j 0 ≡ get_or ws j 0)

module _ (N : ℕ) (img : List ℕ) (p : ℕ) where
  -- the slot's own words
  pub own-word : (w : ℕ) → 1 ≤ w → w < 22 → log_of (body N img p) w ≡ get_or img (slot_at N p + w) 0
  own-word zero l m = absurd (omega arith)
  own-word (suc j) l m =
      get_or-take 21 (drop (slot_at N p + 1) img) j 0 (omega arith) ∙ get_or-drop (slot_at N p + 1) img j 0 ∙ ap (λ i. get_or img i 0) (omega arith)

  abbrev f : Slot
  f = log_of (body N img p)

  -- word w of the slot, where a body stands in it
  stands : (ws : List Write) → Run 1 ws → length ws ≤ 21 → ((i w : ℕ) → In i w (moved (slot_at N p) ws) → get_or img i 0 ≡ w)
      → (w j : ℕ) → w ≡ 1 + j → j < length ws → (x : Write) → write ws j ≡ x → f w ≡ x.1
  stands ws r few all w j e l x h =
      own-word w (omega (arith, e)) (omega (arith, e, l, few))
      ∙ ap (λ i. get_or img (slot_at N p + i) 0) (e ∙ sym (run_at 1 ws r j l))
      ∙ all _ _ (in_moved (slot_at N p) ws j l)
      ∙ ap (λ (y : Write). y.1) h

  module _ (home : ℕ → List ℕ) (cs : List Copy) (g : Lawful N cs) (some : 1 ≤ length cs) where
    -- of the full form
    module _ (all : (i w : ℕ) → In i w (moved (slot_at N p) (full_body cs)) → get_or img i 0 ≡ w) where
      long : length (full_body cs) ≡ 1 + 5 * length cs
      long = length-body (rec_at cs) (words_at cs) (length cs) (length cs)

      holds : (w j : ℕ) → w ≡ 1 + j → j < 1 + 5 * length cs → (x : Write) → write (full_body cs) j ≡ x → f w ≡ x.1
      holds w j e l = stands (full_body cs) (full-run (rec_at cs) (words_at cs) (length cs) (length cs)) (omega (arith, long, g.few)) all w j e (omega (arith, long, l))

      counted : count_of f ≡ length cs
      counted = holds 1 0 refl (omega arith) _ (body-count (rec_at cs) (words_at cs) (length cs) (length cs))

      recorded : (j : ℕ) → j < length cs → rec_of f j ≡ rec_at cs j
      recorded j l = holds (2 + 5 * j) (1 + 5 * j) (omega arith) (omega arith) _ (place-record (rec_at cs) (words_at cs) (length cs) (length cs) j l)

      worded : (j m : ℕ) → j < length cs → m < 4 → get_or (words_of f j) m 0 ≡ get_or (words_at cs j) m 0
      worded j m l n =
          place-word f j m n
          ∙ holds (3 + 5 * j + m) (2 + 5 * j + m) (omega arith) (omega arith) _ (place-words (rec_at cs) (words_at cs) (length cs) (length cs) j m l n)

      full-sound : SoundFull N f
      full-sound = record {
        at_least = omega (arith, counted, some);
        at_most = omega (arith, counted, g.few);
        below = λ j l. let m : j < length cs = omega (arith, counted) in omega (arith, recorded j m, g.below (rec_at cs j) (words_at cs j) (at_mem cs j m));
        differ = λ i j l m e. let n : j < length cs = omega (arith, counted) in at-differ cs g.distinct i j l n (sym (recorded i (omega arith)) ∙ e ∙ recorded j n);
      }

      -- it denotes the copies' writes
      denotes : denoted f ≡ writes cs
      denotes =
          denotes-full f (omega (arith, full-sound.at_most))
          ∙ ap (λ c. homes_writes (rec_of f) (words_of f) c) counted
          ∙ homes_same (rec_of f) (rec_at cs) (words_of f) (words_at cs) (length cs) recorded worded

      pub full-stands : Stands N home cs f
      full-stands = record {
        sound = inl full-sound;
        only = λ i w h. rw denotes at h;
        covers = λ r ws m j l. inl (rw denotes (word-in cs r ws m j l));
      }

    -- of the short form
    abbrev changes : List Write
    changes = changes_below home (rec_at cs) (words_at cs) (length cs) N

    module _ (few : 2 * length changes < 5 * length cs)
        (all : (i w : ℕ) → In i w (moved (slot_at N p) (short_body changes)) → get_or img i 0 ≡ w) where
      nine : length changes ≤ 9
      nine = omega (arith, few, g.few)

      short-long : length (short_body changes) ≡ 1 + 2 * length changes
      short-long = length-short (index_in changes) (word_in changes) (length changes) (length changes)

      short-holds : (w j : ℕ) → w ≡ 1 + j → j < 1 + 2 * length changes → (x : Write)
          → write (short_body changes) j ≡ x → f w ≡ x.1
      short-holds w j e l = stands (short_body changes) (short-run (index_in changes) (word_in changes) (length changes) (length changes)) (omega (arith, short-long, nine)) all w j e (omega (arith, short-long, l))

      short-counted : count_of f ≡ 16 + length changes
      short-counted = short-holds 1 0 refl (omega arith) _ (short-count (index_in changes) (word_in changes) (length changes) (length changes))

      is : 16 ≤ count_of f
      is = omega (arith, short-counted)

      paired : pairs_of f ≡ length changes
      paired = omega (arith, short-counted)

      indexed : (j : ℕ) → j < length changes → index_of f j ≡ index_in changes j
      indexed j l = short-holds (2 + 2 * j) (1 + 2 * j) (omega arith) (omega arith) _ (pair-index (index_in changes) (word_in changes) (length changes) (length changes) j l)

      pair-worded : (j : ℕ) → j < length changes → word_of f j ≡ word_in changes j
      pair-worded j l =
          let e : 2 + 2 * j + 1 ≡ 3 + 2 * j = omega arith in
          ap f e
          ∙ short-holds (3 + 2 * j) (2 + 2 * j) (omega arith) (omega arith) _ (pair-word (index_in changes) (word_in changes) (length changes) (length changes) j l)

      -- it denotes the changes
      short-denotes : denoted f ≡ pairs_writes (index_in changes) (word_in changes) (length changes)
      short-denotes =
          denotes-short f is
          ∙ ap (λ c. pairs_writes (index_of f) (word_of f) c) paired
          ∙ pairs-same (index_of f) (index_in changes) (word_of f) (word_in changes) (length changes) (λ j l. (indexed j l, pair-worded j l))

      short-sound : SoundShort N f
      short-sound =
          let up = below-ascending home (rec_at cs) (words_at cs) (length cs) N in
          record {
            is-short = is;
            few = omega (arith, paired, nine);
            below = λ j l. let m : j < length changes = omega (arith, paired) in omega (arith, indexed j m, index-high 0 (4 * N) changes up j m);
            ascends = λ i j l k. let m : j < length changes = omega (arith, paired) in
                omega (arith, indexed i (omega arith), indexed j m, index-ascends 0 (4 * N) changes up i j l m);
          }

      -- each is a word of a copy
      short-only : (i w : ℕ) → In i w (denoted f) → In i w (writes cs)
      short-only i w h =
          let q = pairs-placed (index_in changes) (word_in changes) (length changes) i w (rw short-denotes at h) in
          let c = in-below home (rec_at cs) (words_at cs) (length cs) N (index_in changes q.j) (word_in changes q.j) (at_in changes q.j q.j<) in
          let e : i ≡ spot (rec_at cs c.k) c.m = omega (arith, q.spot_of, c.index) in
          in-equal i _ w _ (writes cs) e (q.content ∙ c.content) (homes_in (rec_at cs) (words_at cs) (length cs) c.k c.m c.k< c.m<)

      -- each word of a copy is one of them, or at home
      short-covers : (r : ℕ) (ws : List ℕ) → Mem r ws cs → (j : ℕ) → j < 4 → In (spot r j) (get_or ws j 0) (denoted f) ⊎ (get_or (home r) j 0 ≡ get_or ws j 0)
      short-covers r ws m j l =
          let a = mem-at cs r ws m in
          rw (a.2, a.3) at
          (go a.0 (below_in home (rec_at cs) (words_at cs) (length cs) N a.0 j a.1 l
          (g.below (rec_at cs a.0) (words_at cs a.0) (at_mem cs a.0 a.1)) (at-differ cs g.distinct)))
        where
          go : (k : ℕ) → In (4 * rec_at cs k + j) (get_or (words_at cs k) j 0) changes ⊎ (get_or (home (rec_at cs k)) j 0 ≡ get_or (words_at cs k) j 0)
              → In (spot (rec_at cs k) j) (get_or (words_at cs k) j 0) (denoted f) ⊎ (get_or (home (rec_at cs k)) j 0 ≡ get_or (words_at cs k) j 0)
          go k (inl h) =
              let b = in-at changes _ _ h in
              let e : 4 + index_in changes b.0 ≡ spot (rec_at cs k) j = omega (arith, b.2) in
              inl (rw short-denotes (rw (e, b.3) at (pairs-in (index_in changes) (word_in changes) (length changes) b.0 b.1)))
          go k (inr e) = inr e

      pub short-stands : Stands N home cs f
      short-stands = record { sound = inr short-sound; only = short-only; covers = short-covers }

-- ---- the body that finish stores, in either form

module _ (N : ℕ) (home : ℕ → List ℕ) (b : ℕ) (cs : List Copy) (g : Lawful N cs) (some : 1 ≤ length cs) where
  abbrev changed : List Write
  changed = changes_below home (rec_at cs) (words_at cs) (length cs) N

  -- in the slot at b, behind its number
  pub body-lies : (i w : ℕ) → In i w (body_at N home b cs) → (b < i) × (i < b + 22)
  body-lies =
      by-test (shorter_b (length changed) (length cs))
      (λ t. rw t (run_lies b (short_body changed) (short-run (index_in changed) (word_in changed) (length changed) (length changed))
      (omega (arith, length-short (index_in changed) (word_in changed) (length changed) (length changed), ltb-true (2 * length changed) (5 * length cs) t, g.few))))
      (λ e. rw e (run_lies b (full_body cs) (full-run (rec_at cs) (words_at cs) (length cs) (length cs)) (omega (arith, length-body (rec_at cs) (words_at cs) (length cs) (length cs), g.few))))

  body-one : Functional (body_at N home b cs)
  body-one =
      by-test (shorter_b (length changed) (length cs))
      (λ t. rw t (run-one b (short_body changed) (short-run (index_in changed) (word_in changed) (length changed) (length changed))))
      (λ e. rw e (run-one b (full_body cs) (full-run (rec_at cs) (words_at cs) (length cs) (length cs))))

  pub body-fit : (img : List ℕ) → b + 22 ≤ length img → Fit (body_at N home b cs) b img
  body-fit img inside = record {
    functional = body-one;
    apart = λ i w h e. omega (arith, (body-lies i w h).0);
    inside = λ i w h. omega (arith, (body-lies i w h).1);
  }

-- a slot in which it stands
pub body-stands : (N : ℕ) (img : List ℕ) (p : ℕ) (home : ℕ → List ℕ) (cs : List Copy) → Lawful N cs → 1 ≤ length cs
    → ((i w : ℕ) → In i w (body_at N home (slot_at N p) cs) → get_or img i 0 ≡ w) → Stands N home cs (log_of (body N img p))
body-stands N img p home cs g some all =
    by-test (shorter_b (length (changes N img p home cs g some)) (length cs))
    (λ t. short-stands N img p home cs g some (ltb-true _ _ t) (rw t at all))
    (λ e. full-stands N img p home cs g some (rw e at all))
