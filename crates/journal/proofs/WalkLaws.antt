-- The walk over the copies by record number, lowest first, gathers the words that differ in ascending index.
use Prim.Native.Nat.{ℕ, ◌+◌, ◌-◌, ◌*◌, ◌≤◌, ◌<◌}
use mathlib.Core.Bool.{false, false≢true}
use mathlib.Core.Path.{◌≡◌, refl, sym, ap, ◌∙◌}
use mathlib.Core.Logic.{◌⊎◌, inl, inr}
use mathlib.Core.List.{List, ◌++◌}
use native.Mathlib.Omega.{arith}
use native.Mathlib.Decide.{dec_lt}
use lib.ListN.{length, get_or}
use lib.Dec.{leb, ltb}
use borrow.Author.Tests.{le-ltb, le-leb, leb-true, ltb-false}
use Rattle.layout.specs.Homes.{Differ}
use Rattle.layout.specs.Entries.{Write}
use Rattle.journal.specs.Changes.{changes_in, changes_below, Gathered}
use Rattle.journal.specs.Copies.{rec_in}
use Rattle.journal.specs.Log.{shorter_b}
use Rattle.journal.proofs.ChangesLaws.{changes-gap, changes-next, changes-grow}
use Rattle.journal.proofs.FilterLaws.{kept-at, kept-of}
use Rattle.std.proofs.lemmas.List.{get_or_default}
use Rattle.std.specs.List.{All, Contains, filter}
use Rattle.desk.specs.Desk.{no_copy}
use Rattle.desk.specs.declared.state.RecordCopy.{RecordCopy}

-- ---- the lowest record from `floor` on

-- copy i has it
pub record Next (rec : ℕ → ℕ) (count floor i : ℕ) : Type 0 where
  pub used : i < count
  pub from : floor ≤ rec i
  pub lowest : (j : ℕ) → j < count → (rec j < floor) ⊎ (rec i ≤ rec j)

module _ (copies : List RecordCopy) (floor : ℕ) where
  abbrev later : List RecordCopy
  later = filter (λ c. leb floor c.rec) copies

  -- a copy from `floor` on is among them
  late-at : (j : ℕ) → j < length copies → floor ≤ rec_in copies j → (k : ℕ) × (k < length later) × (get_or later k no_copy ≡ get_or copies j no_copy)
  late-at j l f = kept-of (λ c. leb floor c.rec) no_copy copies j l (le-leb floor (rec_in copies j) f)

  pub next-found : (b : RecordCopy) → Contains later b → All (λ c. b.rec ≤ c.rec) later
      → (i : ℕ) × (get_or copies i no_copy ≡ b) × (rec_in copies i ≡ b.rec) × Next (rec_in copies) (length copies) floor i
  next-found b h a =
      let r = kept-at (λ c. leb floor c.rec) b copies h.0 h.1 in
      let e : get_or copies r.0 no_copy ≡ b = get_or_default copies r.0 no_copy b r.1 ∙ r.2 ∙ h.2 in
      let z : rec_in copies r.0 ≡ b.rec = ap (λ (x : RecordCopy). x.rec) e in
      let f : floor ≤ b.rec = omega (arith, leb-true _ _ r.3, ap (λ (x : RecordCopy). x.rec) (r.2 ∙ h.2)) in
      (r.0, e, z, record { used = r.1; from = omega (arith, z, f); lowest = λ j l. least r.0 z j l (dec_lt (rec_in copies j) floor) })
    where
      least : (i : ℕ) → rec_in copies i ≡ b.rec → (j : ℕ) → j < length copies → Dec (rec_in copies j < floor) → (rec_in copies j < floor) ⊎ (rec_in copies i ≤ rec_in copies j)
      least i z j l (yes x) = inl x
      least i z j l (no x) =
          let f : floor ≤ rec_in copies j = omega arith in
          let q = late-at j l f in
          inr (omega (arith, z, a q.0 no_copy q.1, ap (λ (y : RecordCopy). y.rec) q.2))

  -- no copy has one
  pub next-none : length later ≡ 0 → (j : ℕ) → j < length copies → rec_in copies j < floor
  next-none z j l = go (dec_lt (rec_in copies j) floor)
    where
      go : Dec (rec_in copies j < floor) → rec_in copies j < floor
      go (yes x) = x
      go (no x) =
          let f : floor ≤ rec_in copies j = omega arith in
          absurd (omega (arith, (late-at j l f).1))

-- ---- the walk

module _ (home : ℕ → List ℕ) (rec : ℕ → ℕ) (words : ℕ → List ℕ) (count floor : ℕ) {found : List Write} where
  -- a turn
  pub walk-next : {i : ℕ} {found' : List Write} → Differ rec count → Next rec count floor i → found ≡ changes_below home rec words count floor
      → found' ≡ found ++ changes_in (rec i) (home (rec i)) (words i) → found' ≡ changes_below home rec words count (rec i + 1)
  walk-next {i} {found'} d f m n =
      let gap : floor + (rec i - floor) ≡ rec i = omega (arith, f.from) in
      let same : changes_below home rec words count (rec i) ≡ changes_below home rec words count floor =
      ap (changes_below home rec words count) (sym gap)
      ∙ changes-gap home rec words count floor (rec i - floor) (λ r l h j u e. none j u (omega (arith, l, e)) (omega (arith, h, gap, e)) (f.lowest j u)) in
      n
      ∙ ap (λ ws. ws ++ changes_in (rec i) (home (rec i)) (words i)) (m ∙ sym same)
      ∙ sym (changes-next home rec words count (rec i) i f.used refl d)
    where
      none : (j : ℕ) → j < count → floor ≤ rec j → rec j < rec i → (rec j < floor) ⊎ (rec i ≤ rec j) → ⊥
      none j u l h (inl x) = omega arith
      none j u l h (inr x) = omega arith

  -- no copy is left
  pub found_all : (n : ℕ) → floor ≤ n → length found ≤ 13 → found ≡ changes_below home rec words count floor
      → ((j : ℕ) → j < count → rec j < floor) → Gathered (changes_below home rec words count n) count found
  found_all n l h m none =
      let gap : floor + (n - floor) ≡ n = omega arith in
      let e : found ≡ changes_below home rec words count n =
      m
      ∙ sym (changes-gap home rec words count floor (n - floor) (λ r u v j w x. omega (arith, u, x, none j w)))
      ∙ ap (changes_below home rec words count) gap in
      record { same = ap (λ ws. ltb (2 * length ws) (5 * count)) e; few = h; noted = λ t. e }

  -- too many were found for a short log
  pub found-many : (n : ℕ) → floor ≤ n → length found ≤ 13 → found ≡ changes_below home rec words count floor → shorter_b (length found) count ≡ false
      → Gathered (changes_below home rec words count n) count found
  found-many n l h m e =
      let gap : floor + (n - floor) ≡ n = omega arith in
      let grow : length (changes_below home rec words count floor) ≤ length (changes_below home rec words count n) = rw gap at (changes-grow home rec words count floor (n - floor)) in
      let u : 5 * count ≤ 2 * length found = ltb-false (2 * length found) (5 * count) e in
      record {
        same = e ∙ sym (le-ltb (2 * length (changes_below home rec words count n)) (5 * count) (omega (arith, u, ap (λ ws. length ws) m, grow)));
        few = h;
        noted = λ t. absurd (false≢true (sym e ∙ t));
      }
