-- What a record counts as, and the tests of the report.
use Prim.Native.Nat.{ℕ, ◌≤◌}
use mathlib.Core.Path.{◌≡◌, refl, sym}
use mathlib.Core.Bool.{Bool, true, false, ◌&&◌, not, cond, false≢true}
use mathlib.Core.List.{List}
use mathlib.Core.Logic.{inl, inr}
use native.Mathlib.Omega.{arith}
use lib.ListN.{get_or}
use lib.Dec.{leb, eqb}
use borrow.Author.Tests.{eqb-true, ne_eqb, le-leb}
use Rattle.layout.specs.Checks.{first}
use Rattle.reels.specs.Laws.{Takes}
use Rattle.reels.specs.Reel.{reel_of, unused_b, reel_fault}
use Rattle.reels.specs.declared.reel.Reel.{Reel}
use Rattle.reels.proofs.Faults.{both}
use Rattle.reels.proofs.Good.{good-known}
use Rattle.report.specs.Report.{reel_b, on_b, bad_b}
use Rattle.report.specs.Changes.{kind_of, counted_as}
use Rattle.report.specs.declared.counting.RecordKind.{RecordKind}
use Rattle.report.specs.declared.counting.RecordKind.TheVariants.{Unused as CountsUnused, Reel as OnReel, Bad}

takes-known : (carrier code : ℕ) → Takes 0 carrier code → (1 ≤ carrier) × (carrier ≤ 3)
takes-known carrier code (inl (e, low, high)) = (omega (arith, e), omega (arith, e))
takes-known carrier code (inr (inl (e, high))) = (omega (arith, e), omega (arith, e))
takes-known carrier code (inr (inr (e, z))) = (omega (arith, e), omega (arith, e))

module _ (ws : List ℕ) where
  -- the kind by whether the words are unused and whether they are a reel's
  abbrev kind-by : Bool → Bool → ℕ
  kind-by u g = cond u 0 (cond g (reel_of ws).carrier 4)

  abbrev counted-by : Bool → Bool → RecordKind
  counted-by u g = cond u CountsUnused (cond g (OnReel (reel_of ws)) Bad)

  -- ---- what is known of the tests: an unused record is no reel, and a reel's carrier is 1 to 3
  pub unused-no-reel : unused_b ws ≡ true → reel_b ws ≡ false
  unfolding reel_fault first
  unused-no-reel e =
      let p = both (eqb (get_or ws 0 0) 0 && eqb (get_or ws 1 0) 0 && eqb (get_or ws 2 0) 0) (eqb (get_or ws 3 0) 0) e in
      let q = both (eqb (get_or ws 0 0) 0 && eqb (get_or ws 1 0) 0) (eqb (get_or ws 2 0) 0) p.0 in
      let z = eqb-true (get_or ws 0 0) 0 (both (eqb (get_or ws 0 0) 0) (eqb (get_or ws 1 0) 0) q.0).0 in
      rw z refl

  pub carrier-known : reel_b ws ≡ true → (1 ≤ (reel_of ws).carrier) × ((reel_of ws).carrier ≤ 3)
  carrier-known e = takes-known (reel_of ws).carrier (reel_of ws).speed (good-known (reel_of ws) e).takes

  -- ---- the tests, by the kind
  pub on_test : (c : ℕ) → 1 ≤ c → c ≤ 3 → eqb (kind_of ws) c ≡ on_b c ws
  unfolding kind_of
  on_test c low high = go (unused_b ws) (reel_b ws) unused-no-reel
    where
      go : (u g : Bool) → (u ≡ true → g ≡ false) → eqb (kind-by u g) c ≡ (g && eqb (reel_of ws).carrier c)
      go true true h = absurd (false≢true (sym (h refl)))
      go true false h = ne_eqb 0 c (λ z. omega (arith, z))
      go false true h = refl
      go false false h = ne_eqb 4 c (λ z. omega (arith, z))

  pub reel-test : (leb 1 (kind_of ws) && leb (kind_of ws) 3) ≡ reel_b ws
  unfolding kind_of
  reel-test = go (unused_b ws) (reel_b ws) unused-no-reel carrier-known
    where
      go : (u g : Bool) → (u ≡ true → g ≡ false) → (g ≡ true → (1 ≤ (reel_of ws).carrier) × ((reel_of ws).carrier ≤ 3))
          → (leb 1 (kind-by u g) && leb (kind-by u g) 3) ≡ g
      go true true h k = absurd (false≢true (sym (h refl)))
      go true false h k = refl
      go false true h k = rw (le-leb 1 (reel_of ws).carrier (k refl).0, le-leb (reel_of ws).carrier 3 (k refl).1) refl
      go false false h k = refl

  pub bad-test : eqb (kind_of ws) 4 ≡ bad_b ws
  unfolding kind_of
  bad-test = go (unused_b ws) (reel_b ws) carrier-known
    where
      go : (u g : Bool) → (g ≡ true → (1 ≤ (reel_of ws).carrier) × ((reel_of ws).carrier ≤ 3)) → eqb (kind-by u g) 4 ≡ (not u && not g)
      go true g k = refl
      go false true k = ne_eqb (reel_of ws).carrier 4 (λ z. omega (arith, z, (k refl).1))
      go false false k = refl

  pub unused-test : eqb (kind_of ws) 0 ≡ unused_b ws
  unfolding kind_of
  unused-test = go (unused_b ws) (reel_b ws) carrier-known
    where
      go : (u g : Bool) → (g ≡ true → (1 ≤ (reel_of ws).carrier) × ((reel_of ws).carrier ≤ 3)) → eqb (kind-by u g) 0 ≡ u
      go true g k = refl
      go false true k = ne_eqb (reel_of ws).carrier 0 (λ z. omega (arith, z, (k refl).0))
      go false false k = refl

  -- ---- the kind and the tests, by what it counts as
  pub as-reel : (r : Reel) → counted_as ws ≡ OnReel r
      → (r ≡ reel_of ws) × (kind_of ws ≡ r.carrier) × (reel_b ws ≡ true) × (bad_b ws ≡ false) × (unused_b ws ≡ false)
  unfolding counted_as kind_of
  as-reel r e = go (unused_b ws) (reel_b ws) e
    where
      go : (u g : Bool) → counted-by u g ≡ OnReel r
          → (r ≡ reel_of ws) × (kind-by u g ≡ r.carrier) × (g ≡ true) × ((not u && not g) ≡ false) × (u ≡ false)
      go true g e = cc
      go false true e = let q : r ≡ reel_of ws = cc in (q, rw q refl, refl, refl, refl)
      go false false e = cc

  pub as-unused : counted_as ws ≡ CountsUnused → (kind_of ws ≡ 0) × (reel_b ws ≡ false) × (bad_b ws ≡ false) × (unused_b ws ≡ true)
  unfolding counted_as kind_of
  as-unused e = go (unused_b ws) (reel_b ws) unused-no-reel e
    where
      go : (u g : Bool) → (u ≡ true → g ≡ false) → counted-by u g ≡ CountsUnused → (kind-by u g ≡ 0) × (g ≡ false) × ((not u && not g) ≡ false) × (u ≡ true)
      go true g h e = (refl, h refl, refl, refl)
      go false true h e = cc
      go false false h e = cc

  pub as-bad : counted_as ws ≡ Bad → (kind_of ws ≡ 4) × (reel_b ws ≡ false) × (bad_b ws ≡ true) × (unused_b ws ≡ false)
  unfolding counted_as kind_of
  as-bad e = go (unused_b ws) (reel_b ws) e
    where
      go : (u g : Bool) → counted-by u g ≡ Bad → (kind-by u g ≡ 4) × (g ≡ false) × ((not u && not g) ≡ true) × (u ≡ false)
      go true g e = cc
      go false true e = cc
      go false false e = (refl, refl, refl, refl)

  pub no-reel : ((r : Reel) → counted_as ws ≡ OnReel r → ⊥) → reel_b ws ≡ false
  unfolding counted_as
  no-reel n = go (unused_b ws) (reel_b ws) unused-no-reel n
    where
      go : (u g : Bool) → (u ≡ true → g ≡ false) → ((r : Reel) → counted-by u g ≡ OnReel r → ⊥) → g ≡ false
      go true g h n = h refl
      go false true h n = absurd (n (reel_of ws) refl)
      go false false h n = refl

  -- the seconds of a reel are few
  pub reel-seconds : reel_b ws ≡ true → (reel_of ws).seconds ≤ 359999
  reel-seconds e = (good-known (reel_of ws) e).seconds

  pub kind-most : kind_of ws ≤ 4
  unfolding kind_of
  kind-most = go (unused_b ws) (reel_b ws) carrier-known
    where
      go : (u g : Bool) → (g ≡ true → (1 ≤ (reel_of ws).carrier) × ((reel_of ws).carrier ≤ 3)) → kind-by u g ≤ 4
      go true g k = omega arith
      go false true k = omega (arith, (k refl).1)
      go false false k = omega arith
