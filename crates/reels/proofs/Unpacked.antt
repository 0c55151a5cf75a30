-- What four words unpack to, and what is told of it; of a read too.
use Prim.Native.Nat.{ℕ, zero, suc}
use mathlib.Core.Path.{◌≡◌, refl, sym, ap}
use mathlib.Core.Bool.{Bool, true, false, cond, false≢true}
use mathlib.Core.List.{List, []}
use native.Mathlib.Omega.{arith}
use lib.Dec.{eqb}
use borrow.Author.Tests.{ne_eqb}
use Rattle.std.specs.Prelude.{⊤, Ok, Err, MatchResult}
use Rattle.layout.specs.Checks.{unless, first, answered}
use Rattle.layout.specs.Refusal.{Answer, answer_of, cause, number_of, value_with}
use Rattle.snapshot.specs.Told.{words_from, read_told}
use Rattle.snapshot.specs.declared.seeing.Source.{Source}
use Rattle.snapshot.specs.declared.seeing.Source.TheVariants.{Own, Copy, Home}
use Rattle.snapshot.specs.declared.seeing.Sight.{Sight}
use Rattle.reels.specs.Reel.{reel_of, words_of, unused_b, shelf_b, allowed_b, seconds_b, reel_fault, good_b, speedless_b, pack_fault, packable_b}
use Rattle.reels.specs.Told.{refused, packed, unused, found, speed_to_find, pack_told, reel_told}
use Rattle.reels.specs.Pack.{pack_reply, pack_said}
use Rattle.reels.specs.Unpack.{unpack_reply, words_said}
use Rattle.reels.specs.Read.{content_of, source_of, from_told, reel_said, source_told}
use Rattle.reels.specs.declared.reel.Reel.{Reel}
use Rattle.reels.specs.declared.unpacking.Contents.{Contents}
use Rattle.reels.specs.declared.unpacking.Contents.TheVariants.{Unused, Found, SpeedToFind}

-- what the answer of a check says of its fault
pub checked : (f : ℕ) (a : Answer ⊤) → a ≡ answer_of f tt → MatchResult a (λ x. eqb f 0 ≡ true) (λ r. (eqb f 0 ≡ false) × (r ≡ cause f))
unfolding answered
checked f a e = rw e (go f)
  where
    go : (k : ℕ) → MatchResult {T = ⊤} (answer_of k tt) (λ x. eqb k 0 ≡ true) (λ r. (eqb k 0 ≡ false) × (r ≡ cause k))
    go zero = refl
    go (suc k) = (ne_eqb (suc k) 0 (λ z. omega (arith, z)), refl)

-- a fault is the number of its cause, with which no value goes
abbrev Told : ℕ → Type 0
Told f = (number_of (cause f) ≡ f) × (value_with (cause f) ≡ 0)

pub fault-told : (r : Reel) → good_b r ≡ false → Told (reel_fault r)
unfolding reel_fault first cause
fault-told r e = go (shelf_b r.shelf) (allowed_b r.carrier r.speed) (seconds_b r.seconds) e
  where
    go : (a b c : Bool) → let f = first (unless a 15) (first (unless b 16) (unless c 17)) in eqb f 0 ≡ false → Told f
    go true true true e = absurd (false≢true (sym e))
    go true true false e = (refl, refl)
    go true false c e = (refl, refl)
    go false b c e = (refl, refl)

pub packing-told : (r : Reel) → packable_b r ≡ false → Told (pack_fault r)
unfolding pack_fault cause
packing-told r e = go (eqb (reel_fault r) 15) (speedless_b r) e
  where
    go : (x m : Bool) → let f = cond x 15 (cond m 16 (reel_fault r)) in eqb f 0 ≡ false → Told f
    go true m e = (refl, refl)
    go false true e = (refl, refl)
    go false false e = fault-told r e

-- what a reel packs to: its words, or the refusal
pub packs : (r : Reel) (a : Answer (List ℕ)) → a ≡ pack_reply r
    → MatchResult a (λ ws. (packable_b r ≡ true) × (ws ≡ words_of r)) (λ q. (packable_b r ≡ false) × (q ≡ cause (pack_fault r)))
unfolding pack_reply
packs r a e = rw e (go (packable_b r) refl)
  where
    go : (p : Bool) → packable_b r ≡ p → MatchResult (cond p (Ok (words_of r)) (Err (cause (pack_fault r))))
        (λ ws. (packable_b r ≡ true) × (ws ≡ words_of r)) (λ q. (packable_b r ≡ false) × (q ≡ cause (pack_fault r)))
    go true y = (y, refl)
    go false y = (y, refl)

pub pack-told : (r : Reel) → pack_told (pack_reply r) ≡ pack_said r
unfolding pack_reply pack_said
pack-told r = go (packable_b r) refl
  where
    go : (p : Bool) → packable_b r ≡ p → pack_told (cond p (Ok (words_of r)) (Err (cause (pack_fault r)))) ≡ cond p (packed (words_of r)) (refused (pack_fault r))
    go true e = refl
    go false e = ap refused (packing-told r e).0

module _ (ws : List ℕ) where
  -- the reply by whether the words are unused, whether they are good and whether their speed is to find
  abbrev pub unpacked : Bool → Bool → Bool → Answer Contents
  unpacked u g m = cond u (Ok Unused) (cond g (Ok (cond m (SpeedToFind (reel_of ws)) (Found (reel_of ws)))) (Err (cause (reel_fault (reel_of ws)))))

  pub unpack-told : reel_told (unpack_reply ws) ≡ words_said ws
  unfolding unpack_reply words_said
  unpack-told = go (unused_b ws) (good_b (reel_of ws)) (speedless_b (reel_of ws)) refl
    where
      go : (u g m : Bool) → good_b (reel_of ws) ≡ g → reel_told (unpacked u g m)
          ≡ cond u unused (cond g (cond m (speed_to_find (reel_of ws)) (found (reel_of ws))) (refused (reel_fault (reel_of ws))))
      go true g m y = refl
      go false true true y = refl
      go false true false y = refl
      go false false m y = ap refused (fault-told (reel_of ws) y).0

  -- a reel that is found is good
  pub found-good : {r : Reel} → unpack_reply ws ≡ Ok (Found r) → good_b r ≡ true
  unfolding unpack_reply
  found-good {r} e = go (unused_b ws) (good_b (reel_of ws)) (speedless_b (reel_of ws)) refl e
    where
      go : (u g m : Bool) → good_b (reel_of ws) ≡ g → unpacked u g m ≡ Ok (Found r) → good_b r ≡ true
      go true g m y e = let w : ◌≡◌ {A = ℕ} 0 1 = cc in absurd (omega arith)
      go false true true y e = let w : ◌≡◌ {A = ℕ} 0 1 = cc in absurd (omega arith)
      go false true false y e = let w : reel_of ws ≡ r = cc in rw (← w) y
      go false false m y e = let w : ◌≡◌ {A = ℕ} 0 1 = cc in absurd (omega arith)

  -- a reel that is marked is that of the words, good, and an open reel without a speed
  pub marked-known : {r : Reel} → unpack_reply ws ≡ Ok (SpeedToFind r) → (r ≡ reel_of ws) × (good_b (reel_of ws) ≡ true) × (speedless_b (reel_of ws) ≡ true)
  unfolding unpack_reply
  marked-known {r} e = go (unused_b ws) (good_b (reel_of ws)) (speedless_b (reel_of ws)) e
    where
      go : (u g m : Bool) → unpacked u g m ≡ Ok (SpeedToFind r) → (r ≡ reel_of ws) × (g ≡ true) × (m ≡ true)
      go true g m e = let w : ◌≡◌ {A = ℕ} 0 1 = cc in absurd (omega arith)
      go false true true e = let w : r ≡ reel_of ws = cc in (w, refl, refl)
      go false true false e = let w : ◌≡◌ {A = ℕ} 0 1 = cc in absurd (omega arith)
      go false false m e = let w : ◌≡◌ {A = ℕ} 0 1 = cc in absurd (omega arith)

-- what a read tells of what the store's read tells
pub content-told : (a : Answer Sight) → reel_told (content_of a) ≡ reel_said (read_told a)
content-told (Err r) = refl
content-told (Ok x) = by-source x.source x.words
  where
    by-source : (s : Source) (ws : List ℕ) → reel_told (unpack_reply ws) ≡ reel_said (words_from s ws)
    by-source Own ws = unpack-told ws
    by-source Copy ws = unpack-told ws
    by-source Home ws = unpack-told ws

pub source-told : (a : Answer Sight) → source_told (from_told (source_of a)) ≡ source_told (read_told a)
source-told (Err r) = refl
source-told (Ok x) = by-source x.source x.words
  where
    by-source : (s : Source) (ws : List ℕ) → source_told (words_from s []) ≡ source_told (words_from s ws)
    by-source Own ws = refl
    by-source Copy ws = refl
    by-source Home ws = refl
