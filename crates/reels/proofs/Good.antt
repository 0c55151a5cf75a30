-- What is known of a good reel, and of one that may be packed.
use Prim.Native.Nat.{ℕ, ◌≤◌}
use mathlib.Core.Path.{◌≡◌, refl}
use mathlib.Core.Bool.{Bool, true, false, ◌&&◌, cond, false≢true}
use mathlib.Core.List.{[], ◌∷◌}
use mathlib.Core.Logic.{inl, inr}
use native.Mathlib.Omega.{arith}
use lib.Dec.{eqb}
use borrow.Author.Tests.{leb-true, eqb-true}
use Rattle.layout.specs.Checks.{unless, first}
use Rattle.reels.specs.Reel.{unused_b, shelf_b, allowed_b, seconds_b, reel_fault, good_b, speedless_b, pack_fault, packable_b}
use Rattle.reels.specs.Laws.{Shelved, Takes}
use Rattle.reels.specs.declared.reel.Reel.{Reel}
use Rattle.reels.proofs.Faults.{both, denied, shelf-known, allowed-takes}

pub record Good (r : Reel) : Type 0 where
  pub shelf : Shelved r.shelf
  pub takes : Takes 0 r.carrier r.speed
  pub speed : r.speed ≤ 5
  pub seconds : r.seconds ≤ 359999

pub speedless-known : (r : Reel) → speedless_b r ≡ true → (r.carrier ≡ 1) × (r.speed ≡ 0)
speedless-known r e = let p = both (eqb r.carrier 1) (eqb r.speed 0) e in (eqb-true r.carrier 1 p.0, eqb-true r.speed 0 p.1)

-- no carrier takes a code above 5
code-most : (carrier code : ℕ) → Takes 0 carrier code → code ≤ 5
code-most carrier code (inl (e, low, high)) = high
code-most carrier code (inr (inl (e, high))) = omega (arith, high)
code-most carrier code (inr (inr (e, z))) = omega (arith, z)

pub good-known : (r : Reel) → good_b r ≡ true → Good r
unfolding reel_fault first
good-known r e =
    let f = go (shelf_b r.shelf) (allowed_b r.carrier r.speed) (seconds_b r.seconds) e in
    let t = allowed-takes r.carrier r.speed f.1 in
    record {
      shelf = shelf-known r.shelf f.0;
      takes = t;
      speed = code-most r.carrier r.speed t;
      seconds = leb-true r.seconds 359999 f.2;
    }
  where
    go : (a b c : Bool) → eqb (first (unless a 15) (first (unless b 16) (unless c 17))) 0 ≡ true → (a ≡ true) × (b ≡ true) × (c ≡ true)
    go true true true e = (refl, refl, refl)
    go true true false e = absurd (false≢true e)
    go true false c e = absurd (false≢true e)
    go false b c e = absurd (false≢true e)

-- a reel that is no open reel with code 0
pub with-speed : (r : Reel) → (r.carrier ≡ 1 → r.speed ≡ 0 → ⊥) → speedless_b r ≡ false
with-speed r n = denied (speedless_b r) (λ e. let o = speedless-known r e in n o.0 o.1)

-- words of which one is not 0
pub not-unused : (a b c d : ℕ) → (a ≡ 0 → b ≡ 0 → c ≡ 0 → d ≡ 0 → ⊥) → unused_b (a ∷ b ∷ c ∷ d ∷ []) ≡ false
not-unused a b c d n =
    denied (unused_b (a ∷ b ∷ c ∷ d ∷ []))
    (λ e.
    let p = both (eqb a 0 && eqb b 0 && eqb c 0) (eqb d 0) e in
    let q = both (eqb a 0 && eqb b 0) (eqb c 0) p.0 in
    let t = both (eqb a 0) (eqb b 0) q.0 in
    n (eqb-true a 0 t.0) (eqb-true b 0 t.1) (eqb-true c 0 q.1) (eqb-true d 0 p.1))

-- a reel may be packed exactly where it is good and no open reel without a speed
pub packable-known : (r : Reel) → packable_b r ≡ true → (good_b r ≡ true) × (speedless_b r ≡ false)
unfolding pack_fault
packable-known r e = go (eqb (reel_fault r) 15) (speedless_b r) e
  where
    go : (x b : Bool) → eqb (cond x 15 (cond b 16 (reel_fault r))) 0 ≡ true → (good_b r ≡ true) × (b ≡ false)
    go true b e = absurd (false≢true e)
    go false true e = absurd (false≢true e)
    go false false e = (e, refl)

pub good-packable : (r : Reel) → good_b r ≡ true → speedless_b r ≡ false → packable_b r ≡ true
unfolding pack_fault
good-packable r g n = rw (eqb-true (reel_fault r) 0 g, n) refl
