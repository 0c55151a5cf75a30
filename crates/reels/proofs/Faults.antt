-- The faults of a reel in plain words, on reading and on packing.
use Prim.Native.Nat.{ℕ, ◌≤◌}
use mathlib.Core.Path.{◌≡◌, refl}
use mathlib.Core.Bool.{Bool, true, false, ◌&&◌, cond, false≢true}
use mathlib.Core.Logic.{inl, inr}
use native.Mathlib.Omega.{arith}
use lib.Dec.{leb, eqb}
use borrow.Author.Tests.{leb-true, eqb-true, eqb-false, le-leb, lt-leb, ne_eqb}
use Rattle.layout.specs.Checks.{unless, first}
use Rattle.reels.specs.Reel.{shelf_b, allowed_b, seconds_b, reel_fault, speedless_b, pack_fault}
use Rattle.reels.specs.Laws.{Shelved, Takes, Faults}
use Rattle.reels.specs.declared.reel.Reel.{Reel}

pub both : (a b : Bool) → (a && b) ≡ true → (a ≡ true) × (b ≡ true)
both true b e = (refl, e)
both false b e = absurd (false≢true e)

pub shelf-known : (n : ℕ) → shelf_b n ≡ true → Shelved n
shelf-known n e = let p = both (leb 1 n) (leb n 999999) e in (leb-true 1 n p.0, leb-true n 999999 p.1)

-- what is not true is false
pub denied : (b : Bool) → (b ≡ true → ⊥) → b ≡ false
denied true n = absurd (n refl)
denied false n = refl

pub shelf-right : (n : ℕ) → Shelved n → shelf_b n ≡ true
shelf-right n (low, high) = rw (le-leb 1 n low, le-leb n 999999 high) refl

-- a carrier takes a code on reading exactly where the test says so
pub allowed-takes : (carrier code : ℕ) → allowed_b carrier code ≡ true → Takes 0 carrier code
allowed-takes carrier code e = go (eqb carrier 1) (eqb carrier 2) (eqb carrier 3) refl refl refl e
  where
    go : (a b c : Bool) → eqb carrier 1 ≡ a → eqb carrier 2 ≡ b → eqb carrier 3 ≡ c
        → cond a (leb code 5) (cond b (leb code 1) (cond c (eqb code 0) false)) ≡ true → Takes 0 carrier code
    go true b c x y z e = inl (eqb-true carrier 1 x, omega arith, leb-true code 5 e)
    go false true c x y z e = inr (inl (eqb-true carrier 2 y, leb-true code 1 e))
    go false false true x y z e = inr (inr (eqb-true carrier 3 z, eqb-true code 0 e))
    go false false false x y z e = absurd (false≢true e)

takes-allowed : (least carrier code : ℕ) → Takes least carrier code → allowed_b carrier code ≡ true
takes-allowed least carrier code (inl (e, low, high)) = rw (e, le-leb code 5 high) refl
takes-allowed least carrier code (inr (inl (e, high))) = rw (e, le-leb code 1 high) refl
takes-allowed least carrier code (inr (inr (e, z))) = rw (e, z) refl

-- an open reel with a speed, a cassette, a disc: these are packed
takes-speed : (carrier code : ℕ) → Takes 1 carrier code → eqb carrier 1 && eqb code 0 ≡ false
takes-speed carrier code (inl (e, low, high)) = rw (e, ne_eqb code 0 (λ z. omega (arith, low, z))) refl
takes-speed carrier code (inr (inl (e, high))) = rw e refl
takes-speed carrier code (inr (inr (e, z))) = rw e refl

speed-takes : (carrier code : ℕ) → Takes 0 carrier code → eqb carrier 1 && eqb code 0 ≡ false → Takes 1 carrier code
speed-takes carrier code (inl (e, low, high)) n = inl (e, some-speed (rw e at n), high)
  where
    some-speed : eqb code 0 ≡ false → 1 ≤ code
    some-speed n = omega (arith, eqb-false code 0 n)
speed-takes carrier code (inr (inl x)) n = inr (inl x)
speed-takes carrier code (inr (inr x)) n = inr (inr x)

pub read-faults : Faults reel_fault 0
unfolding reel_fault first
read-faults =
    record {
      shelf = λ r n. rw (denied (shelf_b r.shelf) (λ e. n (shelf-known r.shelf e))) refl;
      speed = λ r s n. rw (shelf-right r.shelf s, denied (allowed_b r.carrier r.speed) (λ e. n (allowed-takes r.carrier r.speed e))) refl;
      seconds = λ r s t l. rw (shelf-right r.shelf s, takes-allowed 0 r.carrier r.speed t, lt-leb r.seconds 359999 l) refl;
      none = λ r s t l. rw (shelf-right r.shelf s, takes-allowed 0 r.carrier r.speed t, le-leb r.seconds 359999 l) refl;
    }

-- an open reel without a speed, or a code that its carrier does not take even on reading
refused-speed : (r : Reel) → Shelved r.shelf → (Takes 1 r.carrier r.speed → ⊥) → pack_fault r ≡ 16
unfolding pack_fault reel_fault first
refused-speed r s n = rw (shelf-right r.shelf s) (go (allowed_b r.carrier r.speed) (seconds_b r.seconds) (speedless_b r) refl refl)
  where
    go : (b t m : Bool) → allowed_b r.carrier r.speed ≡ b → speedless_b r ≡ m
        → let f = first (unless b 16) (unless t 17) in ◌≡◌ {A = ℕ} (cond (eqb f 15) 15 (cond m 16 f)) 16
    go true true true x y = refl
    go true false true x y = refl
    go true t false x y = absurd (n (speed-takes r.carrier r.speed (allowed-takes r.carrier r.speed x) y))
    go false t true x y = refl
    go false t false x y = refl

pub pack-faults : Faults pack_fault 1
unfolding pack_fault
pack-faults =
    record {
      shelf = λ r n. rw (read-faults.shelf r n) refl;
      speed = refused-speed;
      seconds = λ r s t l. rw (read-faults.seconds r s (takes-read r t) l, takes-speed r.carrier r.speed t) refl;
      none = λ r s t l. rw (read-faults.none r s (takes-read r t) l, takes-speed r.carrier r.speed t) refl;
    }
  where
    takes-read : (r : Reel) → Takes 1 r.carrier r.speed → Takes 0 r.carrier r.speed
    takes-read r t = allowed-takes r.carrier r.speed (takes-allowed 1 r.carrier r.speed t)
