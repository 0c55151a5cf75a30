-- The tape length: that its product fits, and what it tells.
use Prim.Native.Nat.{ℕ, zero, suc, ◌*◌, ◌≤◌, ◌<◌}
use mathlib.Core.Path.{◌≡◌, refl, ap}
use mathlib.Core.Bool.{Bool, true, false, cond}
use mathlib.Core.List.{List}
use native.Mathlib.Omega.{arith}
use native.Mathlib.Nat.{mul-le-mul_left}
use lib.Dec.{eqb}
use Rattle.reels.specs.Reel.{reel_of, unused_b, reel_fault, good_b, speedless_b}
use Rattle.std.specs.Prelude.{Some, None}
use Rattle.reels.specs.Told.{metres_told, length_told, refused, unknown, metres}
use Rattle.reels.specs.Unpack.{unpack_reply}
use Rattle.reels.specs.Length.{speed_at, metres_of, good_length, length_of, length_answer, good_said, length_said}
use Rattle.reels.specs.declared.reel.Reel.{Reel}
use Rattle.reels.proofs.Good.{speedless-known}
use Rattle.reels.proofs.Unpacked.{unpacked, fault-told}

-- no speed is above code 5's
speed-most : (code : ℕ) → speed_at code ≤ 7620
speed-most zero = omega arith
speed-most (suc zero) = omega arith
speed-most (suc (suc zero)) = omega arith
speed-most (suc (suc (suc zero))) = omega arith
speed-most (suc (suc (suc (suc zero)))) = omega arith
speed-most (suc (suc (suc (suc (suc zero))))) = omega arith
speed-most (suc (suc (suc (suc (suc (suc k)))))) = omega arith

pub product-fits : (seconds code : ℕ) → seconds ≤ 359999 → seconds * speed_at code < 18446744073709551616
product-fits seconds code l = omega (arith, mul-le-mul_left seconds (speed-most code))

good-told : (r : Reel) → metres_told (good_length r) ≡ good_said r
good-told r = go (eqb r.speed 0)
  where
    go : (z : Bool) → metres_told (cond z None (Some (metres_of r.seconds r.speed))) ≡ cond z unknown (metres (metres_of r.seconds r.speed))
    go true = refl
    go false = refl

pub length-told : (ws : List ℕ) → length_told (length_answer ws) ≡ length_said ws
unfolding length_answer length_said unpack_reply
length-told ws = go (unused_b ws) (good_b (reel_of ws)) (speedless_b (reel_of ws)) refl refl
  where
    go : (u g m : Bool) → good_b (reel_of ws) ≡ g → speedless_b (reel_of ws) ≡ m → length_told (length_of (unpacked ws u g m))
        ≡ cond u unknown (cond g (good_said (reel_of ws)) (refused (reel_fault (reel_of ws))))
    go true g m x y = refl
    go false true true x y = rw (speedless-known (reel_of ws) y).1 refl
    go false true false x y = good-told (reel_of ws)
    go false false m x y = ap refused (fault-told (reel_of ws) x).0
