-- What a caller of the library is told, in document 02's words. A write tells what the store's write
-- does (`write_told`), with the numbers 15, 16 and 17 besides.
use Rattle.std.specs.Prelude.{ℕ, List, Option, Some, None, Ok, Err}
use Rattle.layout.specs.Refusal.{Answer, number_of}
use Rattle.reels.specs.declared.reel.Reel.{Reel}
use Rattle.reels.specs.declared.unpacking.Contents.{Contents}
use Rattle.reels.specs.declared.unpacking.Contents.TheVariants.{Unused, Found, SpeedToFind}

-- "no K"; the four words of a reel; a reel, a reel with its "speed to find", or "unused"; metres, or "unknown"
pub data ReelTold : Type 0 where
  refused : ℕ → ReelTold
  packed : List ℕ → ReelTold
  unused : ReelTold
  found : Reel → ReelTold
  speed_to_find : Reel → ReelTold
  unknown : ReelTold
  metres : ℕ → ReelTold

-- what an answer tells: a refusal by its number
abbrev pub tells : {A : Type 0} → (A → ReelTold) → Answer A → ReelTold
tells done (Err r) = refused (number_of r)
tells done (Ok x) = done x

abbrev pub pack_told : Answer (List ℕ) → ReelTold
pack_told = tells packed

abbrev pub contents_told : Contents → ReelTold
contents_told Unused = unused
contents_told (Found r) = found r
contents_told (SpeedToFind r) = speed_to_find r

abbrev pub reel_told : Answer Contents → ReelTold
reel_told = tells contents_told

abbrev pub metres_told : Option ℕ → ReelTold
metres_told None = unknown
metres_told (Some n) = metres n

abbrev pub length_told : Answer (Option ℕ) → ReelTold
length_told = tells metres_told
