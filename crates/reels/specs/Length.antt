-- The tape length of a record (document 02, Req 02 and 07): metres, the seconds times the speed over 10,000, the rest dropped; "unknown" with
-- code 0, of an unused record and of one with a speed to find too; of bad words the number that a read gives.
use Rattle.std.specs.Prelude.{ℕ, ◌*◌, ◌/◌, cond, List, [], ◌∷◌, get_or, eqb, Option, Some, None, Ok, Err}
use Rattle.reels.specs.Reel.{reel_of, unused_b, reel_fault, good_b}
use Rattle.reels.specs.Told.{ReelTold, refused, unknown, metres}
use Rattle.reels.specs.Unpack.{unpack_reply}
use Rattle.reels.specs.declared.reel.Reel.{Reel}
use Rattle.layout.specs.Refusal.{Answer}
use Rattle.reels.specs.declared.unpacking.Contents.{Contents}
use Rattle.reels.specs.declared.unpacking.Contents.TheVariants.{Unused, Found, SpeedToFind}

-- codes 1 to 5 stand for these tenths of a millimetre per second
abbrev pub speed_at : ℕ → ℕ
speed_at code = get_or (0 ∷ 476 ∷ 953 ∷ 1905 ∷ 3810 ∷ 7620 ∷ []) code 0

abbrev pub metres_of : ℕ → ℕ → ℕ
metres_of seconds code = seconds * speed_at code / 10000

abbrev pub good_length : Reel → Option ℕ
good_length r = cond (eqb r.speed 0) None (Some (metres_of r.seconds r.speed))

-- by what the words unpack to
abbrev pub contents_length : Contents → Option ℕ
contents_length Unused = None
contents_length (Found r) = good_length r
contents_length (SpeedToFind r) = None

abbrev pub length_of : Answer Contents → Answer (Option ℕ)
length_of (Err r) = Err r
length_of (Ok x) = Ok (contents_length x)

unfoldable pub length_answer : List ℕ → Answer (Option ℕ)
length_answer ws = length_of (unpack_reply ws)

-- what it tells
abbrev pub good_said : Reel → ReelTold
good_said r = cond (eqb r.speed 0) unknown (metres (metres_of r.seconds r.speed))

unfoldable pub length_said : List ℕ → ReelTold
length_said ws = cond (unused_b ws) unknown (cond (good_b (reel_of ws)) (good_said (reel_of ws)) (refused (reel_fault (reel_of ws))))
