-- Pack (document 02, Req 02 and 07): the four words of a reel that may be packed, else 15, 16 or 17.
use Rattle.std.specs.Prelude.{ℕ, cond, List, Ok, Err}
use Rattle.layout.specs.Refusal.{Answer, cause}
use Rattle.reels.specs.Reel.{words_of, pack_fault, packable_b}
use Rattle.reels.specs.Told.{ReelTold, refused, packed}
use Rattle.reels.specs.declared.reel.Reel.{Reel}

unfoldable pub pack_reply : Reel → Answer (List ℕ)
pack_reply r = cond (packable_b r) (Ok (words_of r)) (Err (cause (pack_fault r)))

-- what it tells
unfoldable pub pack_said : Reel → ReelTold
pack_said r = cond (packable_b r) (packed (words_of r)) (refused (pack_fault r))
