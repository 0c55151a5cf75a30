-- Unpack (document 02, Req 02): "unused" of four zero words; the reel of good words, marked where its speed is to find (Req 07); of others
-- the number of the first bad word.
use Rattle.std.specs.Prelude.{ℕ, cond, List, Ok, Err}
use Rattle.layout.specs.Refusal.{Answer, cause}
use Rattle.reels.specs.Reel.{reel_of, unused_b, reel_fault, good_b, speedless_b}
use Rattle.reels.specs.Told.{ReelTold, refused, unused, found, speed_to_find}
use Rattle.reels.specs.declared.reel.Reel.{Reel}
use Rattle.reels.specs.declared.unpacking.Contents.{Contents}
use Rattle.reels.specs.declared.unpacking.Contents.TheVariants.{Unused, Found, SpeedToFind}

-- of a good reel: "speed to find" where its speed is
abbrev pub mark_of : Reel → Contents
mark_of r = cond (speedless_b r) (SpeedToFind r) (Found r)

unfoldable pub unpack_reply : List ℕ → Answer Contents
unpack_reply ws =
    cond (unused_b ws) (Ok Unused) (cond (good_b (reel_of ws)) (Ok (mark_of (reel_of ws))) (Err (cause (reel_fault (reel_of ws)))))

-- what words tell
abbrev pub reel_says : Reel → ReelTold
reel_says r = cond (speedless_b r) (speed_to_find r) (found r)

unfoldable pub words_said : List ℕ → ReelTold
words_said ws = cond (unused_b ws) unused (cond (good_b (reel_of ws)) (reel_says (reel_of ws)) (refused (reel_fault (reel_of ws))))
