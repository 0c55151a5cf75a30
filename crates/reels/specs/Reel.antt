-- What the four words of a record mean (document 02, Req 02). Which are good to read is `reel_fault`: unpacking, reading and the tape length
-- ask it. Which may be packed is `pack_fault`, in terms of it (Req 07): packing and writing ask that.
use Rattle.std.specs.Prelude.{ℕ, Bool, false, ◌&&◌, cond, List, [], ◌∷◌, get_or, leb, eqb}
use Rattle.layout.specs.Checks.{unless, first}
use Rattle.reels.specs.declared.reel.Reel.{Reel}

-- word 0 is the shelf number, word 1 the carrier, word 2 the speed code, word 3 the playing time in seconds
abbrev pub reel_of : List ℕ → Reel
reel_of ws = record { shelf = get_or ws 0 0; carrier = get_or ws 1 0; speed = get_or ws 2 0; seconds = get_or ws 3 0 }

abbrev pub words_of : Reel → List ℕ
words_of r = r.shelf ∷ r.carrier ∷ r.speed ∷ r.seconds ∷ []

-- four zero words are an unused record
abbrev pub unused_b : List ℕ → Bool
unused_b ws = eqb (get_or ws 0 0) 0 && eqb (get_or ws 1 0) 0 && eqb (get_or ws 2 0) 0 && eqb (get_or ws 3 0) 0

-- the shelf number is 1 to 999,999
abbrev pub shelf_b : ℕ → Bool
shelf_b n = leb 1 n && leb n 999999

-- on reading, carrier 1, an open reel, takes the speed codes 0 to 5; 2, a cassette, takes 0 or 1; 3, a disc, takes 0; there is no other carrier
abbrev pub allowed_b : ℕ → ℕ → Bool
allowed_b carrier speed =
    cond (eqb carrier 1) (leb speed 5)
    (cond (eqb carrier 2) (leb speed 1)
    (cond (eqb carrier 3) (eqb speed 0)
    false))

-- the playing time is 0 to 359,999 seconds
abbrev pub seconds_b : ℕ → Bool
seconds_b t = leb t 359999

-- what is wrong first, by words: 15 names word 0, the shelf number; 16 word 1 or word 2, a carrier with a speed code; 17 word 3, the
-- seconds; 0 where all is right
unfoldable pub reel_fault : Reel → ℕ
reel_fault r = first (unless (shelf_b r.shelf) 15) (first (unless (allowed_b r.carrier r.speed) 16) (unless (seconds_b r.seconds) 17))

-- which reels, and so which words, are good to read
abbrev pub good_b : Reel → Bool
good_b r = eqb (reel_fault r) 0

-- an open reel without a speed (Req 07); where it is good to read, it is marked "speed to find", and no other reel is
abbrev pub speedless_b : Reel → Bool
speedless_b r = eqb r.carrier 1 && eqb r.speed 0

-- what a reel is refused by when it is packed or written: 15 as on reading; then 16, an open reel without a speed; else as on reading
unfoldable pub pack_fault : Reel → ℕ
pack_fault r = cond (eqb (reel_fault r) 15) 15 (cond (speedless_b r) 16 (reel_fault r))

-- which reels may be packed
abbrev pub packable_b : Reel → Bool
packable_b r = eqb (pack_fault r) 0
