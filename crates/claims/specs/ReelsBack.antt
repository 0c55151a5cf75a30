-- A reel that was written and is read back in the same transaction is the same reel (document 02, Req 02), and not marked; a good open
-- reel without a speed, which the store alone can write, is read back marked (Req 07).
use Rattle.std.specs.Prelude.{ℕ, Bool, true, false, not, ◌&&◌, ◌≡◌, List, [], ◌∷◌, eqb, Ok}
use Rattle.layout.specs.Told.{ok, is_refusal}
use Rattle.desk.specs.declared.state.Desk.{Desk}
use Rattle.snapshot.specs.Read.{read_said}
use Rattle.snapshot.specs.Write.{write_reply}
use Rattle.snapshot.specs.declared.seeing.Source.TheVariants.{Own}
use Rattle.reels.specs.Reel.{words_of, reel_fault}
use Rattle.reels.specs.Read.{read_reel_reply}
use Rattle.reels.specs.Write.{write_reel_reply}
use Rattle.reels.specs.declared.reel.Reel.{Reel}
use Rattle.reels.specs.declared.unpacking.Contents.{Contents}
use Rattle.reels.specs.declared.unpacking.Contents.TheVariants.{Found, SpeedToFind}
use Rattle.reels.specs.declared.reading.ReadReelReply.{ReadReelReply}
use Rattle.history.specs.Call.{Listening, Begin, Read, Finish, Find, Call, begin, read, write, abandon, finish, publish, group, settle, reclaim, listen}
use Rattle.claims.specs.Rules.{store_rules}
use Rattle.claims.specs.Run.{World, opened, run}

-- of the listening room's calls
abbrev pub besides_listening : ℕ → Listening → Bool
besides_listening s (Begin t) = not (eqb t s)
besides_listening s (Read t r) = true
besides_listening s (Finish len t) = true
besides_listening s (Find t k) = true

-- a call that may stand between: no begin of the session, which would be another transaction's, and no other write of the record by it
abbrev pub besides : ℕ → ℕ → Call → Bool
besides s r (begin t) = not (eqb t s)
besides s r (read t q) = true
besides s r (write t q ws) = not (eqb t s && eqb q r)
besides s r (abandon t) = true
besides s r (finish len t) = true
besides s r (publish len t) = true
besides s r (group len set) = true
besides s r (settle len t) = true
besides s r (reclaim len t) = true
besides s r (listen c) = besides_listening s c

unfoldable pub all_besides : ℕ → ℕ → List Call → Bool
all_besides s r [] = true
all_besides s r (c ∷ cs) = besides s r c && all_besides s r cs

-- a read that finds this in the session's own words
abbrev pub own_reel : Contents → Desk → ReadReelReply
own_reel found d = record { answer = Ok found; source = Ok Own; desk = d }

module _ (w : World) (s r : ℕ) (reel : Reel) where
  -- the store behind the write of the reel's words and further calls
  abbrev pub behind : List Call → World
  behind calls = run store_rules (write s r (words_of reel) ∷ calls) w

  -- this is read
  abbrev pub Back : Contents → List Call → Type 0
  Back found calls = read_reel_reply (behind calls).image (behind calls).desk s r ≡ own_reel found (behind calls).desk

  pub record SameReel (found : Contents) : Type 0 where
    -- at once
    pub at_once : Back found []
    -- behind further calls, where the store does not refuse the read
    pub later : (calls : List Call) → all_besides s r calls ≡ true
        → is_refusal (read_said (behind calls).image (behind calls).desk s r) ≡ false → Back found calls

-- from any image that opens, behind any list of calls, a reel that the library writes
abbrev pub ReelsBack : Type 0
ReelsBack = (img : List ℕ) (len : ℕ) → (store_rules.opens img len).told ≡ ok → (earlier : List Call) (s r : ℕ) (reel : Reel)
    → let w = run store_rules earlier (opened store_rules img len) in
    (write_reel_reply w.image w.desk s r reel).answer ≡ Ok tt → SameReel w s r reel (Found reel)

-- and the words of an open reel without a speed, good to read, that the store writes
abbrev pub StoredBack : Type 0
StoredBack = (img : List ℕ) (len : ℕ) → (store_rules.opens img len).told ≡ ok → (earlier : List Call) (s r : ℕ) (reel : Reel)
    → let w = run store_rules earlier (opened store_rules img len) in
    (write_reply w.image w.desk s r (words_of reel)).answer ≡ Ok tt → reel_fault reel ≡ 0 → reel.carrier ≡ 1 → reel.speed ≡ 0
    → SameReel w s r reel (SpeedToFind reel)
