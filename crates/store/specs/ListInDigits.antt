-- The list of active sessions in digits (document 02, Req 09): which desks are coherent, what the calls leave of the list, and whom settle
-- names. N 8, M 4, clock 9; sessions without copies, but for session 3.
use Rattle.std.specs.Prelude.{ℕ, true, false, List, [], ◌∷◌, ◌++◌, ◌≡◌, replicate}
use Rattle.layout.specs.Told.{Told, ok, wait}
use Rattle.desk.specs.Abandon.{abandon_reply}
use Rattle.desk.specs.Begin.{begin_reply}
use Rattle.desk.specs.Coherent.{coherent_b}
use Rattle.desk.specs.Desk.{zero_copy, idle_session}
use Rattle.desk.specs.declared.state.Desk.{Desk}
use Rattle.desk.specs.declared.state.Phase.{Phase}
use Rattle.desk.specs.declared.state.Phase.TheVariants.{Idle, Active, Sealed, Published}
use Rattle.desk.specs.declared.state.Session.{Session}
use Rattle.snapshot.specs.Write.{write_reply}
use Rattle.commit.specs.Finish.{finish_reply}
use Rattle.commit.specs.Settle.{settle_reply}
use Rattle.commit.specs.Told.{settle_told}

-- N 8, M 4, word 3 at 99
abbrev pub image : List ℕ
image = 1 ∷ 8 ∷ 4 ∷ 99 ∷ replicate 208 0

-- a session without copies, and one that copies record 0
abbrev pub bare : Phase → Session
bare p = record { phase = p; count = 0; slot = 0; copies = replicate 4 zero_copy }

abbrev pub holding : Phase → Session
holding p =
    record { phase = p; count = 1; slot = 0; copies = record { rec = 0; words = 5 ∷ 6 ∷ 7 ∷ 8 ∷ [] } ∷ zero_copy ∷ zero_copy ∷ zero_copy ∷ [] }

-- sessions 0, 1 and 2 in these phases, session 3 idle, and the first places of the list
abbrev pub three : Phase → Phase → Phase → List ℕ → Desk
three p q r list =
    record {
      clock = 9;
      n = 8;
      m = 4;
      holders = replicate 256 0;
      sessions = bare p ∷ bare q ∷ bare r ∷ replicate 13 idle_session;
      order = list ++ replicate 13 0;
    }

-- the same, with record 0 held by session 3 in this phase
abbrev pub beside : Phase → Phase → Phase → Phase → List ℕ → Desk
beside p q r held list =
    record {
      clock = 9;
      n = 8;
      m = 4;
      holders = 4 ∷ replicate 255 0;
      sessions = bare p ∷ bare q ∷ bare r ∷ holding held ∷ replicate 12 idle_session;
      order = list ++ replicate 13 0;
    }

-- all three active: session 2 began first, then session 0, then session 1
abbrev pub two_first : Desk
two_first = three (Active 6) (Active 6) (Active 4) (2 ∷ 0 ∷ 1 ∷ [])

-- what settle of session 3, which has the end 8, tells
abbrev pub settle_tells : Phase → Phase → Phase → List ℕ → Told
settle_tells p q r list = settle_told (settle_reply image (beside p q r (Published 8) list) 48 3).answer

pub record ListInDigits : Type 0 where
  -- coherent
  pub in_order : coherent_b two_first ≡ true
  pub equal-starts : coherent_b (three (Active 6) (Active 6) (Active 4) (2 ∷ 1 ∷ 0 ∷ [])) ≡ true
  pub nobody : coherent_b (three Idle Idle Idle (0 ∷ 0 ∷ 0 ∷ [])) ≡ true
  pub zero-alone : coherent_b (three (Active 6) Idle Idle (0 ∷ 0 ∷ 0 ∷ [])) ≡ true
  -- not: starts that fall, at neighbours and between the first and the last
  pub falls : coherent_b (three (Active 6) (Active 6) (Active 4) (0 ∷ 2 ∷ 1 ∷ [])) ≡ false
  pub falls-last : coherent_b (three (Active 6) (Active 7) (Active 4) (0 ∷ 1 ∷ 2 ∷ [])) ≡ false
  -- a session that is not listed, one that stands twice, one that is idle or sealed, a number that is no session
  pub missing : coherent_b (three (Active 6) (Active 6) (Active 4) (2 ∷ 0 ∷ 0 ∷ [])) ≡ false
  pub missing-alone : coherent_b (three Idle (Active 6) Idle (0 ∷ 0 ∷ 0 ∷ [])) ≡ false
  pub twice : coherent_b (three (Active 6) (Active 6) (Active 6) (2 ∷ 1 ∷ 2 ∷ [])) ≡ false
  pub idle : coherent_b (three Idle (Active 6) (Active 4) (2 ∷ 0 ∷ 0 ∷ [])) ≡ false
  pub sealed : coherent_b (beside Idle (Active 6) Idle (Sealed 5) (3 ∷ 0 ∷ 0 ∷ [])) ≡ false
  pub sixteen : coherent_b (three Idle (Active 6) Idle (16 ∷ 0 ∷ 0 ∷ [])) ≡ false
  -- a number behind the places in use
  pub behind : coherent_b (three Idle (Active 6) Idle (1 ∷ 2 ∷ 0 ∷ [])) ≡ false
  pub behind-again : coherent_b (three Idle (Active 6) Idle (1 ∷ 1 ∷ 0 ∷ [])) ≡ false
  -- begin of session 3 adds behind, of session 0 where it cannot be told from a place that is not used
  pub begun : (begin_reply two_first 3).desk.order ≡ 2 ∷ 0 ∷ 1 ∷ 3 ∷ replicate 12 0
  pub begun-zero : (begin_reply (three Idle (Active 6) Idle (1 ∷ 0 ∷ 0 ∷ [])) 0).desk.order ≡ 1 ∷ 0 ∷ 0 ∷ replicate 13 0
  -- the first, session 0 in the middle, and the last go out
  pub first_out : (abandon_reply two_first 2).desk.order ≡ 0 ∷ 1 ∷ 0 ∷ replicate 13 0
  pub middle-out : (abandon_reply two_first 0).desk.order ≡ 2 ∷ 1 ∷ 0 ∷ replicate 13 0
  pub last_out : (abandon_reply two_first 1).desk.order ≡ 2 ∷ 0 ∷ 0 ∷ replicate 13 0
  pub empty-out : (finish_reply image two_first 48 0).desk.order ≡ 2 ∷ 1 ∷ 0 ∷ replicate 13 0
  pub taken_out : (write_reply image (beside (Active 6) (Active 6) (Active 4) (Sealed 5) (2 ∷ 0 ∷ 1 ∷ [])) 0 0 (1 ∷ 2 ∷ 3 ∷ 4 ∷ [])).desk.order
      ≡ 2 ∷ 1 ∷ 0 ∷ replicate 13 0
  -- settle names the lowest of the front run, whoever stands in front
  pub one : settle_tells (Active 6) (Active 6) (Active 4) (2 ∷ 0 ∷ 1 ∷ []) ≡ wait 2
  pub lowest : settle_tells (Active 6) (Active 6) (Active 7) (1 ∷ 0 ∷ 2 ∷ []) ≡ wait 0
  pub lowest-last : settle_tells (Active 7) (Active 6) (Active 6) (2 ∷ 1 ∷ 0 ∷ []) ≡ wait 1
  pub zero-later : settle_tells (Active 7) Idle (Active 6) (2 ∷ 0 ∷ 0 ∷ []) ≡ wait 2
  pub zero-idle : settle_tells Idle Idle (Active 6) (2 ∷ 0 ∷ 0 ∷ []) ≡ wait 2
  -- a start at the end is in nobody's way, and nobody is
  pub at-end : settle_tells (Active 8) (Active 8) (Active 9) (0 ∷ 1 ∷ 2 ∷ []) ≡ ok
  pub alone : settle_tells Idle Idle Idle (0 ∷ 0 ∷ 0 ∷ []) ≡ ok
