-- Lists of calls from an opening, by given rules.
use Rattle.std.specs.Prelude.{ℕ, ◌+◌, List, [], ◌∷◌, ◌++◌}
use Rattle.layout.specs.Entries.{Entry, made}
use Rattle.layout.specs.Image.{ceiling_of, home_words}
use Rattle.desk.specs.declared.state.Desk.{Desk}
use Rattle.history.specs.Call.{Call}
use Rattle.history.specs.Desk.{idle}
use Rattle.history.specs.Ledger.{Ledger, note}
use Rattle.claims.specs.Rules.{Rules, Reply}

-- image and desk, and the ledger of the calls so far with what they told
pub record World : Type 0 where
  pub image : List ℕ
  pub desk : Desk
  pub ledger : Ledger

-- the ledger at the opening: the clock is word 3 plus 1 and the new ceiling 1,024 above it (document 02, Req 05), all idle, all slots empty,
-- the opening records and an empty list
abbrev pub open_ledger : List ℕ → Ledger
open_ledger img =
    record {
      desk = record { clock = ceiling_of img + 1; session = λ s. idle };
      number = λ p. 0;
      ceiling = ceiling_of img + 1 + 1024;
      history = record { opening = home_words img; sealed = []; draft = λ s. []; start = λ s. 0 };
    }

-- behind an opening with a trace of len words: its stores are made
abbrev pub opened : Rules → List ℕ → ℕ → World
opened R img len = record { image = made (R.opens img len).entries img; desk = (R.opens img len).desk; ledger = open_ledger img }

-- what a call gives
unfoldable pub reply : Rules → World → Call → Reply
reply R w c = R.call w.image w.desk c

unfoldable pub step : Rules → World → Call → World
step R w c =
    record { image = made (reply R w c).entries w.image; desk = (reply R w c).desk; ledger = note c (reply R w c).told w.ledger }

unfoldable pub run : Rules → List Call → World → World
run R [] w = w
run R (c ∷ cs) w = run R cs (step R w c)

-- all that a list of calls stores, one call's entries behind the other's
unfoldable pub stored : Rules → List Call → World → List Entry
stored R [] w = []
stored R (c ∷ cs) w = (reply R w c).entries ++ stored R cs (step R w c)

-- all since the opening, its own entries first
abbrev pub since_opening : Rules → List ℕ → ℕ → List Call → List Entry
since_opening R img len calls = (R.opens img len).entries ++ stored R calls (opened R img len)
