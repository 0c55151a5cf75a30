-- Recovery after a cut (document 01, "Recover" and "The crash rule"): calls of recover, where power may fail again in any of them.
use Rattle.std.specs.Prelude.{ℕ, zero, suc, ◌+◌, ◌*◌, ◌≤◌, ◌<◌, Bool, ◌≡◌, List, [], ◌∷◌, ◌++◌, take}
use Rattle.layout.specs.Below.{count_below}
use Rattle.layout.specs.Crash.{arrived}
use Rattle.layout.specs.Entries.{Entry, made}
use Rattle.layout.specs.Image.{records_of, sessions_of, occupied_at}
use Rattle.layout.specs.Told.{clean, replayed}
use Rattle.claims.specs.Rules.{Rules}

module _ (R : Rules) where
  -- all that whole calls store, with traces of these lengths, one call's entries behind the other's
  unfoldable pub replays : List ℕ → List ℕ → List Entry
  replays [] img = []
  replays (len ∷ rest) img = (R.recover img len).entries ++ replays rest (made (R.recover img len).entries img)

  -- the image after them
  abbrev pub after_calls : List ℕ → List ℕ → List ℕ
  after_calls lens img = made (replays lens img) img

  -- the same where power fails behind them: of the stores that no fence follows those have arrived that are selected
  abbrev pub after_stop : List ℕ → (ℕ → Bool) → List ℕ → List ℕ
  after_stop lens sel img = arrived sel 0 (replays lens img) img

-- a run of recovery in which power fails: whole calls with traces of the lengths `whole`, then one with a trace of `last` words of which
-- the first `entries` are made; of the stores that no fence follows, whichever call's, those arrive that are selected
pub record Attempt : Type 0 where
  pub whole : List ℕ
  pub last : ℕ
  pub entries : ℕ
  pub arrives : ℕ → Bool

-- the image that it leaves, and that several leave, one after the other
unfoldable pub after_attempt : Rules → Attempt → List ℕ → List ℕ
after_attempt R a img =
    arrived a.arrives 0
    (replays R a.whole img ++ take a.entries (R.recover (after_calls R a.whole img) a.last).entries) img

unfoldable pub after_attempts : Rules → List Attempt → List ℕ → List ℕ
after_attempts R [] img = img
after_attempts R (a ∷ rest) img = after_attempts R rest (after_attempt R a img)

-- the image after n whole calls, the i-th, counted from 0, with a trace of 48 + x i words
unfoldable pub after_whole : Rules → (ℕ → ℕ) → ℕ → List ℕ → List ℕ
after_whole R x zero img = img
after_whole R x (suc n) img = after_whole R (λ i. x (suc i)) n (made (R.recover img (48 + x 0)).entries img)

-- the caller repeats until clean: whole calls answer "replayed" each time until "clean", after at most as many as there are occupied slots
pub record Ends (R : Rules) (x : ℕ → ℕ) (img : List ℕ) : Type 0 where
  pub calls : ℕ
  pub few : calls ≤ count_below (2 * sessions_of img) (occupied_at img (records_of img))
  pub replayed-each : (i : ℕ) → i < calls → (p : ℕ) × ((R.recover (after_whole R x i img) (48 + x i)).told ≡ replayed p)
  pub then-clean : (R.recover (after_whole R x calls img) (48 + x calls)).told ≡ clean
