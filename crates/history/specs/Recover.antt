-- One step of recovery applies a log and empties its slot.
use Rattle.std.specs.Prelude.{ℕ, Bool, List}
use Rattle.journal.specs.Log.{denoted}
use Rattle.layout.specs.Entries.{Entry, made}
use Rattle.layout.specs.Crash.{crashed as cut}
use Rattle.history.specs.Batch.{batch}
use Rattle.layout.specs.Image.{slot_at}
use Rattle.history.specs.Layout.{body, log_of}

-- the entries that apply the log of slot p and empty the slot
abbrev pub replay_at : ℕ → List ℕ → ℕ → List Entry
replay_at N img p = batch (denoted (log_of (body N img p))) (slot_at N p) 0

-- a step that comes to its end, or is cut once its first k entries are made
pub data Reach : Type 0 where
  whole : Reach
  broken : ℕ → (ℕ → Bool) → Reach

abbrev pub reached : Reach → List Entry → List ℕ → List ℕ
reached whole es img = made es img
reached (broken k sel) es img = cut k sel es img
