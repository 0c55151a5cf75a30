-- What is due of a settle that answers ok, on any image and desk, entry by entry (document 01, "Settle"): all four words of each copy, whether
-- they differ from home or not and whichever form the log has (document 02, Req 08), and a fence.
use Rattle.std.specs.Prelude.{ℕ, ◌+◌, ◌*◌, ◌<◌, ◌≡◌, List, length}
use Rattle.layout.specs.Entries.{store, fence}
use Rattle.layout.specs.Told.{ok}
use Rattle.desk.specs.Desk.{copied_rec, session_at}
use Rattle.desk.specs.declared.state.Desk.{Desk}
use Rattle.history.specs.Call.{settle}
use Rattle.claims.specs.ByEntry.{entry}
use Rattle.claims.specs.FinishDue.{copy_word}
use Rattle.claims.specs.Rules.{Reply, Rules}

-- the copies in the order of their first writes; `count` is the number of entries that it gives
pub record GoesHome (d : Desk) (s : ℕ) (y : Reply) : Type 0 where
  pub words : (j m : ℕ) → j < (session_at d s).count → m < 4
      → entry y.entries (4 * j + m) ≡ store (4 + 4 * copied_rec (session_at d s) j + m) (copy_word d s j m)
  pub last : entry y.entries (4 * (session_at d s).count) ≡ fence
  pub size : length y.entries ≡ 4 * (session_at d s).count + 1
  pub count : y.count ≡ length y.entries

abbrev pub SettleDue : Rules → Type 0
SettleDue R = (img : List ℕ) (d : Desk) (len s : ℕ) → (R.call img d (settle len s)).told ≡ ok → GoesHome d s (R.call img d (settle len s))
