-- Laws of every list of entries (document 01, "Stores and fences").
use Rattle.std.specs.Prelude.{ℕ, ◌+◌, ◌*◌, ◌≡◌, List, length}
use Rattle.layout.specs.Ceiling.{raise_entries}
use Rattle.layout.specs.Tidy.{Tidy}
use Rattle.journal.specs.Lengths.{finish_length, settle_length, recover_length}
use Rattle.desk.specs.Publish.{publish_fault, publish_entries, publish_reply}
use Rattle.desk.specs.Group.{group_fault, group_entries, group_reply}
use Rattle.desk.specs.declared.state.Desk.{Desk}
use Rattle.commit.specs.Finish.{finish_fault, finish_entries, finish_reply}
use Rattle.commit.specs.Settle.{settle_fault, settle_entries, settle_reply}
use Rattle.commit.specs.Reclaim.{reclaim_fault, reclaim_entries, clear_entries, reclaim_reply}
use Rattle.listening.specs.Finish.{listen_finish_reply}
use Rattle.recovery.specs.Open.{open_fault, open_entries, open_reply}
use Rattle.recovery.specs.Recover.{recover_fault, recover_entries, recover_reply}

pub record Lists : Type 0 where
  pub opens : (img : List ℕ) (len : ℕ) → Tidy (open_fault img len) (open_reply img len).entries (open_entries img len)
  pub finish : (img : List ℕ) (d : Desk) (len s : ℕ)
      → Tidy (finish_fault img d len s) (finish_reply img d len s).entries (finish_entries img d len s)
  pub publish : (img : List ℕ) (d : Desk) (len s : ℕ)
      → Tidy (publish_fault img d len s) (publish_reply img d len s).entries (publish_entries img d len s)
  pub group : (img : List ℕ) (d : Desk) (len set : ℕ)
      → Tidy (group_fault img d len set) (group_reply img d len set).entries (group_entries img d len set)
  pub settle : (img : List ℕ) (d : Desk) (len s : ℕ)
      → Tidy (settle_fault img d len s) (settle_reply img d len s).entries (settle_entries img d len s)
  pub reclaim : (img : List ℕ) (d : Desk) (len s : ℕ)
      → Tidy (reclaim_fault img d len s) (reclaim_reply img d len s).entries (reclaim_entries img d len s)
  -- the listening room's finish lists none
  pub listen-finish : (img : List ℕ) (d : Desk) (len s : ℕ) → (listen_finish_reply img d len s).entries ≡ 0
  pub recover : (img : List ℕ) (len : ℕ) → Tidy (recover_fault img len) (recover_reply img len).entries (recover_entries img len)
  -- two entries each; `FinishDue`, `SettleDue` and `RecoverDue` have how many finish, settle and recover list
  pub reclaim-count : (img : List ℕ) (d : Desk) (s : ℕ) → length (clear_entries img d s) ≡ 2
  pub raise-count : (clock : ℕ) → length (raise_entries clock) ≡ 2

-- The table of document 02's Req 04, number by number: each is document 01's formula, 5c + 4, 4c + 1 or 4c + 3, for c copies.
pub record LengthTable : Type 0 where
  pub finish-1 : finish_length 1 ≡ 5 * 1 + 4
  pub finish-2 : finish_length 2 ≡ 5 * 2 + 4
  pub finish-3 : finish_length 3 ≡ 5 * 3 + 4
  pub finish-4 : finish_length 4 ≡ 5 * 4 + 4
  pub settle-1 : settle_length 1 ≡ 4 * 1 + 1
  pub settle-2 : settle_length 2 ≡ 4 * 2 + 1
  pub settle-3 : settle_length 3 ≡ 4 * 3 + 1
  pub settle-4 : settle_length 4 ≡ 4 * 4 + 1
  pub recover-1 : recover_length 1 ≡ 4 * 1 + 3
  pub recover-2 : recover_length 2 ≡ 4 * 2 + 3
  pub recover-3 : recover_length 3 ≡ 4 * 3 + 3
  pub recover-4 : recover_length 4 ≡ 4 * 4 + 3
