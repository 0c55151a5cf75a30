-- The rules of a store: what opening, each session call and recover give, for every input. The demands take them as a parameter.
use Rattle.std.specs.Prelude.{ℕ, List, []}
use Rattle.layout.specs.Checks.{answered}
use Rattle.layout.specs.Entries.{Entry}
use Rattle.layout.specs.Told.{Told}
use Rattle.desk.specs.Begin.{begin_reply}
use Rattle.desk.specs.Abandon.{abandon_reply}
use Rattle.desk.specs.Publish.{publish_reply, publish_entries}
use Rattle.desk.specs.Group.{group_reply, group_entries}
use Rattle.desk.specs.Told.{begin_told, abandon_told, publish_told}
use Rattle.desk.specs.declared.state.Desk.{Desk}
use Rattle.snapshot.specs.Read.{read_reply}
use Rattle.snapshot.specs.Write.{write_reply}
use Rattle.snapshot.specs.Told.{read_told, write_told}
use Rattle.commit.specs.Finish.{finish_reply, finish_entries}
use Rattle.commit.specs.Settle.{settle_reply, settle_entries}
use Rattle.commit.specs.Reclaim.{reclaim_reply, reclaim_entries}
use Rattle.commit.specs.Told.{finish_told, settle_told, reclaim_told}
use Rattle.recovery.specs.Open.{open_reply, open_entries}
use Rattle.recovery.specs.Recover.{recover_reply, recover_entries}
use Rattle.recovery.specs.Told.{open_told, recover_told}
use Rattle.listening.specs.Read.{listen_read_reply}
use Rattle.listening.specs.Finish.{listen_finish_reply}
use Rattle.listening.specs.Find.{find_fault, find_reply, looked_at, look_gives}
use Rattle.listening.specs.Told.{find_told}
use Rattle.history.specs.Call.{Listening, Begin, Read, Finish, Find, Call, begin, read, write, abandon, finish, publish, group, settle, reclaim, listen}
use Rattle.history.specs.Looks.{Looks, no_looks}

-- what opening gives: what it tells, the entries that it stores, the number of entries that it answers, and the desk
pub record Opening : Type 0 where
  pub told : Told
  pub entries : List Entry
  pub count : ℕ
  pub desk : Desk

-- what a session call gives: what it tells, the entries that it stores, the number of entries that it answers, the desk, and the records
-- that it looks at, if it is a search
pub record Reply : Type 0 where
  pub told : Told
  pub entries : List Entry
  pub count : ℕ
  pub desk : Desk
  pub looks : Looks

-- what recover gives
pub record Recovery : Type 0 where
  pub told : Told
  pub entries : List Entry
  pub count : ℕ

-- opening and recover have an image and the length of their trace, a session call an image and a desk
pub record Rules : Type 0 where
  pub opens : List ℕ → ℕ → Opening
  pub call : List ℕ → Desk → Call → Reply
  pub recover : List ℕ → ℕ → Recovery

-- a call that stores nothing, and one that looks at records besides
abbrev pub tells : Told → Desk → Reply
tells t d = record { told = t; entries = []; count = 0; desk = d; looks = no_looks }

abbrev pub searching : Told → Desk → Looks → Reply
searching t d x = record { told = t; entries = []; count = 0; desk = d; looks = x }

-- the records that find looks at: none where it is refused
abbrev pub find_looks : List ℕ → Desk → ℕ → ℕ → Looks
find_looks img d s k = answered (find_fault img d s k) (λ j. no_looks) (record { number = looked_at img d s k; gives = look_gives img d s })

-- the listening room's calls; its finish lists no entries
abbrev pub listening_call : List ℕ → Desk → Listening → Reply
listening_call img d (Begin s) = tells (begin_told (begin_reply d s).answer) (begin_reply d s).desk
listening_call img d (Read s r) = tells (read_told (listen_read_reply img d s r).answer) (listen_read_reply img d s r).desk
listening_call img d (Finish len s) =
    record {
      told = finish_told (listen_finish_reply img d len s).answer;
      entries = [];
      count = (listen_finish_reply img d len s).entries;
      desk = (listen_finish_reply img d len s).desk;
      looks = no_looks;
    }
listening_call img d (Find s k) = searching (find_told (find_reply img d s k).answer) (find_reply img d s k).desk (find_looks img d s k)

abbrev pub store_call : List ℕ → Desk → Call → Reply
store_call img d (begin s) = tells (begin_told (begin_reply d s).answer) (begin_reply d s).desk
store_call img d (read s r) = tells (read_told (read_reply img d s r).answer) (read_reply img d s r).desk
store_call img d (write s r ws) = tells (write_told (write_reply img d s r ws).answer) (write_reply img d s r ws).desk
store_call img d (abandon s) = tells (abandon_told (abandon_reply d s).answer) (abandon_reply d s).desk
store_call img d (finish len s) =
    record {
      told = finish_told (finish_reply img d len s).answer;
      entries = finish_entries img d len s;
      count = (finish_reply img d len s).entries;
      desk = (finish_reply img d len s).desk;
      looks = no_looks;
    }
store_call img d (publish len s) =
    record {
      told = publish_told (publish_reply img d len s).answer;
      entries = publish_entries img d len s;
      count = (publish_reply img d len s).entries;
      desk = (publish_reply img d len s).desk;
      looks = no_looks;
    }
store_call img d (group len set) =
    record {
      told = publish_told (group_reply img d len set).answer;
      entries = group_entries img d len set;
      count = (group_reply img d len set).entries;
      desk = (group_reply img d len set).desk;
      looks = no_looks;
    }
store_call img d (settle len s) =
    record {
      told = settle_told (settle_reply img d len s).answer;
      entries = settle_entries img d len s;
      count = (settle_reply img d len s).entries;
      desk = (settle_reply img d len s).desk;
      looks = no_looks;
    }
store_call img d (reclaim len s) =
    record {
      told = reclaim_told (reclaim_reply img d len s).answer;
      entries = reclaim_entries img d len s;
      count = (reclaim_reply img d len s).entries;
      desk = (reclaim_reply img d len s).desk;
      looks = no_looks;
    }
store_call img d (listen c) = listening_call img d c

-- the store's own rules: the definitions that its contracts cite
abbrev pub store_rules : Rules
store_rules =
    record {
      opens = λ img len.
          record {
            told = open_told (open_reply img len).answer;
            entries = open_entries img len;
            count = (open_reply img len).entries;
            desk = (open_reply img len).desk;
          };
      call = store_call;
      recover = λ img len.
          record { told = recover_told (recover_reply img len).answer; entries = recover_entries img len; count = (recover_reply img len).entries };
    }
