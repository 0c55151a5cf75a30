-- Every call keeps the invariant, and the ledger's slot numbers are the image's.
use Prim.Native.Nat.{ℕ}
use mathlib.Core.Path.{◌≡◌, sym, fun_ext}
use mathlib.Core.List.{List}
use lib.ListN.{get_or}
use Rattle.layout.specs.Entries.{made}
use Rattle.history.specs.Layout.{view}
use Rattle.history.specs.Call.{Call, begin, read, write, abandon, finish, publish, group, settle, reclaim, listen}
use Rattle.history.specs.Desk.{Desk}
use Rattle.history.specs.Due.{Due, due_of, due}
use Rattle.history.specs.History.{History}
use Rattle.history.specs.Ledger.{Ledger, note}
use Rattle.history.proofs.Kept.{Holds, Done}
use Rattle.history.proofs.KeptBegin.{begin-done}
use Rattle.history.proofs.KeptRead.{read-done}
use Rattle.history.proofs.KeptWrite.{write-done}
use Rattle.history.proofs.KeptAbandon.{abandon-done}
use Rattle.history.proofs.KeptFinish.{finish-done}
use Rattle.history.proofs.KeptPublish.{publish-done, group-done}
use Rattle.history.proofs.KeptSettle.{settle-done}
use Rattle.history.proofs.KeptReclaim.{reclaim-done}
use Rattle.history.proofs.KeptListening.{listening-done}

module _ (N M : ℕ) (img : List ℕ) (d : Desk) (h : History) (H : Holds N M img d h) where
  done : (c : Call) → Done N M img d h c (due_of N M (view N img).number (get_or img 3 0) d h c)
  done (begin s) = begin-done N M img d h H s
  done (read s r) = read-done N M img d h H s r
  done (write s r ws) = write-done N M img d h H s r ws
  done (abandon s) = abandon-done N M img d h H s
  done (finish len s) = finish-done N M img d h H len s
  done (publish len s) = publish-done N M img d h H len s
  done (group len set) = group-done N M img d h H len set
  done (settle len s) = settle-done N M img d h H len s
  done (reclaim len s) = reclaim-done N M img d h H len s
  done (listen c) = listening-done N M img d h H c

-- the invariant between the calls
pub record Held (N M : ℕ) (img : List ℕ) (L : Ledger) : Type 0 where
  pub holds : Holds N M img L.desk L.history
  pub numbers : L.number ≡ (view N img).number
  pub ceiling : L.ceiling ≡ get_or img 3 0

module _ (N M : ℕ) (img : List ℕ) (L : Ledger) (H : Held N M img L) (c : Call) where
  pub due-done : Done N M img L.desk L.history c (due N M L c)
  unfolding due
  due-done = rw (H.numbers, H.ceiling) (done N M img L.desk L.history H.holds c)

  held_after : (y : Due) → Done N M img L.desk L.history c y → Held N M (made y.entries img) (note c y.answer L)
  unfolding note
  held_after y a = record { holds = rw H.numbers a.kept; numbers = rw H.numbers (sym (fun_ext a.marks)); ceiling = rw H.ceiling (sym a.top) }

  pub due-held : Held N M (made (due N M L c).entries img) (note c (due N M L c).answer L)
  due-held = held_after (due N M L c) due-done
