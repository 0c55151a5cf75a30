-- What it means that a call of the store gives what is due, and what image and desk are asked of.
use Prim.Native.Nat.{ℕ, ◌<◌, ◌≤◌}
use mathlib.Core.Path.{◌≡◌, sym, ◌∙◌}
use mathlib.Core.Bool.{Bool, true}
use mathlib.Core.List.{List}
use lib.Dec.{ltb}
use lib.ListN.{length}
use borrow.Author.Tests.{eq-eqb, le-leb}
use Rattle.layout.specs.Checks.{unless, first}
use Rattle.layout.specs.Entries.{Entry}
use Rattle.layout.specs.Image.{records_of, sessions_of, shaped_b, ceiling_of}
use Rattle.layout.specs.Told.{Told}
use Rattle.desk.specs.Desk.{session_at}
use Rattle.desk.specs.declared.state.Desk.{Desk}
use Rattle.desk.proofs.Facts.{Coherent, says-coherent}
use Rattle.desk.specs.Entering.{entry_fault, image_fault}
use Rattle.history.specs.Call.{Call}
use Rattle.history.specs.Due.{Due}
use Rattle.history.specs.Ledger.{note_desk}
use Rattle.claims.proofs.Abstraction.{abs}

-- what a call on the desk d tells and stores is due, and the desk that it gives is the one that is noted; f has the slots' numbers
pub record Sim (c : Call) (f : ℕ → ℕ) (d : Desk) (t : Told) (es : List Entry) (d' : Desk) (y : Due) : Type 0 where
  pub answers : t ≡ y.answer
  pub stored : es ≡ y.entries
  pub desk : abs d' ≡ note_desk c y.answer f (abs d)

-- image and desk of one store with N records and M sessions, as the calls leave them
pub record Ready (N M : ℕ) (img : List ℕ) (d : Desk) : Type 0 where
  pub shaped : shaped_b img ≡ true
  pub records : records_of img ≡ N
  pub sessions : sessions_of img ≡ M
  pub n-same : d.n ≡ N
  pub m-same : d.m ≡ M
  pub under : d.clock ≤ ceiling_of img
  pub coherent : Coherent d
  pub holders-long : length d.holders ≡ 256
  pub sessions-long : length d.sessions ≡ 16
  pub copies-long : (s : ℕ) → s < 16 → length (session_at d s).copies ≡ 4
  pub order-long : length d.order ≡ 16

-- there the checks 1 and 2 pass
pub ready-fault : (N M : ℕ) (img : List ℕ) (d : Desk) (room : Bool) (s : ℕ) → Ready N M img d → image_fault img d room s ≡ first (unless room 3) (unless (ltb s d.m) 4)
unfolding entry_fault first
ready-fault N M img d room s h =
    rw (h.shaped, (says-coherent d).no h.coherent, eq-eqb d.n (records_of img) (h.n-same ∙ sym h.records), eq-eqb d.m (sessions_of img) (h.m-same ∙ sym h.sessions), le-leb d.clock (ceiling_of img) h.under)
