-- The checks that calls share, as the abstract calls make them, and calls that change nothing or one session.
use Prim.Native.Nat.{ℕ, ◌<◌}
use mathlib.Core.Path.{◌≡◌, refl, sym, ◌∙◌}
use mathlib.Core.Bool.{true, cond}
use mathlib.Core.List.{List, []}
use native.Mathlib.Omega.{arith}
use lib.ListN.{length}
use lib.Dec.{leb, ltb}
use borrow.Author.Tests.{lt-ltb, le-ltb, leb-true, leb-false}
use Rattle.layout.specs.Checks.{unless, first}
use Rattle.layout.proofs.Says.{by-test}
use Rattle.desk.specs.Desk.{mark_at, idle_session, changed, without, rest_marks, dropped}
use Rattle.desk.specs.declared.state.Session.{Session}
use Rattle.desk.specs.declared.state.Desk.{Desk}
use Rattle.desk.proofs.Facts.{says-coherent}
use Rattle.desk.specs.Entering.{session_fault, desk_fault, image_fault}
use Rattle.layout.specs.Told.{Told}
use Rattle.history.specs.Call.{Call}
use Rattle.history.specs.Desk.{Session as Txn, idle, with_session, holder}
use Rattle.history.specs.Due.{say}
use Rattle.history.specs.Ledger.{note_desk}
use Rattle.claims.proofs.Abstraction.{abs, pack, abs-put, marked, holder-mark}
use Rattle.claims.proofs.Simulation.{Sim, Ready, ready-fault}

-- a number is refused where it is m or more
pub refused-from : (m s k : ℕ) → unless (ltb s m) k ≡ cond (leb m s) k 0
refused-from m s k =
    by-test (leb m s) (λ e. rw (e, le-ltb s m (leb-true m s e))) (λ e. rw (e, lt-ltb s m (leb-false m s e)))

module _ (N M : ℕ) (img : List ℕ) (d : Desk) (h : Ready N M img d) where
  -- of the shared checks of a call without an image only 4 can refuse
  pub desk-check : (s : ℕ) → desk_fault d s ≡ cond (leb M s) 4 0
  unfolding session_fault first
  desk-check s = rw ((says-coherent d).no h.coherent, h.m-same) (refused-from M s 4)

  -- and of those of a call with an image
  pub image-check : (s : ℕ) → image_fault img d true s ≡ cond (leb M s) 4 0
  unfolding first
  image-check s = ready-fault N M img d true s h ∙ rw h.m-same (refused-from M s 4)

  -- a record at or above N is refused by 5
  pub record-check : (r : ℕ) → unless (ltb r d.n) 5 ≡ cond (leb N r) 5 0
  record-check r = rw h.n-same (refused-from N r 5)

  -- a session below M is one of the sixteen
  pub session-small : (s : ℕ) → s < M → s < 16
  session-small s l = omega (arith, h.m-same, h.coherent.m-high)

  -- and has an entry
  pub session-there : (s : ℕ) → s < M → s < length d.sessions
  session-there s l = omega (arith, h.sessions-long, session-small s l)

  -- the holder that the abstract desk finds is the session that the mark names
  pub holder-named : (r : ℕ) → r < N → holder M (abs d) r ≡ marked (mark_at d r)
  holder-named r l = rw (← h.m-same) (holder-mark d h.coherent h.copies-long r (omega (arith, h.n-same, h.coherent.n-high)))

module _ (c : Call) (f : ℕ → ℕ) (d : Desk) (t : Told) where
  -- told, and nothing changed
  pub told : note_desk c t f (abs d) ≡ abs d → Sim c f d t [] d (say t)
  told n = record { answers = refl; stored = refl; desk = sym n }

  -- told, and another entry for one session
  pub entered : (s : ℕ) (e : Session) (hs os : List ℕ) (x : Txn) → s < length d.sessions → pack e ≡ x → note_desk c t f (abs d) ≡ with_session s x (abs d)
      → Sim c f d t [] (changed d s e d.clock hs os) (say t)
  entered s e hs os x l p n =
      record { answers = refl; stored = refl; desk = (rw (← p) (abs-put d d.clock d.n d.m s e hs l)) ∙ sym n }

  -- told, and one session idle with its marks and copies dropped
  pub emptied : (s : ℕ) → s < length d.sessions → note_desk c t f (abs d) ≡ with_session s idle (abs d) → Sim c f d t [] (dropped d s) (say t)
  emptied s l n = entered s idle_session (rest_marks d s) (without s d.order) idle l refl n
