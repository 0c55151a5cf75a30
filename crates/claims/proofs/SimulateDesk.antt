-- Begin and abandon do what the abstract calls do.
use Prim.Native.Nat.{ℕ, ◌<◌}
use mathlib.Core.Path.{◌≡◌, refl}
use mathlib.Core.Logic.{⊎_elim}
use mathlib.Core.Bool.{Bool, true, false, cond}
use mathlib.Core.List.{List, []}
use native.Mathlib.Omega.{arith}
use lib.Dec.{leb}
use borrow.Author.Tests.{leb-false}
use Rattle.std.specs.Prelude.{⊤}
use Rattle.layout.specs.Image.{ceiling_of}
use Rattle.layout.specs.Checks.{unless, first, answered}
use Rattle.desk.specs.Desk.{session_at, is_idle, is_active, with_phase, joined}
use Rattle.desk.specs.Begin.{begin_fault, begin_refused, begun, begin_reply}
use Rattle.desk.specs.Abandon.{abandon_fault, abandon_refused, abandoned, abandon_reply}
use Rattle.desk.specs.declared.state.Phase.{Phase}
use Rattle.desk.specs.declared.state.Phase.TheVariants.{Idle, Active, Sealed, Published}
use Rattle.desk.specs.declared.state.Session.{Session}
use Rattle.desk.specs.declared.state.Desk.{Desk}
use Rattle.desk.specs.declared.reply.Reply.{Reply}
use Rattle.desk.proofs.Facts.{SessionIn}
use Rattle.layout.specs.Refusal.{cause}
use Rattle.layout.specs.Told.{refusal, ok, start}
use Rattle.desk.specs.Told.{begin_told, abandon_told}
use Rattle.history.specs.Call.{begin, abandon}
use Rattle.history.specs.Desk.{active}
use Rattle.history.specs.Due.{Due, refuse, begins, abandons, due_of}
use Rattle.history.specs.History.{History}
use Rattle.claims.proofs.Abstraction.{abs, pack, copies_of, txn-of}
use Rattle.claims.proofs.Simulation.{Sim, Ready}
use Rattle.claims.proofs.Entering.{desk-check, session-small, session-there, told, entered, emptied}

-- an idle session in order has no copies, and no slot
idle-empty : (clock n : ℕ) (e : Session) → SessionIn clock n e → e.phase ≡ Idle → (b : ℕ) → pack (with_phase e (Active b)) ≡ active b 0 []
idle-empty clock n e h i b =
    let none : e.count ≡ 0 = rw i at h.count in
    let low : e.slot ≡ 0 = ⊎_elim (λ l. absurd (omega arith)) (λ z. z) h.slot-none in
    rw (none, low)

module _ (N M : ℕ) (img : List ℕ) (d : Desk) (s : ℕ) (f : ℕ → ℕ) (k : History) (h : Ready N M img d) where
  -- the session's entry
  abbrev e : Session
  e = session_at d s

  -- what is due of a reply
  abbrev BeginSim : Reply ℕ → Due → Type 0
  BeginSim x y = Sim (begin s) f d (begin_told x.answer) [] x.desk y

  abbrev AbandonSim : Reply ⊤ → Due → Type 0
  AbandonSim x y = Sim (abandon s) f d (abandon_told x.answer) [] x.desk y

  -- begin takes the clock as the start
  pub begin-sim : BeginSim (begin_reply d s) (due_of N M f (ceiling_of img) (abs d) k (begin s))
  unfolding begin_reply begin_fault answered first cause
  begin-sim = rw (desk-check N M img d h s) (go (leb M s) (leb-false M s) e.phase refl)
    where
      go : (over : Bool) → (over ≡ false → s < M) → (p : Phase) → e.phase ≡ p
          → BeginSim (answered (first (cond over 4 0) (unless (is_idle p) 6)) (begin_refused d) (begun d s))
          (cond over (refuse 4) (begins d.clock (txn-of p e.slot (copies_of e))))
      go true b p i = told (begin s) f d (refusal 4) refl
      go false b Idle i =
          entered (begin s) f d (start d.clock) s (with_phase e (Active d.clock)) d.holders (joined d s) _ (session-there N M img d h s (b refl))
          (idle-empty d.clock d.n e (h.coherent.session s (session-small N M img d h s (b refl))) i d.clock)
          refl
      go false b (Active n) i = told (begin s) f d (refusal 6) refl
      go false b (Sealed n) i = told (begin s) f d (refusal 6) refl
      go false b (Published n) i = told (begin s) f d (refusal 6) refl

  -- abandon leaves the session idle
  pub abandon-sim : AbandonSim (abandon_reply d s) (due_of N M f (ceiling_of img) (abs d) k (abandon s))
  unfolding abandon_reply abandon_fault answered first cause
  abandon-sim = rw (desk-check N M img d h s) (go (leb M s) (leb-false M s) e.phase)
    where
      go : (over : Bool) → (over ≡ false → s < M) → (p : Phase)
          → AbandonSim (answered (first (cond over 4 0) (unless (is_active p) 6)) (abandon_refused d) (abandoned d s))
          (cond over (refuse 4) (abandons (txn-of p e.slot (copies_of e))))
      go true b p = told (abandon s) f d (refusal 4) refl
      go false b Idle = told (abandon s) f d (refusal 6) refl
      go false b (Active n) = emptied (abandon s) f d ok s (session-there N M img d h s (b refl)) refl
      go false b (Sealed n) = told (abandon s) f d (refusal 6) refl
      go false b (Published n) = told (abandon s) f d (refusal 6) refl
