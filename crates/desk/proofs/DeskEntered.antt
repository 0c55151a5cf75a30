-- What a session call without an image may go by past its first checks.
use Prim.Native.Nat.{ℕ, ◌+◌, ◌^◌, ◌<◌, ◌≤◌}
use mathlib.Core.Bool.{true, false, false≢true}
use mathlib.Core.Path.{◌≡◌, refl}
use native.Mathlib.Omega.{arith}
use lib.Dec.{ltb}
use borrow.Author.Tests.{ltb-true}
use Rattle.layout.specs.Checks.{unless}
use Rattle.layout.proofs.ChecksLaws.{first-both, unless-zero}
use Rattle.desk.specs.declared.state.Desk.{Desk}
use Rattle.desk.specs.declared.state.Session.{Session}
use Rattle.desk.specs.declared.state.Phase.{Phase}
use Rattle.desk.specs.declared.state.Phase.TheVariants.{Idle, Active, Sealed, Published}
use Rattle.desk.specs.Desk.{copy_at, session_at, is_idle, is_active, active_at, active_count}
use Rattle.desk.specs.Coherent.{coherent_b}
use Rattle.desk.specs.Entering.{session_fault, desk_fault}
use Rattle.layout.proofs.Counts.{count_less}
use Rattle.desk.proofs.Facts.{count-four, SessionIn, Coherent, says-coherent}

pub record DeskEntered (d : Desk) (s : ℕ) : Type 0 where
  pub coherent : Coherent d
  pub below-m : s < d.m
  pub below-16 : s < 16

-- a coherent desk and a session below M
pub enters : (d : Desk) (s : ℕ) → coherent_b d ≡ true → ltb s d.m ≡ true → DeskEntered d s
enters d s e l =
    let h = (says-coherent d).yes e in
    let b = ltb-true s d.m l in
    record { coherent = h; below-m = b; below-16 = omega (arith, h.m-high) }

pub desk-entered : (d : Desk) (s : ℕ) → desk_fault d s ≡ 0 → DeskEntered d s
unfolding session_fault
desk-entered d s z =
    let h = first-both (unless (coherent_b d) 2) _ z in enters d s (unless-zero _ 1 h.0) (unless-zero _ 3 h.1)

-- a coherent clock can be moved on by one
pub clock-moves : (d : Desk) → Coherent d → d.clock + 1 < 2 ^ 64
clock-moves d h = omega (arith, h.clock-high)

-- the marks of its first copies can be taken away
pub markable : {clock n : ℕ} {e : Session} → SessionIn clock n e → n ≤ 256 → (count : ℕ) → count ≤ e.count
    → (count ≤ 4) × ((j : ℕ) → j < count → (copy_at e j).rec < 256)
markable {clock} {n} {e} h w count l =
    let m = count-four e.phase e.count h.count in
    (omega arith, λ j k. let b = ((h.places j (omega arith)).0 (omega arith)).0 in omega arith)

-- an idle session is not active
pub idle-inactive : (p : Phase) → is_idle p ≡ true → is_active p ≡ false
idle-inactive Idle e = refl
idle-inactive (Active b) e = absurd (false≢true e)
idle-inactive (Sealed q) e = refl
idle-inactive (Published q) e = refl

-- so that there is a place behind the active ones
pub joinable : (d : Desk) (s : ℕ) → DeskEntered d s → is_idle (session_at d s).phase ≡ true → active_count d < 16
joinable d s e i = count_less (active_at d) 16 s e.below-16 (idle-inactive (session_at d s).phase i)
