-- What is known of a session that holds copies, or none.
use Prim.Native.Nat.{ℕ}
use mathlib.Core.Bool.{Bool, true, false, not}
use mathlib.Core.Path.{◌≡◌}
use mathlib.Core.List.{List}
use borrow.Author.Tests.{lt-ltb, not-true, not-false}
use Rattle.layout.proofs.Says.{says-and, says-lt, says-itself}
use Rattle.desk.specs.Entering.{image_fault}
use Rattle.desk.specs.declared.state.Desk.{Desk}
use Rattle.desk.proofs.Entered.{entered}
use Rattle.listening.specs.Listener.{no_copies, holds_copies}

pub held-some : (d : Desk) (s : ℕ) → holds_copies d s ≡ true → no_copies d s ≡ false
held-some d s n = not-true _ ((says-and (says-lt s 16) (says-itself (not (no_copies d s)))).yes n).1

-- past the checks of an image the session is one of the sixteen
pub bare-entered : (img : List ℕ) (d : Desk) (room : Bool) (s : ℕ) → holds_copies d s ≡ false → image_fault img d room s ≡ 0 → no_copies d s ≡ true
bare-entered img d room s n z = not-false _ (rw (lt-ltb s 16 (entered img d room s z).small) at n)
