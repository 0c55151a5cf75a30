-- What holds once the checks 1, 2, 4 and 5 of read and write have passed.
use Prim.Native.Nat.{ℕ, ◌<◌}
use mathlib.Core.Bool.{true}
use mathlib.Core.Path.{◌≡◌}
use mathlib.Core.List.{List}
use native.Mathlib.Omega.{arith}
use lib.Dec.{ltb}
use borrow.Author.Tests.{ltb-true}
use Rattle.layout.proofs.ChecksLaws.{first-both, unless-zero}
use Rattle.desk.specs.declared.state.Desk.{Desk}
use Rattle.desk.specs.Entering.{image_fault, record_fault}
use Rattle.desk.proofs.Entered.{Entered, entered}

pub record RecordEntered (img : List ℕ) (d : Desk) (s r : ℕ) : Type 0 where
  pub session : Entered img d true s
  pub below : r < d.n
  pub small : r < 256

pub record-entered : (img : List ℕ) (d : Desk) (s r : ℕ) → record_fault img d s r ≡ 0 → RecordEntered img d s r
record-entered img d s r e =
    let k = first-both (image_fault img d true s) _ e in
    let h = entered img d true s k.0 in
    let l : r < d.n = ltb-true _ _ (unless-zero (ltb r d.n) 4 k.1) in
    record { session = h; below = l; small = omega (arith, h.coherent.n-high) }
