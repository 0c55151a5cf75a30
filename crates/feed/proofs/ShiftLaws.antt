-- Bytes moved to the start of their buffer.
use Prim.Native.Nat.{ℕ, ◌+◌, ◌≤◌}
use mathlib.Core.List.{List, ◌++◌}
use mathlib.Core.Path.{◌≡◌, sym, ap, ◌∙◌}
use native.Mathlib.Nat.{zero-add}
use native.Mathlib.Omega.{arith}
use lib.ListN.{length, take, drop, length-drop}
use lib.Seq.{paste, take-paste, take_at, length-take-le}

-- what was moved stays in front of a part that was lent behind it
pub moved-kept : (b x y : List ℕ) (from n : ℕ) → from + n ≤ length b → n ≤ length x → x ≡ paste b 0 (drop from b) n
    → take n (take n x ++ y) ≡ take n (drop from b)
moved-kept b x y from n fits l e =
    take_at (take n x) y n (length-take-le n x l)
    ∙ rw e (ap (λ (k : ℕ). take k (paste b 0 (drop from b) n)) (sym (zero-add n))
    ∙ take-paste b 0 (drop from b) n (omega arith) (omega (arith, length-drop from b)))
