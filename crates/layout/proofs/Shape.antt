-- What the tests of sizes and of an image's header say, as plain facts.
use Prim.Native.Nat.{ℕ, ◌≤◌}
use mathlib.Core.Path.{◌≡◌}
use mathlib.Core.List.{List}
use lib.ListN.{length}
use lib.Dec.{eqb}
use borrow.Author.Tests.{eqb-true}
use Rattle.layout.specs.Checks.{unless}
use Rattle.layout.proofs.ChecksLaws.{unless-zero, first-both}
use Rattle.layout.specs.Lay.{lay_fault}
use Rattle.layout.specs.Image.{word, records_of, sessions_of, in_range, size_of, shaped_b}
use Rattle.layout.proofs.Says.{Says, says-le, says_eq, says-and, says-by}

-- N is 1 to 256 and M is 1 to 16
pub record InRange (n m : ℕ) : Type 0 where
  pub n-low : 1 ≤ n
  pub n-high : n ≤ 256
  pub m-low : 1 ≤ m
  pub m-high : m ≤ 16

pub says_range : (n m : ℕ) → Says (in_range n m) (InRange n m)
says_range n m =
    says-by (says-and (says-and (says-and (says-le 1 n) (says-le n 256)) (says-le 1 m)) (says-le m 16))
    (λ t. record { n-low = t.0.0.0; n-high = t.0.0.1; m-low = t.0.1; m-high = t.1 })
    (λ r. (((r.n-low, r.n-high), r.m-low), r.m-high))

-- header and length are right
pub record Shaped (img : List ℕ) : Type 0 where
  pub mark : word img 0 ≡ 1
  pub range : InRange (records_of img) (sessions_of img)
  pub size : length img ≡ size_of (records_of img) (sessions_of img)

pub says-shaped : (img : List ℕ) → Says (shaped_b img) (Shaped img)
unfolding shaped_b
says-shaped img =
    says-by (says-and (says-and (says_eq (word img 0) 1) (says_range (records_of img) (sessions_of img))) (says_eq (length img) (size_of (records_of img) (sessions_of img))))
    (λ t. record { mark = t.0.0; range = t.0.1; size = t.1 })
    (λ r. ((r.mark, r.range), r.size))

-- a lay that is not refused has the exact length
pub lay-size : (n m size : ℕ) → lay_fault n m size ≡ 0 → size ≡ size_of n m
unfolding lay_fault
lay-size n m size e = eqb-true _ _ (unless-zero (eqb size (size_of n m)) 0 (first-both (unless (in_range n m) 14) _ e).1)
