-- Laws of bytes put into a buffer: some bytes and then others, and none.
use mathlib.Core.Path.{◌≡◌, refl, ap, ◌∙◌}
use mathlib.Core.List.{List, [], ◌∷◌, ◌++◌}
use Prim.Native.Nat.{ℕ, ◌+◌}
use native.Mathlib.Omega.{arith}
use lib.ListN.{length, set, length-append}
use Rattle.lines.specs.Put.{put, Put}

pub put-append : (at : ℕ) (xs bs out : List ℕ) → put at (xs ++ bs) out ≡ put (at + length xs) bs (put at xs out)
put-append at [] bs out = ap (λ n. put n bs out) (omega arith)
put-append at (a ∷ xs) bs out =
    put-append (at + 1) xs bs (set out at a) ∙ ap (λ n. put n bs (put (at + 1) xs (set out at a))) (omega arith)

-- some bytes, and then others
pub and_then : {xs bs out out₁ out₂ : List ℕ} {at r s : ℕ} → Put xs at out out₁ r → Put bs r out₁ out₂ s → Put (xs ++ bs) at out out₂ s
and_then {xs} {bs} {out} {out₁} {out₂} {at} {r} {s} p q =
    record {
      wrote = q.wrote ∙ ap (put r bs) p.wrote ∙ ap (λ n. put n bs (put at xs out)) p.next ∙ rw put-append;
      next = simp length-append (omega (arith, p.next, q.next));
    }

-- nothing was put
pub put-none : {at : ℕ} {out : List ℕ} → Put [] at out out at
put-none = record { wrote = refl; next = omega arith }
