-- Where bytes stand that were put into a buffer.
use Prim.Native.Nat.{ℕ, suc, ◌+◌, ◌≤◌}
use mathlib.Core.Path.{◌≡◌, sym, ap, ◌∙◌}
use mathlib.Core.List.{List, [], ◌∷◌, ◌++◌}
use native.Mathlib.Omega.{arith}
use native.Mathlib.Numerals.{add-one}
use lib.ListN.{length, set, take, drop, take-append-drop, length-set}
use lib.Seq.{append_snoc, take-suc-set, drop-set-lt}
use Rattle.lines.specs.Put.{put}

-- those before the place and those behind the bytes stay
put-between : (bs : List ℕ) (at : ℕ) (out : List ℕ) → at + length bs ≤ length out → put at bs out ≡ take at out ++ (bs ++ drop (at + length bs) out)
put-between [] at out l = let e : at ≡ at + 0 = omega arith in sym (take-append-drop at out) ∙ ap (λ (n : ℕ). take at out ++ drop n out) e
put-between (b ∷ bs) at out l =
    let here : suc at ≤ length out = omega arith in
    let next : at + 1 + length bs ≡ at + suc (length bs) = omega arith in
    put-between bs (at + 1) (set out at b) (omega (arith, length-set out at b))
    ∙ ap (λ (n : ℕ). take n (set out at b) ++ (bs ++ drop (at + 1 + length bs) (set out at b))) (add-one at)
    ∙ ap (λ (t : List ℕ). t ++ (bs ++ drop (at + 1 + length bs) (set out at b))) (take-suc-set out at b here)
    ∙ append_snoc (take at out) b (bs ++ drop (at + 1 + length bs) (set out at b))
    ∙ ap (λ (t : List ℕ). take at out ++ (b ∷ (bs ++ t))) (drop-set-lt (at + 1 + length bs) out at b (omega arith) ∙ ap (λ (n : ℕ). drop n out) next)

pub put_front : (bs out : List ℕ) → length bs ≤ length out → put 0 bs out ≡ bs ++ drop (length bs) out
put_front bs out l = let e : 0 + length bs ≡ length bs = omega arith in put-between bs 0 out (omega arith) ∙ ap (λ (n : ℕ). bs ++ drop n out) e
