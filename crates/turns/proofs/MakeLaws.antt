-- Laws of a step that is made: a cut leaves the first of its entries made; for what steps a cut waits; and the sizes that fit.
use Prim.Native.Nat.{ℕ, ◌+◌, ◌*◌, ◌≤◌}
use mathlib.Core.Path.{◌≡◌, refl, sym, ap, ◌∙◌}
use mathlib.Core.List.{List, [], ◌∷◌}
use native.Mathlib.Omega.{arith}
use borrow.Author.Tests.{le-ltb, le-leb}
use lib.ListN.{length, set, take, length-set}
use Rattle.layout.specs.Entries.{Entry, store, fence, made, listed}
use Rattle.desk.specs.declared.state.Desk.{Desk}
use Rattle.steps.specs.Apply.{applied_of, applied_entries}
use Rattle.steps.specs.Cut.{overlaid, replayed, arriving, cut_back}
use Rattle.codec.specs.Steps.{step_of}
use Rattle.steps.specs.declared.applying.Applied.{Applied}
use Rattle.codec.specs.declared.step.Step.{Step}
use Rattle.codec.specs.declared.step.Step.TheVariants.{Lay, Begin, Read, Write, Finish, Publish, Settle, Reclaim, Abandon, Cut}
use Rattle.steps.proofs.ApplyLaws.{applied-counted}
use Rattle.steps.proofs.CutLaws.{overlaid-same, cut-made}
use Rattle.turns.specs.Make.{AllFit, CutWaits, CutKinds}

length-made : (es : List Entry) (img : List ℕ) → length (made es img) ≡ length img
length-made [] img = refl
length-made (store i w ∷ es) img = length-made es (set img i w) ∙ length-set img i w
length-made (fence ∷ es) img = length-made es img

-- an image that was kept in a slice at least as long comes back whole
overlaid-back : (xs ys zs : List ℕ) → length xs ≤ length ys → length xs ≡ length zs → overlaid (overlaid xs ys) zs ≡ xs
overlaid-back [] [] [] h e = refl
overlaid-back [] (y ∷ ys) [] h e = refl
overlaid-back [] ys (z ∷ zs) h e = absurd (omega arith)
overlaid-back (x ∷ xs) [] zs h e = absurd (omega arith)
overlaid-back (x ∷ xs) (y ∷ ys) [] h e = absurd (omega arith)
overlaid-back (x ∷ xs) (y ∷ ys) (z ∷ zs) h e = ap (λ (l : List ℕ). x ∷ l) (overlaid-back xs ys zs (omega arith) (omega arith))

-- a step that is made on an image that was kept, and then cut back
cut-leaves : (k : ℕ) (es : List Entry) (img before trace : List ℕ) → length img ≤ length before → length img ≤ 0xffff_ffff_ffff_ffff
    → cut_back (made es img) (overlaid img before) (listed es trace) (length es) k ≡ made (take k es) img
cut-leaves k es img before trace h n =
    let e = sym (length-made es img) in
    ap (replayed (arriving (length es) k) (listed es trace)) (overlaid-back img before (made es img) h e ∙ sym (overlaid-same img (made es img) e))
    ∙ cut-made k es (made es img) img trace e n

-- the same, of what the calls before have left
pub cut-after : (k : ℕ) (img before trace : List ℕ) (d : Desk) (step : Step) {img' before' trace' out : List ℕ} {a : Applied}
    → a ≡ applied_of img d (length trace) step → img' ≡ made (applied_entries img d (length trace) step) img
    → before' ≡ overlaid img before → trace' ≡ listed (applied_entries img d (length trace) step) trace
    → out ≡ cut_back img' before' trace' a.entries k → length img ≤ length before → length img ≤ 0xffff_ffff_ffff_ffff
    → out ≡ made (take k (applied_entries img d (length trace) step)) img
cut-after k img before trace d step q i b t o h f =
    let n = ap (λ (a : Applied). a.entries) q ∙ applied-counted img d (length trace) step in
    o ∙ rw (i, b, t, n) (cut-leaves k (applied_entries img d (length trace) step) img before trace h f)

pub all_fit : AllFit
all_fit memory n m h p q = rw (le-ltb 256 n p, le-ltb 16 m q, le-leb (4 + 4 * n + 44 * m) memory (omega (arith, h, p, q))) refl

-- a cut waits for every step that stores
pub cut-waits : CutWaits
cut-waits img d len (Lay n m) e = refl
cut-waits img d len (Begin s) e = refl
cut-waits img d len (Read s r) e = refl
cut-waits img d len (Write s r ws) e = refl
cut-waits img d len (Finish s) e = cc
cut-waits img d len (Publish s) e = cc
cut-waits img d len (Settle s) e = cc
cut-waits img d len (Reclaim s) e = cc
cut-waits img d len (Abandon s) e = refl
cut-waits img d len (Cut k) e = refl

pub cut-kinds : CutKinds
unfolding step_of
cut-kinds a b ws = refl
