-- Laws of a cut: what keep copies, what the pairs of a trace are, and that the first k entries of a trace, made again, are the first k of the
-- list that it has.
use Prim.Native.Nat.{ℕ, zero, suc, ◌+◌, ◌*◌, ◌≤◌, ◌<◌}
use mathlib.Core.Bool.{Bool, true, false, cond}
use mathlib.Core.Path.{◌≡◌, refl, sym, ap, ◌∙◌}
use mathlib.Core.List.{List, [], ◌∷◌, ◌++◌}
use native.Mathlib.Omega.{arith}
use lib.Dec.{ltb, eqb}
use lib.ListN.{length, get_or, set, take, drop, length-set}
use lib.Seq.{set_out, take_all, take-length}
use borrow.Author.Tests.{eqb-true, ltb-true, ltb-false}
use Rattle.std.specs.Simd.{first_chunks}
use Rattle.layout.specs.Entries.{Entry, store, fence, made, encoded, listed}
use Rattle.steps.specs.Cut.{overlaid, entry_made, replayed, arriving, cut_back}

-- the first i words are copied, and one of the slices has no more
pub copied_all : (i : ℕ) (xs ys : List ℕ) → i ≤ length xs → i ≤ length ys → (i < length xs → i < length ys → ⊥)
    → take i xs ++ drop i ys ≡ overlaid xs ys
copied_all zero [] ys h k f = refl
copied_all zero (x ∷ xs) [] h k f = refl
copied_all zero (x ∷ xs) (y ∷ ys) h k f = absurd (f (omega arith) (omega arith))
copied_all (suc i) [] ys h k f = absurd (omega arith)
copied_all (suc i) (x ∷ xs) [] h k f = absurd (omega arith)
copied_all (suc i) (x ∷ xs) (y ∷ ys) h k f =
    ap (λ (l : List ℕ). x ∷ l) (copied_all i xs ys (omega arith) (omega arith) (λ a b. f (omega arith) (omega arith)))

-- over a slice of its own length the copy is all there is
pub overlaid-same : (xs ys : List ℕ) → length xs ≡ length ys → overlaid xs ys ≡ xs
overlaid-same [] [] h = refl
overlaid-same [] (y ∷ ys) h = absurd (omega arith)
overlaid-same (x ∷ xs) [] h = absurd (omega arith)
overlaid-same (x ∷ xs) (y ∷ ys) h = ap (λ (l : List ℕ). x ∷ l) (overlaid-same xs ys (omega arith))

arrived-by : (b : Bool) (i w : ℕ) (img : List ℕ) → eqb i 0xffff_ffff_ffff_ffff ≡ b → length img ≤ 0xffff_ffff_ffff_ffff
    → cond b img (set img i w) ≡ set img i w
arrived-by true i w img e h = sym (set_out img i w (omega (arith, eqb-true i 0xffff_ffff_ffff_ffff e)))
arrived-by false i w img e h = refl

-- the index of a fence is past the end of every image that a machine holds
pub arrived-set : (i w : ℕ) (img : List ℕ) → length img ≤ 0xffff_ffff_ffff_ffff → entry_made i w img ≡ set img i w
arrived-set i w img h = arrived-by (eqb i 0xffff_ffff_ffff_ffff) i w img refl h

pub arrived-out : (i w : ℕ) (img : List ℕ) → length img ≤ 0xffff_ffff_ffff_ffff → length img ≤ i → entry_made i w img ≡ img
arrived-out i w img h k = arrived-set i w img h ∙ set_out img i w k

-- the entries that pairs of words have, made one after the other
abbrev pub arrived : List (List ℕ) → List ℕ → List ℕ
arrived [] img = img
arrived (p ∷ ps) img = arrived ps (entry_made (get_or p 0 0) (get_or p 1 0) img)

-- the first n pairs of a trace are its first n entries; n is the count, or all the pairs that the trace has
pub arrived-replayed : (n k count : ℕ) (trace img : List ℕ) → 2 * k ≤ length trace → length trace < 2 * k + 2
    → n ≤ k → n ≤ count → (n < k → n < count → ⊥) → arrived (take n (first_chunks 2 k trace)) img ≡ replayed count trace img
arrived-replayed zero k zero trace img l h p q f = refl
arrived-replayed zero zero (suc count) [] img l h p q f = refl
arrived-replayed zero zero (suc count) (i ∷ []) img l h p q f = refl
arrived-replayed zero zero (suc count) (i ∷ w ∷ trace) img l h p q f = absurd (omega arith)
arrived-replayed zero (suc k) (suc count) trace img l h p q f = absurd (f (omega arith) (omega arith))
arrived-replayed (suc n) zero count trace img l h p q f = absurd (omega arith)
arrived-replayed (suc n) (suc k) zero trace img l h p q f = absurd (omega arith)
arrived-replayed (suc n) (suc k) (suc count) [] img l h p q f = absurd (omega arith)
arrived-replayed (suc n) (suc k) (suc count) (i ∷ []) img l h p q f = absurd (omega arith)
arrived-replayed (suc n) (suc k) (suc count) (i ∷ w ∷ trace) img l h p q f =
    arrived-replayed n k count trace (entry_made i w img) (omega arith) (omega arith) (omega arith) (omega arith)
    (λ a b. f (omega arith) (omega arith))

-- one pair more
pub arrived-more : (i : ℕ) (ps : List (List ℕ)) (img d : List ℕ) → i < length ps
    → entry_made (get_or (get_or ps i d) 0 0) (get_or (get_or ps i d) 1 0) (arrived (take i ps) img) ≡ arrived (take (suc i) ps) img
arrived-more i [] img d h = absurd (omega arith)
arrived-more zero (p ∷ ps) img d h = refl
arrived-more (suc i) (p ∷ ps) img d h = arrived-more i ps (entry_made (get_or p 0 0) (get_or p 1 0) img) d (omega arith)

replayed-encoded : (k : ℕ) (es : List Entry) (rest img : List ℕ) → k ≤ length es → length img ≤ 0xffff_ffff_ffff_ffff
    → replayed k (encoded es ++ rest) img ≡ made (take k es) img
replayed-encoded zero es rest img h n = refl
replayed-encoded (suc k) [] rest img h n = absurd (omega arith)
replayed-encoded (suc k) (store i w ∷ es) rest img h n =
    ap (replayed k (encoded es ++ rest)) (arrived-set i w img n)
    ∙ replayed-encoded k es rest (set img i w) (omega arith) (omega (arith, length-set img i w))
replayed-encoded (suc k) (fence ∷ es) rest img h n = replayed-encoded k es rest img (omega arith) n

-- the first k entries of a trace that has a list in front are the first k of the list
pub replayed-listed : (k : ℕ) (es : List Entry) (trace img : List ℕ) → k ≤ length es → length img ≤ 0xffff_ffff_ffff_ffff
    → replayed k (listed es trace) img ≡ made (take k es) img
replayed-listed k es trace img h n = replayed-encoded k es (drop (length (encoded es)) trace) img h n

taken-by : (b : Bool) (k : ℕ) (es : List Entry) → ltb k (length es) ≡ b → take (cond b k (length es)) es ≡ take k es
taken-by true k es e = refl
taken-by false k es e = take-length es ∙ sym (take_all k es (ltb-false k (length es) e))

arriving-most : (b : Bool) (n k : ℕ) → ltb k n ≡ b → cond b k n ≤ n
arriving-most true n k e = omega (arith, ltb-true k n e)
arriving-most false n k e = omega arith

-- a cut leaves the image of before the step with the first k of its entries made, all if it has fewer
pub cut-made : (k : ℕ) (es : List Entry) (img before trace : List ℕ) → length before ≡ length img → length before ≤ 0xffff_ffff_ffff_ffff
    → cut_back img before (listed es trace) (length es) k ≡ made (take k es) before
cut-made k es img before trace e n =
    ap (replayed (arriving (length es) k) (listed es trace)) (overlaid-same before img e)
    ∙ replayed-listed (arriving (length es) k) es trace before (arriving-most (ltb k (length es)) (length es) k refl) n
    ∙ ap (λ (l : List Entry). made l before) (taken-by (ltb k (length es)) k es refl)
