-- What the turns of the writing loops put, and bytes by another name.
use mathlib.Core.Path.{◌≡◌, refl, ap, sym, ◌∙◌}
use mathlib.Core.List.{List, [], ◌∷◌, ◌++◌, append_assoc, append-nil}
use Prim.Native.Nat.{ℕ, zero, suc, ◌+◌, ◌≤◌, ◌<◌}
use native.Mathlib.Numerals.{add-one}
use native.Mathlib.Omega.{arith}
use borrow.Rule.Slice.PartMut.{put_mid}
use lib.ListN.{length, get_or, take, drop, set}
use lib.Seq.{take-suc}
use Rattle.lines.specs.Put.{put, Put}
use Rattle.lines.specs.Line.{field, numbers, decimal_of}

put-below : (at : ℕ) (bs : List ℕ) (o : ℕ) (out : List ℕ) → put (suc at) bs (o ∷ out) ≡ o ∷ put at bs out
put-below at [] o out = refl
put-below at (b ∷ bs) o out = ap (λ n. put n bs (o ∷ set out at b)) (omega arith) ∙ put-below (at + 1) bs o (set out at b)

put-front : (k : ℕ) (bs out : List ℕ) → k ≡ length bs → k ≤ length out → bs ++ drop k out ≡ put 0 bs out
put-front zero [] out e h = refl
put-front zero (b ∷ bs) out e h = absurd (omega arith)
put-front (suc k) [] out e h = absurd (omega arith)
put-front (suc k) (b ∷ bs) [] e h = absurd (omega arith)
put-front (suc k) (b ∷ bs) (o ∷ out) e h =
    ap (λ (l : List ℕ). b ∷ l) (put-front k bs out (omega arith) (omega arith)) ∙ sym (put-below 0 bs b out)

put-mid : (at k : ℕ) (bs out : List ℕ) → k ≡ length bs → at + k ≤ length out → put_mid at k out bs ≡ put at bs out
put-mid zero k bs out e h = put-front k bs out e (omega arith)
put-mid (suc at) k bs [] e h = absurd (omega arith)
put-mid (suc at) k bs (o ∷ out) e h = ap (λ (l : List ℕ). o ∷ l) (put-mid at k bs out e (omega arith)) ∙ sym (put-below at bs o out)

-- bytes copied into a part of their own length
pub put_copied : (at k : ℕ) (bs part out : List ℕ) → k ≡ length bs → at + k ≤ length out → part ≡ bs → Put bs at out (put_mid at k out part) (at + length bs)
put_copied at k bs part out e h p = record { wrote = ap (put_mid at k out) p ∙ put-mid at k bs out e h; next = refl }

-- a byte, and then others
pub put-cons : {bs out out' : List ℕ} {at r b : ℕ} → Put bs (at + 1) (set out at b) out' r → Put (b ∷ bs) at out out' r
put-cons p = record { wrote = p.wrote; next = omega (arith, p.next) }

-- one byte
pub put_last : {out : List ℕ} {at b : ℕ} → Put (b ∷ []) at out (set out at b) (at + 1)
put_last = record { wrote = refl; next = refl }

-- the same bytes by another name
pub put_as : {bs cs out out' : List ℕ} {at r : ℕ} → bs ≡ cs → Put bs at out out' r → Put cs at out out' r
put_as e p = rw (← e) p

pub field-none : (t : List ℕ) → length t ≡ 0 → [] ≡ field t
field-none [] h = refl
field-none (b ∷ t) h = absurd (omega arith)

pub field-some : (t : List ℕ) → (length t ≡ 0 → ⊥) → 32 ∷ t ≡ field t
field-some [] h = absurd (h refl)
field-some (b ∷ t) h = refl

numbers-append : (ms ns : List ℕ) → numbers (ms ++ ns) ≡ numbers ms ++ numbers ns
numbers-append [] ns = refl
numbers-append (m ∷ ms) ns =
    ap (λ l. (32 ∷ decimal_of m) ++ l) (numbers-append ms ns) ∙ sym (append_assoc (32 ∷ decimal_of m) (numbers ms) (numbers ns))

pub numbers_more : (ns : List ℕ) (j : ℕ) → j < length ns → numbers (take j ns) ++ (32 ∷ decimal_of (get_or ns j 0)) ≡ numbers (take (j + 1) ns)
numbers_more ns j h =
    sym (ap (λ n. numbers (take n ns)) (add-one j)
    ∙ ap numbers (take-suc ns j 0 h)
    ∙ numbers-append (take j ns) (get_or ns j 0 ∷ [])
    ∙ ap (λ l. numbers (take j ns) ++ l) (append-nil (32 ∷ decimal_of (get_or ns j 0))))
