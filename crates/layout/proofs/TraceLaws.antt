-- Laws of runs of entries: one run and then another, and what a run left of image and trace.
use mathlib.Core.Path.{◌≡◌, refl, ap, ◌∙◌}
use mathlib.Core.List.{List, [], ◌∷◌, ◌++◌, append-nil}
use Prim.Native.Nat.{ℕ, suc, ◌+◌, ◌*◌, ◌-◌, ◌≤◌}
use native.Mathlib.Nat.{zero-add}
use native.Mathlib.Numerals.{add-one}
use native.Mathlib.Omega.{arith}
use lib.ListN.{length, set, take, drop, length-append, length-drop, take-append-drop, drop_of_length-le}
use lib.Seq.{sets, take_all, sets-eq, take-set-le, drop-set-add}
use Rattle.layout.specs.Entries.{Entry, store, fence, made, encoded, listed, shift}
use Rattle.layout.specs.Trace.{written, Did, Fenced}

add-two : (n : ℕ) → n + 2 ≡ suc (suc n)
add-two n = omega arith

pub made-append : (es fs : List Entry) (img : List ℕ) → made (es ++ fs) img ≡ made fs (made es img)
made-append [] fs img = refl
made-append (store i w ∷ es) fs img = made-append es fs (set img i w)
made-append (fence ∷ es) fs img = made-append es fs img

pub shift-append : (base : ℕ) (es fs : List Entry) → shift base (es ++ fs) ≡ shift base es ++ shift base fs
shift-append base [] fs = refl
shift-append base (store i w ∷ es) fs = ap (λ l. store (base + i) w ∷ l) (shift-append base es fs)
shift-append base (fence ∷ es) fs = ap (λ l. fence ∷ l) (shift-append base es fs)

pub length_shift : (base : ℕ) (es : List Entry) → length (shift base es) ≡ length es
length_shift base [] = refl
length_shift base (store i w ∷ es) = ap suc (length_shift base es)
length_shift base (fence ∷ es) = ap suc (length_shift base es)

pub written-append : (at : ℕ) (es fs : List Entry) (t : List ℕ) → written at (es ++ fs) t ≡ written (at + 2 * length es) fs (written at es t)
written-append at [] fs t = ap (λ n. written n fs t) (omega arith)
written-append at (store i w ∷ es) fs t =
    written-append (at + 2) es fs (set (set t at i) (at + 1) w)
    ∙ ap (λ n. written n fs (written (at + 2) es (set (set t at i) (at + 1) w))) (omega arith)
written-append at (fence ∷ es) fs t =
    written-append (at + 2) es fs (set (set t at 0xffff_ffff_ffff_ffff) (at + 1) 0)
    ∙ ap (λ n. written n fs (written (at + 2) es (set (set t at 0xffff_ffff_ffff_ffff) (at + 1) 0))) (omega arith)

-- one run, and then another
pub and_then : {es fs : List Entry} {base at r s : ℕ} {p t p₁ t₁ p₂ t₂ : List ℕ}
    → Did es base at p t p₁ t₁ r → Did fs base r p₁ t₁ p₂ t₂ s → Did (es ++ fs) base at p t p₂ t₂ s
and_then {es} {fs} {base} {at} {r} {s} {p} {t} {p₁} {t₁} {p₂} {t₂} d e =
    record {
      stores = e.stores ∙ ap (made fs) d.stores ∙ rw made-append;
      lists =
          e.lists
          ∙ ap (written r (shift base fs)) d.lists
          ∙ ap (λ n. written n (shift base fs) (written at (shift base es) t)) d.next
          ∙ rw (shift-append, written-append, length_shift);
      next = simp length-append (omega (arith, d.next, e.next));
    }

-- a fence stores nothing
pub fenced : {base at r : ℕ} {p t t' : List ℕ} → Fenced at t t' r → Did (fence ∷ []) base at p t p t' r
fenced h = record { stores = refl; lists = h.lists; next = h.next }

-- nothing was done
pub did_none : {base at : ℕ} {p t : List ℕ} → Did [] base at p t p t at
did_none = record { stores = refl; lists = refl; next = omega arith }

pub length-encoded : (es : List Entry) → length (encoded es) ≡ 2 * length es
length-encoded [] = refl
length-encoded (store i w ∷ es) = omega (arith, length-encoded es)
length-encoded (fence ∷ es) = omega (arith, length-encoded es)

pub written-sets : (at : ℕ) (es : List Entry) (t : List ℕ) → written at es t ≡ sets t at (encoded es)
written-sets at [] t = refl
written-sets at (store i w ∷ es) t = written-sets (at + 2) es (set (set t at i) (at + 1) w) ∙ rw (add-two, add-one)
written-sets at (fence ∷ es) t = written-sets (at + 2) es (set (set t at 0xffff_ffff_ffff_ffff) (at + 1) 0) ∙ rw (add-two, add-one)

-- what is listed entry by entry from the trace's first word is the trace with the entries listed
pub written_listed : (es : List Entry) (t : List ℕ) → 2 * length es ≤ length t → written 0 es t ≡ listed es t
written_listed es t h =
    written-sets 0 es t
    ∙ sets-eq (encoded es) t 0 (omega (arith, length-encoded es))
    ∙ rw zero-add

-- a store through a part that starts at `base` is the store of the whole at the index that is listed
pub made-shift : (base : ℕ) (es : List Entry) (img : List ℕ) → made (shift base es) img ≡ take base img ++ made es (drop base img)
made-shift base [] img = rw take-append-drop
made-shift base (store i w ∷ es) img = made-shift base es (set img (base + i) w) ∙ rw (drop-set-add, take-set-le base img (base + i) w (omega arith))
made-shift base (fence ∷ es) img = made-shift base es img

-- a run from the trace's first word, as the trace with the entries listed
pub did_listed : {es : List Entry} {base r : ℕ} {p t p' t' : List ℕ}
    → Did es base 0 p t p' t' r → 2 * length es ≤ length t → t' ≡ listed (shift base es) t
did_listed {es} {base} {t = t} d h = d.lists ∙ written_listed (shift base es) t (omega (arith, length_shift base es))

-- a part that was lent from `a` to the end, `&mut xs[a..]`, and came back with the entries' stores made: the whole has them made at the indexes that are listed
pub made-tail : (a : ℕ) (es : List Entry) (xs ys : List ℕ)
    → ys ≡ made es (take (length xs - a) (drop a xs)) → take a xs ++ (ys ++ drop (length xs - a) (drop a xs)) ≡ made (shift a es) xs
made-tail a es xs ys e =
    let l : length (drop a xs) ≤ length xs - a = omega (arith, length-drop a xs) in
    rw (e, take_all (length xs - a) (drop a xs) l, drop_of_length-le (drop a xs) l, append-nil, made-shift)

-- entries of the whole image
pub shift_zero : (es : List Entry) → shift 0 es ≡ es
shift_zero [] = refl
shift_zero (store i w ∷ es) = rw (zero-add, shift_zero es)
shift_zero (fence ∷ es) = rw (shift_zero es)

pub did-listed-whole : {es : List Entry} {r : ℕ} {p t p' t' : List ℕ}
    → Did es 0 0 p t p' t' r → 2 * length es ≤ length t → t' ≡ listed es t
did-listed-whole {es} {t = t} d h = did_listed d h ∙ ap (λ l. listed l t) (shift_zero es)
