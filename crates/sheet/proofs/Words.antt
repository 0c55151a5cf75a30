-- Words out of bytes, one more.
use Prim.Native.Nat.{ℕ, zero, suc, ◌+◌, ◌*◌, ◌/◌, ◌%◌, ◌<◌, ◌≤◌}
use mathlib.Core.Path.{◌≡◌, refl, sym, ap, ◌∙◌}
use mathlib.Core.Bool.{Bool, true, false, ◌&&◌, cond}
use mathlib.Core.List.{List, [], ◌∷◌, ◌++◌}
use native.Mathlib.Omega.{arith}
use native.Mathlib.Numerals.{add-one}
use lib.ListN.{length, set, take, drop, get_or}
use lib.Dec.{leb, eqb}
use lib.Seq.{append_snoc, drop-cons, drop-drop, get_or-drop, set_at, take_at}
use borrow.Author.Tests.{leb-true}
use Rattle.codec.specs.Bytes.{little}
use Rattle.sheet.specs.Bytes.{words_in, word_count}
use Rattle.sheet.specs.Laws.{word_at}

pub words-length : (k : ℕ) (bytes : List ℕ) → length (words_in k bytes) ≡ k
unfolding words_in
words-length zero bytes = refl
words-length (suc k) bytes = ap suc (words-length k (drop 8 bytes))

-- one word more, behind the others
words_snoc : (k : ℕ) (bytes : List ℕ) → words_in (suc k) bytes ≡ words_in k bytes ++ (little 8 (drop (8 * k) bytes) ∷ [])
unfolding words_in
words_snoc zero bytes = refl
words_snoc (suc k) bytes =
    let e : 8 + 8 * k ≡ 8 * suc k = omega arith in
    ap (λ (t : List ℕ). little 8 bytes ∷ t) (words_snoc k (drop 8 bytes))
    ∙ ap (λ (t : List ℕ). little 8 bytes ∷ (words_in k (drop 8 bytes) ++ (little 8 t ∷ []))) (drop-drop (8 * k) 8 bytes ∙ ap (λ (n : ℕ). drop n bytes) e)

-- word i is stored behind those before it
pub words-stored : (i : ℕ) (bytes buf : List ℕ) → i < length buf
    → set (words_in i bytes ++ drop i buf) i (little 8 (drop (8 * i) bytes)) ≡ words_in (i + 1) bytes ++ drop (i + 1) buf
words-stored i bytes buf l =
    let w = little 8 (drop (8 * i) bytes) in
    ap (λ (t : List ℕ). set (words_in i bytes ++ t) i w) (drop-cons buf i 0 l)
    ∙ set_at (words_in i bytes) (get_or buf i 0) (drop (suc i) buf) w i (words-length i bytes)
    ∙ sym (append_snoc (words_in i bytes) w (drop (suc i) buf))
    ∙ ap (λ (t : List ℕ). t ++ drop (suc i) buf) (sym (words_snoc i bytes))
    ∙ ap (λ (n : ℕ). words_in n bytes ++ drop n buf) (sym (add-one i))

pub words-none : (bytes buf : List ℕ) → buf ≡ words_in 0 bytes ++ drop 0 buf
unfolding words_in
words-none bytes buf = refl

-- the words that are taken are all there, and the largest image has room for them
pub count-known : (n : ℕ) → (8 * word_count n ≤ n) × (word_count n ≤ 1732)
count-known n = go (eqb (n % 8) 0) (leb n 13856) refl
  where
    go : (w s : Bool) → leb n 13856 ≡ s → (8 * cond (w && s) (n / 8) 0 ≤ n) × (cond (w && s) (n / 8) 0 ≤ 1732)
    go false s e = (omega arith, omega arith)
    go true true e = let l = leb-true n 13856 e in (omega arith, omega (arith, l))
    go true false e = (omega arith, omega arith)

-- the image's first places, where the words were put
pub words-front : (k : ℕ) (bytes rest : List ℕ) → take k (words_in k bytes ++ rest) ≡ words_in k bytes
words-front k bytes rest = take_at (words_in k bytes) rest k (words-length k bytes)

-- ---- a word by its bytes
pub word-taken : (k : ℕ) (bytes : List ℕ) (i : ℕ) → i < k → get_or (words_in k bytes) i 0 ≡ little 8 (drop (8 * i) bytes)
unfolding words_in
word-taken zero bytes i l = absurd (omega arith)
word-taken (suc k) bytes zero l = refl
word-taken (suc k) bytes (suc i) l =
    let e : 8 + 8 * i ≡ 8 * suc i = omega arith in
    word-taken k (drop 8 bytes) i (omega arith) ∙ ap (little 8) (drop-drop (8 * i) 8 bytes ∙ ap (λ (n : ℕ). drop n bytes) e)

-- the lowest byte, and the others
little-more : (k : ℕ) (s : List ℕ) → little (suc k) s ≡ get_or s 0 0 + 256 * little k (drop 1 s)
unfolding little
little-more zero [] = refl
little-more (suc k) [] = refl
little-more k (b ∷ s) = refl

-- the byte at a place, and those from the next place on
from_place : (k at next : ℕ) (bytes : List ℕ) → next ≡ at + 1 → little (suc k) (drop at bytes) ≡ get_or bytes at 0 + 256 * little k (drop next bytes)
from_place k at next bytes e =
    let z : at + 0 ≡ at = omega arith in
    little-more k (drop at bytes) ∙ ap (λ (n : ℕ). n + 256 * little k (drop 1 (drop at bytes))) (get_or-drop at bytes 0 0 ∙ ap (λ (n : ℕ). get_or bytes n 0) z)
    ∙ ap (λ (t : List ℕ). get_or bytes at 0 + 256 * little k t) (drop-drop 1 at bytes ∙ ap (λ (n : ℕ). drop n bytes) (sym e))

none-left : (at : ℕ) (bytes : List ℕ) → little 0 (drop at bytes) ≡ 0
unfolding little
none-left at bytes = refl

pub word-is : (k : ℕ) (bytes : List ℕ) (i : ℕ) → i < k → get_or (words_in k bytes) i 0 ≡ word_at bytes i
word-is k bytes i l = word-taken k bytes i l ∙ whole (8 * i)
  where
    whole : (at : ℕ) → little 8 (drop at bytes)
        ≡ get_or bytes at 0 + 256 * get_or bytes (at + 1) 0 + 65536 * get_or bytes (at + 2) 0 + 16777216 * get_or bytes (at + 3) 0
        + 4294967296 * (get_or bytes (at + 4) 0 + 256 * get_or bytes (at + 5) 0 + 65536 * get_or bytes (at + 6) 0 + 16777216 * get_or bytes (at + 7) 0)
    whole at =
        omega (
          arith,
          from_place 7 at (at + 1) bytes refl,
          from_place 6 (at + 1) (at + 2) bytes (omega arith),
          from_place 5 (at + 2) (at + 3) bytes (omega arith),
          from_place 4 (at + 3) (at + 4) bytes (omega arith),
          from_place 3 (at + 4) (at + 5) bytes (omega arith),
          from_place 2 (at + 5) (at + 6) bytes (omega arith),
          from_place 1 (at + 6) (at + 7) bytes (omega arith),
          from_place 0 (at + 7) (at + 8) bytes (omega arith),
          none-left (at + 8) bytes,
        )
