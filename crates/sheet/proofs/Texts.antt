-- The text by the answer, and of bytes that are no image.
use Prim.Native.Nat.{ℕ, ◌*◌, ◌/◌, ◌%◌, ◌<◌}
use mathlib.Core.Path.{◌≡◌, refl, sym, ap, ◌∙◌}
use mathlib.Core.Bool.{Bool, true, false, ◌&&◌, cond}
use mathlib.Core.List.{List, [], ◌∷◌, ◌++◌}
use native.Mathlib.Omega.{arith}
use lib.ListN.{length, replicate, take}
use lib.Seq.{take_all, length-take-le}
use lib.Dec.{leb, eqb}
use borrow.Author.Tests.{eqb-true, eq-eqb, ne_eqb, leb-true, leb-false}
use Rattle.std.specs.Prelude.{Ok, Err}
use Rattle.layout.specs.Checks.{first, answered}
use Rattle.layout.specs.Image.{shaped_b}
use Rattle.layout.specs.Refusal.{cause, number_of}
use Rattle.layout.specs.declared.refusal.Refusal.{Refusal}
use Rattle.layout.proofs.Says.{by-test}
use Rattle.layout.proofs.Shape.{says-shaped}
use Rattle.report.specs.Lines.{line_of}
use Rattle.report.specs.Report.{reel_b, on_b, bad_b, count_of, seconds_of, report_fault, reported, filled, report_reply}
use Rattle.report.proofs.Checks.{fault-number}
use Rattle.report.proofs.Laws.{report-laws}
use Rattle.report.specs.declared.line.CarrierLine.{CarrierLine}
use Rattle.report.specs.declared.summing.Totals.{Totals}
use Rattle.sheet.specs.Bytes.{words_in, word_count}
use Rattle.sheet.specs.Sheet.{row_of, no_row, filled_text, report_text, printed}
use Rattle.sheet.proofs.Words.{words-length}

pub text-refused : (img : List ℕ) (r : Refusal) → Err r ≡ report_reply img 3 → no_row (number_of r) ≡ report_text img
unfolding report_text
text-refused img r e = rw (← e) refl

pub text-filled : (img : List ℕ) (t : Totals) (ls : List CarrierLine) → Ok t ≡ report_reply img 3 → ls ≡ reported img (replicate 3 (line_of 0 0))
    → filled_text t ls ≡ report_text img
unfolding report_text
text-filled img t ls e l = rw (← e, ← l) refl

module _ (img : List ℕ) where
  pub text-no : (report_fault img 3 ≡ 0 → ⊥) → report_text img ≡ no_row (report_fault img 3)
  text-no n = sym (text-refused img (cause (report_fault img 3)) (sym (report-laws.refused-reply img 3 n))) ∙ ap no_row (fault-number img 3 n)

  pub text-yes : report_fault img 3 ≡ 0
      → report_text img
      ≡ row_of (49 ∷ []) (count_of (on_b 1) img ∷ seconds_of (on_b 1) img ∷ []) ++ (row_of (50 ∷ []) (count_of (on_b 2) img ∷ seconds_of (on_b 2) img ∷ [])
      ++ (row_of (51 ∷ []) (count_of (on_b 3) img ∷ seconds_of (on_b 3) img ∷ []) ++ (row_of (97 ∷ 108 ∷ 108 ∷ []) (count_of reel_b img ∷ seconds_of reel_b img ∷ [])
      ++ row_of (98 ∷ 97 ∷ 100 ∷ []) (count_of bad_b img ∷ []))))
  text-yes z =
      let r = report-laws.filled-reply img 3 z in
      sym (text-filled img (filled img) (reported img (replicate 3 (line_of 0 0))) (sym r) refl)
      ∙ rw (report-laws.table-line img (replicate 3 (line_of 0 0)) (line_of 0 0) z 0 (omega arith), report-laws.table-line img (replicate 3 (line_of 0 0)) (line_of 0 0) z 1 (omega arith), report-laws.table-line img (replicate 3 (line_of 0 0)) (line_of 0 0) z 2 (omega arith)) refl

-- words that are no image: the report is refused with 1
text-unshaped : (img : List ℕ) → shaped_b img ≡ false → report_text img ≡ no_row 1
unfolding report_text report_reply report_fault first answered cause
text-unshaped img e = rw e refl

no-words : report_text [] ≡ no_row 1
unfolding shaped_b
no-words = text-unshaped [] refl

-- no image has more than 1,732 words
too_long : (img : List ℕ) → 1732 < length img → shaped_b img ≡ false
too_long img l = go (shaped_b img) refl
  where
    go : (b : Bool) → shaped_b img ≡ b → shaped_b img ≡ false
    go true e = let s = (says-shaped img).yes e in absurd (omega (arith, s.size, s.range.n-high, s.range.m-high))
    go false e = e

module _ (bytes : List ℕ) where
  abbrev words : List ℕ
  words = words_in (length bytes / 8) bytes

  words_long : eqb (length bytes % 8) 0 ≡ true → 13856 < length bytes → report_text words ≡ no_row 1
  words_long e l = text-unshaped words (too_long words (omega (arith, l, eqb-true (length bytes % 8) 0 e, words-length (length bytes / 8) bytes)))

  -- what the code makes of the bytes is what is printed
  pub text-taken : report_text (words_in (word_count (length bytes)) bytes) ≡ printed bytes
  unfolding printed words_in
  text-taken = go (eqb (length bytes % 8) 0) (leb (length bytes) 13856) refl refl
    where
      go : (w s : Bool) → eqb (length bytes % 8) 0 ≡ w → leb (length bytes) 13856 ≡ s
          → report_text (words_in (cond (w && s) (length bytes / 8) 0) bytes) ≡ cond w (report_text words) (no_row 1)
      go false s d e = no-words
      go true true d e = refl
      go true false d e = no-words ∙ sym (words_long d (leb-false (length bytes) 13856 e))

  pub text-long : 13856 < length bytes → printed bytes ≡ no_row 1
  unfolding printed
  text-long l = go (eqb (length bytes % 8) 0) refl
    where
      go : (w : Bool) → eqb (length bytes % 8) 0 ≡ w → cond w (report_text words) (no_row 1) ≡ no_row 1
      go true e = words_long e l
      go false e = refl

  pub text-whole : (k : ℕ) → length bytes ≡ 8 * k → printed bytes ≡ report_text (words_in k bytes)
  unfolding printed
  text-whole k e =
      let q : length bytes / 8 ≡ k = omega (arith, e) in
      rw (eq-eqb (length bytes % 8) 0 (omega (arith, e))) (ap (λ (n : ℕ). report_text (words_in n bytes)) q)

  pub text-odd : ((k : ℕ) → length bytes ≡ 8 * k → ⊥) → printed bytes ≡ no_row 1
  unfolding printed
  text-odd n = rw (ne_eqb (length bytes % 8) 0 (λ z. n (length bytes / 8) (omega (arith, z)))) refl

-- what is printed of more bytes than any image has is known from the first of them
pub text-enough : (bytes : List ℕ) → printed (take 13857 bytes) ≡ printed bytes
text-enough bytes =
    by-test (leb (length bytes) 13856)
    (λ y. ap printed (take_all 13857 bytes (omega (arith, leb-true (length bytes) 13856 y))))
    (λ n. let l = leb-false (length bytes) 13856 n in
    text-long (take 13857 bytes) (omega (arith, length-take-le 13857 bytes (omega (arith, l)))) ∙ sym (text-long bytes l))
