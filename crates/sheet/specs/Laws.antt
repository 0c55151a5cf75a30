-- The laws of the printed report: the words of some bytes, the lines of an image, and what is printed of bytes.
use Rattle.std.specs.Prelude.{ℕ, ◌+◌, ◌*◌, ◌<◌, ◌≤◌, ◌≡◌, List, [], ◌∷◌, ◌++◌, length, get_or, take, drop}
use Rattle.lines.specs.Put.{put}
use Rattle.report.specs.Report.{reel_b, on_b, bad_b, count_of, seconds_of, report_fault}
use Rattle.sheet.specs.Bytes.{words_in}
use Rattle.sheet.specs.Sheet.{row_of, report_text, printed}

abbrev pub byte_at : List ℕ → ℕ → ℕ
byte_at bytes i = get_or bytes i 0

-- word i of some bytes, its eight bytes lowest first
abbrev pub word_at : List ℕ → ℕ → ℕ
word_at bytes i =
    byte_at bytes (8 * i) + 256 * byte_at bytes (8 * i + 1) + 65536 * byte_at bytes (8 * i + 2) + 16777216 * byte_at bytes (8 * i + 3)
    + 4294967296 * (byte_at bytes (8 * i + 4) + 256 * byte_at bytes (8 * i + 5) + 65536 * byte_at bytes (8 * i + 6) + 16777216 * byte_at bytes (8 * i + 7))

-- "no K"
abbrev pub no_line : ℕ → List ℕ
no_line k = row_of (110 ∷ 111 ∷ []) (k ∷ [])

pub record SheetLaws : Type 0 where
  pub words_count : (k : ℕ) (bytes : List ℕ) → length (words_in k bytes) ≡ k
  pub words_are : (k : ℕ) (bytes : List ℕ) (i : ℕ) → i < k → get_or (words_in k bytes) i 0 ≡ word_at bytes i
  -- a refusal is its line alone; else five lines: "1", "2" and "3" with a carrier's reels and seconds, "all" with both totals, "bad"
  pub refused : (img : List ℕ) → (report_fault img 3 ≡ 0 → ⊥) → report_text img ≡ no_line (report_fault img 3)
  pub filled : (img : List ℕ) → report_fault img 3 ≡ 0
      → report_text img
      ≡ row_of (49 ∷ []) (count_of (on_b 1) img ∷ seconds_of (on_b 1) img ∷ []) ++ (row_of (50 ∷ []) (count_of (on_b 2) img ∷ seconds_of (on_b 2) img ∷ [])
      ++ (row_of (51 ∷ []) (count_of (on_b 3) img ∷ seconds_of (on_b 3) img ∷ []) ++ (row_of (97 ∷ 108 ∷ 108 ∷ []) (count_of reel_b img ∷ seconds_of reel_b img ∷ [])
      ++ row_of (98 ∷ 97 ∷ 100 ∷ []) (count_of bad_b img ∷ []))))
  -- bytes that are a whole number of words give the report of these words
  pub whole : (bytes : List ℕ) (k : ℕ) → length bytes ≡ 8 * k → printed bytes ≡ report_text (words_in k bytes)
  -- bytes that are no whole number of words give 1; so do more than 1,732 words, of which no more need be read
  pub odd : (bytes : List ℕ) → ((k : ℕ) → length bytes ≡ 8 * k → ⊥) → printed bytes ≡ no_line 1
  pub long : (bytes : List ℕ) → 13856 < length bytes → printed bytes ≡ no_line 1
  pub enough : (bytes : List ℕ) → printed (take 13857 bytes) ≡ printed bytes
  -- the bytes that are put stand at the buffer's start, and what is behind them stays
  pub put_front : (bs out : List ℕ) → length bs ≤ length out → put 0 bs out ≡ bs ++ drop (length bs) out
