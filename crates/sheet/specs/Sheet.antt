-- The printed report (document 02, Req 10): for carriers 1 to 3 a line of carrier, number of reels and total seconds, then "all" with both
-- totals, then "bad"; a refusal is "no K" alone.
use Rattle.std.specs.Prelude.{ℕ, ◌/◌, ◌%◌, cond, List, [], ◌∷◌, ◌++◌, length, get_or, replicate, eqb, Ok, Err}
use Rattle.layout.specs.Refusal.{Answer, number_of}
use Rattle.lines.specs.Line.{numbers}
use Rattle.report.specs.Lines.{line_of}
use Rattle.report.specs.Report.{reported, report_reply}
use Rattle.report.specs.declared.line.CarrierLine.{CarrierLine}
use Rattle.report.specs.declared.summing.Totals.{Totals}
use Rattle.sheet.specs.Bytes.{words_in}

-- a line: a name and numbers, one space between, and a newline
abbrev pub row_of : List ℕ → List ℕ → List ℕ
row_of name values = (name ++ numbers values) ++ (10 ∷ [])

-- "1", "2" or "3" with a carrier's reels and seconds
abbrev pub carrier_row : ℕ → CarrierLine → List ℕ
carrier_row digit l = row_of (digit ∷ []) (l.reels ∷ l.seconds ∷ [])

-- "all" with both totals
abbrev pub all_row : Totals → List ℕ
all_row r = row_of (97 ∷ 108 ∷ 108 ∷ []) (r.reels ∷ r.seconds ∷ [])

-- "bad" with the number of bad records
abbrev pub bad_row : Totals → List ℕ
bad_row r = row_of (98 ∷ 97 ∷ 100 ∷ []) (r.bad ∷ [])

-- "no K"
abbrev pub no_row : ℕ → List ℕ
no_row k = row_of (110 ∷ 111 ∷ []) (k ∷ [])

abbrev pub filled_text : Totals → List CarrierLine → List ℕ
filled_text r ls =
    carrier_row 49 (get_or ls 0 (line_of 0 0)) ++ (carrier_row 50 (get_or ls 1 (line_of 0 0)) ++ (carrier_row 51 (get_or ls 2 (line_of 0 0)) ++ (all_row r ++ bad_row r)))

abbrev pub text_by : Answer Totals → List CarrierLine → List ℕ
text_by (Err r) ls = no_row (number_of r)
text_by (Ok t) ls = filled_text t ls

-- the text of an image's report, which has a table of three lines
unfoldable pub report_text : List ℕ → List ℕ
report_text img = text_by (report_reply img 3) (reported img (replicate 3 (line_of 0 0)))

-- what is printed of the bytes that are read: a byte count that is no whole number of words gives 1
unfoldable pub printed : List ℕ → List ℕ
printed bytes = cond (eqb (length bytes % 8) 0) (report_text (words_in (length bytes / 8) bytes)) (no_row 1)
