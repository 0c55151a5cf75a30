-- The yearly playing-time report (document 02, Req 10): for carriers 1 to 3 the number of reels and their seconds, summed over the records of
-- a clean image; unused records are skipped, bad ones are counted. Checks 1, 11 and 20, in this order; refused, the table stays.
use Rattle.std.specs.Prelude.{ℕ, zero, suc, ◌+◌, ◌*◌, Bool, ◌&&◌, not, cond, List, ◌∷◌, length, drop, leb, eqb, Ok, Err}
use Rattle.layout.specs.Below.{count_below}
use Rattle.layout.specs.Checks.{unless, first, answered}
use Rattle.layout.specs.Image.{records_of, sessions_of, shaped_b, occupied_b, home_words}
use Rattle.layout.specs.Refusal.{Answer, cause}
use Rattle.reels.specs.Reel.{reel_of, unused_b, good_b}
use Rattle.report.specs.Lines.{line_of}
use Rattle.report.specs.Told.{ReportTold, refused, report}
use Rattle.report.specs.declared.line.CarrierLine.{CarrierLine}
use Rattle.report.specs.declared.summing.Totals.{Totals}

-- the words of a record are a reel's: they are good to read; so they are where its speed is to find
abbrev pub reel_b : List ℕ → Bool
reel_b ws = good_b (reel_of ws)

-- they are a reel's on this carrier
abbrev pub on_b : ℕ → List ℕ → Bool
on_b carrier ws = reel_b ws && eqb (reel_of ws).carrier carrier

-- they are bad: neither an unused record's nor a reel's
abbrev pub bad_b : List ℕ → Bool
bad_b ws = not (unused_b ws) && not (reel_b ws)

-- the sum of f over the numbers below n
unfoldable pub sum_below : ℕ → (ℕ → ℕ) → ℕ
sum_below zero f = 0
sum_below (suc n) f = sum_below n f + f n

-- how many of the first n records have words that pass a test, and their seconds
abbrev pub count_to : (List ℕ → Bool) → List ℕ → ℕ → ℕ
count_to test img n = count_below n (λ r. test (home_words img r))

abbrev pub seconds_at : (List ℕ → Bool) → List ℕ → ℕ → ℕ
seconds_at test img r = cond (test (home_words img r)) (reel_of (home_words img r)).seconds 0

abbrev pub seconds_to : (List ℕ → Bool) → List ℕ → ℕ → ℕ
seconds_to test img n = sum_below n (seconds_at test img)

-- over all records
abbrev pub count_of : (List ℕ → Bool) → List ℕ → ℕ
count_of test img = count_to test img (records_of img)

abbrev pub seconds_of : (List ℕ → Bool) → List ℕ → ℕ
seconds_of test img = seconds_to test img (records_of img)

-- the checks: 1, header or length wrong; 11, some slot is occupied; 20, the table is shorter than three lines; `room` is how many it has
unfoldable pub report_fault : List ℕ → ℕ → ℕ
report_fault img room =
    first (unless (shaped_b img) 1)
    (first (unless (not (occupied_b img (records_of img) (2 * sessions_of img))) 11) (unless (leb 3 room) 20))

-- a carrier's line over the first n records
abbrev pub line_to : List ℕ → ℕ → ℕ → CarrierLine
line_to img n carrier = line_of (count_to (on_b carrier) img n) (seconds_to (on_b carrier) img n)

-- the lines of carriers 1 to 3 stand first; lines past the third stay
abbrev pub table_to : List ℕ → ℕ → List CarrierLine → List CarrierLine
table_to img n ls = line_to img n 1 ∷ line_to img n 2 ∷ line_to img n 3 ∷ drop 3 ls

-- the table afterwards
unfoldable pub reported : List ℕ → List CarrierLine → List CarrierLine
reported img ls = answered (report_fault img (length ls)) (λ k. ls) (table_to img (records_of img) ls)

abbrev pub refused_by : ℕ → Answer Totals
refused_by k = Err (cause k)

-- the totals: all reels and their seconds, the bad records, the unused ones
abbrev pub filled : List ℕ → Totals
filled img = record {
  reels = count_of reel_b img;
  seconds = seconds_of reel_b img;
  bad = count_of bad_b img;
  unused = count_of unused_b img;
}

unfoldable pub report_reply : List ℕ → ℕ → Answer Totals
report_reply img room = answered (report_fault img room) refused_by (Ok (filled img))

-- what it tells
unfoldable pub report_said : List ℕ → ℕ → ReportTold
report_said img room = answered (report_fault img room) refused (report (count_of reel_b img) (seconds_of reel_b img) (count_of bad_b img) (count_of unused_b img))
