-- A report in digits: words at the edges of what is good to read; an image of nine records and one session, tables of two and of four lines,
-- and each refusal.
use Rattle.std.specs.Prelude.{ℕ, ◌≡◌, true, List, [], ◌∷◌, ◌++◌, map, replicate, set, take}
use Rattle.report.specs.Laws.{line_by, filled_by, no}
use Rattle.report.specs.Report.{reel_b, bad_b, reported, report_reply}
use Rattle.report.specs.declared.line.CarrierLine.{CarrierLine}

-- the ceiling is the largest word; the records are an hour of open reel at code 3; unused; a cassette with code 1 and one with code 0; an open
-- reel whose speed is to find; bad, a disc with code 1; bad, a shelf number of 0; an open reel at code 5; the longest disc; both slots are empty
abbrev pub shelf : List ℕ
shelf =
    (1 ∷ 9 ∷ 1 ∷ 18446744073709551615 ∷ []) ++ (4711 ∷ 1 ∷ 3 ∷ 3600 ∷ 0 ∷ 0 ∷ 0 ∷ 0 ∷ []) ++ (12 ∷ 2 ∷ 1 ∷ 2700 ∷ 13 ∷ 2 ∷ 0 ∷ 60 ∷ [])
    ++ (14 ∷ 1 ∷ 0 ∷ 100 ∷ 16 ∷ 3 ∷ 1 ∷ 5 ∷ []) ++ (0 ∷ 1 ∷ 1 ∷ 1 ∷ 4711 ∷ 1 ∷ 5 ∷ 20 ∷ []) ++ (999999 ∷ 3 ∷ 0 ∷ 359999 ∷ []) ++ replicate 44 0

-- a log with the number 5 in its second slot
abbrev pub logged : List ℕ
logged = set shelf 62 5

abbrev pub four : List CarrierLine
four = line_by 7 8 ∷ line_by 9 10 ∷ line_by 11 12 ∷ line_by 13 14 ∷ []

abbrev pub two : List CarrierLine
two = take 2 four

-- words at the edges of what is good to read, and just past each edge
abbrev pub edges : List (List ℕ)
edges = (1 ∷ 1 ∷ 5 ∷ 0 ∷ []) ∷ (999999 ∷ 2 ∷ 1 ∷ 359999 ∷ []) ∷ (1 ∷ 3 ∷ 0 ∷ 1 ∷ []) ∷ []

abbrev pub past : List (List ℕ)
past =
    (1000000 ∷ 1 ∷ 1 ∷ 1 ∷ []) ∷ (1 ∷ 0 ∷ 0 ∷ 1 ∷ []) ∷ (1 ∷ 4 ∷ 0 ∷ 1 ∷ []) ∷ (1 ∷ 1 ∷ 6 ∷ 1 ∷ []) ∷ (1 ∷ 2 ∷ 2 ∷ 1 ∷ []) ∷ (1 ∷ 3 ∷ 1 ∷ 1 ∷ [])
    ∷ (1 ∷ 1 ∷ 1 ∷ 360000 ∷ []) ∷ (0 ∷ 0 ∷ 0 ∷ 1 ∷ []) ∷ []

pub record InDigits : Type 0 where
  pub good : map reel_b edges ≡ true ∷ true ∷ true ∷ []
  pub bad : map bad_b past ≡ true ∷ true ∷ true ∷ true ∷ true ∷ true ∷ true ∷ true ∷ []
  pub table : reported shelf four ≡ line_by 3 3720 ∷ line_by 2 2760 ∷ line_by 1 359999 ∷ line_by 13 14 ∷ []
  pub totals : report_reply shelf 4 ≡ filled_by 6 366479 2 1
  -- 1 before 11 before 20
  pub cut_off : (report_reply (take 83 logged) 2 ≡ no 1) × (reported (take 83 shelf) four ≡ four)
  pub with-log : (report_reply logged 2 ≡ no 11) × (report_reply logged 4 ≡ no 11) × (reported logged four ≡ four)
  pub short : (report_reply shelf 2 ≡ no 20) × (reported shelf two ≡ two)
