-- The table of carrier lines, one change of one line, and lines that begin afresh.
use Rattle.std.specs.Prelude.{ℕ, ◌+◌, ◌*◌, ◌<◌, ◌^◌, List, ◌++◌, length, drop, replicate, set, get_or}
use Rattle.report.specs.declared.line.CarrierLine.{CarrierLine}
use Rattle.report.specs.declared.line.Change.{Change}

abbrev pub line_of : ℕ → ℕ → CarrierLine
line_of reels seconds = record { reels = reels; seconds = seconds }

abbrev pub change_of : ℕ → ℕ → ℕ → ℕ → Change
change_of line keep reels seconds = record { line = line; keep = keep; reels = reels; seconds = seconds }

-- what a line becomes: what it had, where it is kept (keep is 1) and not begun afresh (0), and what is added
abbrev pub more : CarrierLine → Change → CarrierLine
more l c = line_of (l.reels * c.keep + c.reels) (l.seconds * c.keep + c.seconds)

abbrev pub updated : List CarrierLine → Change → List CarrierLine
updated ls c = set ls c.line (more (get_or ls c.line (line_of 0 0)) c)

-- the line is there, and the sums fit a word
abbrev pub CanUpdate : List CarrierLine → Change → Type 0
CanUpdate ls c =
    (c.line < length ls) × ((more (get_or ls c.line (line_of 0 0)) c).reels < 2 ^ 64) × ((more (get_or ls c.line (line_of 0 0)) c).seconds < 2 ^ 64)

-- the table with its first n lines begun afresh
abbrev pub begun : ℕ → List CarrierLine → List CarrierLine
begun n ls = replicate n (line_of 0 0) ++ drop n ls
