-- What a record counts as, and the change that it makes in the table of carrier lines.
use Rattle.std.specs.Prelude.{ℕ, ◌-◌, cond, List, Option, Some, None}
use Rattle.layout.specs.Image.{home_words}
use Rattle.reels.specs.Reel.{reel_of, unused_b}
use Rattle.report.specs.Lines.{change_of, updated}
use Rattle.report.specs.Report.{reel_b}
use Rattle.report.specs.declared.line.CarrierLine.{CarrierLine}
use Rattle.report.specs.declared.line.Change.{Change}
use Rattle.report.specs.declared.counting.RecordKind.{RecordKind}
use Rattle.report.specs.declared.counting.RecordKind.TheVariants.{Unused, Reel as OnReel, Bad}

-- what a record counts as: 0 unused, 1 to 3 a reel on that carrier, 4 bad
unfoldable pub kind_of : List ℕ → ℕ
kind_of ws = cond (unused_b ws) 0 (cond (reel_b ws) (reel_of ws).carrier 4)

-- the same, with the reel itself
unfoldable pub counted_as : List ℕ → RecordKind
counted_as ws = cond (unused_b ws) Unused (cond (reel_b ws) (OnReel (reel_of ws)) Bad)

-- a line begins afresh: it keeps nothing of what it had
abbrev pub afresh : ℕ → Change
afresh line = change_of line 0 0 0

-- the change that record r makes: one reel more with its seconds in its carrier's line; none where it is no reel
unfoldable pub change_at : List ℕ → ℕ → Option Change
change_at img r =
    cond (reel_b (home_words img r)) (Some (change_of ((reel_of (home_words img r)).carrier - 1) 1 1 (reel_of (home_words img r)).seconds)) None

abbrev pub changed : List CarrierLine → Option Change → List CarrierLine
changed ls None = ls
changed ls (Some c) = updated ls c
