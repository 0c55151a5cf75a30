-- What is printed, byte by byte, is computed.
use mathlib.Core.Path.{refl}
use Rattle.codec.specs.Bytes.{little}
use Rattle.layout.specs.Below.{any_below, count_below}
use Rattle.layout.specs.Checks.{first, answered}
use Rattle.layout.specs.Image.{shaped_b, occupied_b}
use Rattle.layout.specs.Refusal.{cause}
use Rattle.lines.specs.Line.{spelled, decimal_of}
use Rattle.reels.specs.Reel.{reel_fault}
use Rattle.report.specs.Report.{sum_below, report_fault, reported, report_reply}
use Rattle.sheet.specs.Bytes.{words_in}
use Rattle.sheet.specs.InDigits.{InDigits}
use Rattle.sheet.specs.Sheet.{report_text, printed}

pub in-digits : InDigits
unfolding little any_below count_below first answered shaped_b occupied_b spelled decimal_of reel_fault sum_below report_fault reported report_reply cause words_in report_text printed
in-digits = record { report = refl; with-log = refl; byte-less = refl; word-less = refl; nothing = refl; long-numbers = refl }
