-- The report in digits is computed.
use mathlib.Core.Path.{refl}
use Rattle.layout.specs.Below.{any_below, count_below}
use Rattle.layout.specs.Checks.{first, answered}
use Rattle.layout.specs.Image.{shaped_b, occupied_b}
use Rattle.reels.specs.Reel.{reel_fault}
use Rattle.report.specs.InDigits.{InDigits}
use Rattle.report.specs.Report.{sum_below, report_fault, reported, report_reply}

pub in-digits : InDigits
unfolding any_below count_below first answered shaped_b occupied_b reel_fault sum_below report_fault reported report_reply
in-digits = record {
  good = refl;
  bad = refl;
  table = refl;
  totals = refl;
  cut_off = (refl, refl);
  with-log = (refl, refl, refl);
  short = (refl, refl);
}
