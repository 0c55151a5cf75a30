-- The report's checks, and what they leave to be answered.
use Prim.Native.Nat.{ℕ, zero, suc, ◌≤◌}
use mathlib.Core.Path.{◌≡◌, refl, ap}
use mathlib.Core.List.{List}
use native.Mathlib.Omega.{arith}
use lib.ListN.{length}
use borrow.Author.Tests.{leb-true}
use Rattle.layout.specs.Image.{records_of}
use Rattle.layout.specs.Refusal.{cause, number_of}
use Rattle.layout.proofs.ChecksLaws.{first-both, unless-zero, answered-zero, answered-not, first-most, unless-most}
use Rattle.layout.proofs.Shape.{says-shaped}
use Rattle.layout.proofs.ToldLaws.{known}
use Rattle.layout.specs.Checks.{answered}
use Rattle.std.specs.Prelude.{Ok}
use Rattle.report.specs.Report.{report_fault, table_to, reported, refused_by, filled, report_reply, report_said}
use Rattle.report.specs.Told.{refused, report, report_told}
use Rattle.report.specs.declared.line.CarrierLine.{CarrierLine}

-- a report that is not refused: N is in range, and the table has three lines
pub record Passed (img : List ℕ) (room : ℕ) : Type 0 where
  pub records : records_of img ≤ 256
  pub lines : 3 ≤ room

module _ (img : List ℕ) (room : ℕ) where
  pub passed : report_fault img room ≡ 0 → Passed img room
  unfolding report_fault
  passed z =
      let p = first-both _ _ z in
      record {
        records = ((says-shaped img).yes (unless-zero _ 0 p.0)).range.n-high;
        lines = leb-true 3 room (unless-zero _ 19 (first-both _ _ p.1).1);
      }

  fault-most : report_fault img room ≤ 20
  unfolding report_fault
  fault-most = first-most 20 _ _ (unless-most 20 _ 1 (omega arith)) (first-most 20 _ _ (unless-most 20 _ 11 (omega arith)) (unless-most 20 _ 20 (omega arith)))

  -- a fault is the number of its cause
  pub fault-number : (report_fault img room ≡ 0 → ⊥) → number_of (cause (report_fault img room)) ≡ report_fault img room
  fault-number n = go (report_fault img room) fault-most n
    where
      go : (k : ℕ) → k ≤ 20 → (k ≡ 0 → ⊥) → number_of (cause k) ≡ k
      go zero l n = absurd (n refl)
      go (suc k) l n = (known k (omega (arith, l))).number

  -- what is told, whatever the checks say
  pub report-told : report_told (report_reply img room) ≡ report_said img room
  unfolding report_reply report_said answered
  report-told = go (report_fault img room) fault-most
    where
      go : (k : ℕ) → k ≤ 20 → report_told (answered k refused_by (Ok (filled img)))
          ≡ answered k refused (report (filled img).reels (filled img).seconds (filled img).bad (filled img).unused)
      go zero l = refl
      go (suc k) l = ap refused (known k (omega (arith, l))).number

  pub report-refused : (k : ℕ) → k ≡ report_fault img room → (k ≡ 0 → ⊥) → report_reply img room ≡ refused_by k
  unfolding report_reply
  report-refused k e n = rw (← e) (answered-not k refused_by (Ok (filled img)) n)

  pub report-filled : report_fault img room ≡ 0 → report_reply img room ≡ Ok (filled img)
  unfolding report_reply
  report-filled z = answered-zero _ refused_by (Ok (filled img)) z

-- refused, the table stays
pub refused-table : (img : List ℕ) (ls : List CarrierLine) → (report_fault img (length ls) ≡ 0 → ⊥) → reported img ls ≡ ls
unfolding reported
refused-table img ls n = answered-not (report_fault img (length ls)) (λ k. ls) (table_to img (records_of img) ls) n

pub filled-table : (img : List ℕ) (ls : List CarrierLine) → report_fault img (length ls) ≡ 0 → reported img ls ≡ table_to img (records_of img) ls
unfolding reported
filled-table img ls z = answered-zero (report_fault img (length ls)) (λ k. ls) (table_to img (records_of img) ls) z
