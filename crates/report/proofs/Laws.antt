-- The laws of the report hold.
use Prim.Native.Nat.{ℕ, zero, suc, ◌+◌, ◌-◌, ◌*◌, ◌<◌, ◌≤◌}
use mathlib.Core.Path.{◌≡◌, refl, sym, ap, ◌∙◌, subst}
use mathlib.Core.Bool.{Bool, true, false, ◌&&◌, cond, false≢true}
use mathlib.Core.List.{List, [], ◌∷◌}
use mathlib.Core.Logic.{◌⊎◌, inl, inr}
use native.Mathlib.Omega.{arith}
use lib.ListN.{length, get_or, length-drop}
use lib.Seq.{get_or-drop}
use lib.Dec.{leb, eqb}
use borrow.Author.Tests.{eq-eqb, ne_eqb, eqb-true, le-leb, lt-leb}
use Rattle.layout.specs.Below.{count_below}
use Rattle.layout.specs.Checks.{first, answered}
use Rattle.layout.specs.Image.{word, records_of, sessions_of, shaped_b, occupied_b, persist_at, home_words}
use Rattle.layout.proofs.Counts.{by-same, count_same}
use Rattle.layout.proofs.Says.{Says, says_ne, says_any, says-not, by-test}
use Rattle.layout.proofs.Shape.{says-shaped}
use Rattle.layout.proofs.ToldLaws.{known}
use Rattle.std.specs.Prelude.{Ok, Some}
use Rattle.report.specs.declared.summing.Totals.{Totals}
use Rattle.layout.proofs.ChecksLaws.{answered-zero, answered-not}
use Rattle.reels.specs.Reel.{reel_of, unused_b, reel_fault}
use Rattle.reels.proofs.Faults.{both, denied, read-faults}
use Rattle.reels.proofs.Good.{good-known, not-unused}
use Rattle.report.specs.Laws.{Good, OnCarrier, NotAReel, record_at, Right, Clean, line_by, no, ReportLaws}
use Rattle.report.specs.Lines.{line_of, change_of, updated, begun}
use Rattle.report.specs.Report.{reel_b, on_b, bad_b, sum_below, count_to, seconds_to, seconds_at, count_of, seconds_of, report_fault, table_to, reported, refused_by, filled, report_reply, report_said}
use Rattle.report.specs.Told.{refused, report, report_told}
use Rattle.report.specs.Changes.{kind_of, afresh, change_at}
use Rattle.report.specs.declared.line.CarrierLine.{CarrierLine}
use Rattle.report.specs.declared.line.Change.{Change}
use Rattle.report.proofs.Checks.{passed, refused-table, filled-table}
use Rattle.report.proofs.Counted.{unused-no-reel, on_test, reel-test, bad-test, unused-test, carrier-known, kind-most}
use Rattle.report.proofs.Sums.{sum_same, seconds-most, counted, left_out}
use Rattle.report.proofs.Changed.{change-reel, change-none, by-reel}
use Rattle.report.proofs.Table.{begun_more, begun_table, one-record}

-- ---- which records count as what
module _ (a b c d : ℕ) where
  abbrev ws : List ℕ
  ws = a ∷ b ∷ c ∷ d ∷ []

  good-reel : Good a b c d → reel_b ws ≡ true
  good-reel (s, t, l) = eq-eqb _ 0 (read-faults.none (reel_of ws) s t l)

  reel-good : reel_b ws ≡ true → Good a b c d
  reel-good e = let g = good-known (reel_of ws) e in (g.shelf, g.takes, g.seconds)

  as-reel : Good a b c d → OnCarrier b ws
  as-reel g =
      let r = good-reel g in
      let u : unused_b ws ≡ false = denied (unused_b ws) (λ e. false≢true (sym (unused-no-reel ws e) ∙ r)) in
      record {
        here = rw (r, eq-eqb b b refl) refl;
        elsewhere = λ k n. rw (r, ne_eqb b k (λ e. n (sym e))) refl;
        reel = r;
        used = u;
        good = rw (u, r) refl;
      }

  as-bad : (Good a b c d → ⊥) → (a ≡ 0 → b ≡ 0 → c ≡ 0 → d ≡ 0 → ⊥) → NotAReel false true ws
  as-bad n z =
      let r = denied (reel_b ws) (λ e. n (reel-good e)) in
      let u = not-unused a b c d z in
      record { nowhere = λ k. rw r refl; no-reel = r; as-unused = u; as-bad = rw (u, r) refl }

as-unused : NotAReel true false (0 ∷ 0 ∷ 0 ∷ 0 ∷ [])
unfolding reel_fault first
as-unused = record { nowhere = λ k. refl; no-reel = refl; as-unused = refl; as-bad = refl }

-- ---- the counts: every record is counted once
ones : (k : ℕ) → k ≤ 4 → cond (eqb k 1) 1 0 + cond (eqb k 2) 1 0 + cond (eqb k 3) 1 0 + cond (eqb k 4) 1 0 + cond (eqb k 0) 1 0 ≡ 1
ones zero h = refl
ones (suc zero) h = refl
ones (suc (suc zero)) h = refl
ones (suc (suc (suc zero))) h = refl
ones (suc (suc (suc (suc zero)))) h = refl
ones (suc (suc (suc (suc (suc k))))) h = absurd (omega arith)

-- a value that a reel of kind k adds to its line is what it adds to all
shares : (k v : ℕ) → cond (eqb k 1) v 0 + cond (eqb k 2) v 0 + cond (eqb k 3) v 0 ≡ cond (leb 1 k && leb k 3) v 0
shares zero v = refl
shares (suc zero) v = omega arith
shares (suc (suc zero)) v = omega arith
shares (suc (suc (suc zero))) v = omega arith
shares (suc (suc (suc (suc k)))) v =
    rw (ne_eqb (suc (suc (suc (suc k)))) 1 (λ e. omega (arith, e)), ne_eqb (suc (suc (suc (suc k)))) 2 (λ e. omega (arith, e)), ne_eqb (suc (suc (suc (suc k)))) 3 (λ e. omega (arith, e)), le-leb 1 (suc (suc (suc (suc k)))) (omega arith), lt-leb (suc (suc (suc (suc k)))) 3 (omega arith)) refl

module _ (ws : List ℕ) where
  on_one : eqb (kind_of ws) 1 ≡ on_b 1 ws
  on_one = on_test ws 1 (omega arith) (omega arith)

  on-two : eqb (kind_of ws) 2 ≡ on_b 2 ws
  on-two = on_test ws 2 (omega arith) (omega arith)

  on-three : eqb (kind_of ws) 3 ≡ on_b 3 ws
  on-three = on_test ws 3 (omega arith) (omega arith)

  once : cond (on_b 1 ws) 1 0 + cond (on_b 2 ws) 1 0 + cond (on_b 3 ws) 1 0 + cond (bad_b ws) 1 0 + cond (unused_b ws) 1 0 ≡ 1
  once = rw (← on_one, ← on-two, ← on-three, ← bad-test ws, ← unused-test ws) (ones (kind_of ws) (kind-most ws))

  shared : (v : ℕ) → cond (on_b 1 ws) v 0 + cond (on_b 2 ws) v 0 + cond (on_b 3 ws) v 0 ≡ cond (reel_b ws) v 0
  shared v = rw (← on_one, ← on-two, ← on-three, ← reel-test ws) (shares (kind_of ws) v)

module _ (img : List ℕ) where
  counts-to : (n : ℕ) → count_to (on_b 1) img n + count_to (on_b 2) img n + count_to (on_b 3) img n + count_to bad_b img n + count_to unused_b img n ≡ n
  unfolding count_below
  counts-to zero = refl
  counts-to (suc n) = omega (arith, counts-to n, once (home_words img n))

  reels-to : (n : ℕ) → count_to (on_b 1) img n + count_to (on_b 2) img n + count_to (on_b 3) img n ≡ count_to reel_b img n
  unfolding count_below
  reels-to zero = refl
  reels-to (suc n) = omega (arith, reels-to n, shared (home_words img n) 1)

  seconds-to : (n : ℕ) → seconds_to (on_b 1) img n + seconds_to (on_b 2) img n + seconds_to (on_b 3) img n ≡ seconds_to reel_b img n
  unfolding sum_below
  seconds-to zero = refl
  seconds-to (suc n) = omega (arith, seconds-to n, shared (home_words img n) (reel_of (home_words img n)).seconds)

-- ---- the sums, record by record
none-counted : (t : List ℕ → Bool) (img : List ℕ) → (count_to t img 0 ≡ 0) × (seconds_to t img 0 ≡ 0)
unfolding count_below sum_below
none-counted t img = (refl, refl)

same-records : (t : List ℕ → Bool) (img other : List ℕ) → records_of img ≡ records_of other → ((n : ℕ) → n < records_of img → record_at img n ≡ record_at other n)
    → (count_of t img ≡ count_of t other) × (seconds_of t img ≡ seconds_of t other)
same-records t img other e same = (
  count_same (λ r. t (home_words img r)) (λ r. t (home_words other r)) (records_of img) (λ r l. ap t (same r l)) ∙ ap (count_to t other) e,
  sum_same (seconds_at t img) (seconds_at t other) (records_of img) (λ r l. ap (λ (ws : List ℕ). cond (t ws) (reel_of ws).seconds 0) (same r l)) ∙ ap (seconds_to t other) e,
)

-- ---- the checks
module _ (img : List ℕ) (room : ℕ) where
  right-shaped : Right img → shaped_b img ≡ true
  right-shaped (mark, n-low, n-high, m-low, m-high, size) =
      (says-shaped img).no (record { mark = mark; range = record { n-low = n-low; n-high = n-high; m-low = m-low; m-high = m-high }; size = size })

  shaped-right : shaped_b img ≡ true → Right img
  shaped-right e =
      let s = (says-shaped img).yes e in
      (s.mark, s.range.n-low, s.range.n-high, s.range.m-low, s.range.m-high, s.size)

  wrong : (Right img → ⊥) → report_fault img room ≡ 1
  unfolding report_fault first
  wrong n = rw (denied (shaped_b img) (λ e. n (shaped-right e))) refl

  occupied-says : Says (occupied_b img (records_of img) (2 * sessions_of img)) ((p : ℕ) × (p < 2 * sessions_of img) × (persist_at img (records_of img) p ≡ 0 → ⊥))
  unfolding occupied_b
  occupied-says = says_any (2 * sessions_of img) (λ p. says_ne (persist_at img (records_of img) p) 0)

  first_word : (p : ℕ) → persist_at img (records_of img) p ≡ word img (4 + 4 * word img 1 + 22 * p)
  first_word p = let e : 4 + 4 * word img 1 + 22 * p + 0 ≡ 4 + 4 * word img 1 + 22 * p = omega arith in ap (word img) e

  clean-none : Clean img → occupied_b img (records_of img) (2 * sessions_of img) ≡ false
  clean-none h = says-not occupied-says (λ w. w.2 (first_word w.0 ∙ h w.0 w.1))

  not-clean : (Clean img → ⊥) → occupied_b img (records_of img) (2 * sessions_of img) ≡ true
  not-clean n =
      by-test (occupied_b img (records_of img) (2 * sessions_of img))
      (λ y. y)
      (λ f. absurd (n (λ p l. sym (first_word p) ∙ by-same (persist_at img (records_of img) p) 0 (λ z. z) (λ ne. absurd (false≢true (sym f ∙ occupied-says.no (p, l, ne)))))))

  occupied : Right img → (Clean img → ⊥) → report_fault img room ≡ 11
  unfolding report_fault first
  occupied r n = rw (right-shaped r, not-clean n) refl

  short : Right img → Clean img → room < 3 → report_fault img room ≡ 20
  unfolding report_fault first
  short r h l = rw (right-shaped r, clean-none h, lt-leb 3 room l) refl

  taken : Right img → Clean img → 3 ≤ room → report_fault img room ≡ 0
  unfolding report_fault first
  taken r h l = rw (right-shaped r, clean-none h, le-leb 3 room l) refl

-- ---- the table and the reply
module _ (img : List ℕ) where
  line_at : (ls : List CarrierLine) (d : CarrierLine) (i : ℕ) → i < 3
      → get_or (table_to img (records_of img) ls) i d ≡ line_of (count_of (on_b (i + 1)) img) (seconds_of (on_b (i + 1)) img)
  line_at ls d zero l = refl
  line_at ls d (suc zero) l = refl
  line_at ls d (suc (suc zero)) l = refl
  line_at ls d (suc (suc (suc i))) l = absurd (omega arith)

  past-third : (ls : List CarrierLine) (d : CarrierLine) (i : ℕ) → 3 ≤ i → get_or (table_to img (records_of img) ls) i d ≡ get_or ls i d
  past-third ls d zero l = absurd (omega arith)
  past-third ls d (suc zero) l = absurd (omega arith)
  past-third ls d (suc (suc zero)) l = absurd (omega arith)
  past-third ls d (suc (suc (suc i))) l = let e : 3 + i ≡ suc (suc (suc i)) = omega arith in get_or-drop 3 ls i d ∙ ap (λ (n : ℕ). get_or ls n d) e

  table-rest : (ls : List CarrierLine) (d : CarrierLine) (i : ℕ) → 3 ≤ i → get_or (reported img ls) i d ≡ get_or ls i d
  table-rest ls d i l =
      by-same (report_fault img (length ls)) 0
      (λ z. ap (λ (t : List CarrierLine). get_or t i d) (filled-table img ls z) ∙ past-third ls d i l)
      (λ n. ap (λ (t : List CarrierLine). get_or t i d) (refused-table img ls n))

  table-length : (ls : List CarrierLine) → length (reported img ls) ≡ length ls
  table-length ls =
      by-same (report_fault img (length ls)) 0
      (λ z. ap (λ (t : List CarrierLine). length t) (filled-table img ls z) ∙ whole (passed img (length ls) z).lines)
      (λ n. ap (λ (t : List CarrierLine). length t) (refused-table img ls n))
    where
      whole : 3 ≤ length ls → length (table_to img (records_of img) ls) ≡ length ls
      whole l = omega (arith, length-drop 3 ls)

  refused-reply : (room : ℕ) → (report_fault img room ≡ 0 → ⊥) → report_reply img room ≡ refused_by (report_fault img room)
  unfolding report_reply
  refused-reply room n = answered-not (report_fault img room) refused_by (Ok (filled img)) n

  filled-reply : (room : ℕ) → report_fault img room ≡ 0 → report_reply img room ≡ Ok (filled img)
  unfolding report_reply
  filled-reply room z = answered-zero (report_fault img room) refused_by (Ok (filled img)) z

  table-line : (ls : List CarrierLine) (d : CarrierLine) → report_fault img (length ls) ≡ 0 → (i : ℕ) → i < 3
      → get_or (reported img ls) i d ≡ line_by (count_of (on_b (i + 1)) img) (seconds_of (on_b (i + 1)) img)
  table-line ls d z i l = ap (λ (t : List CarrierLine). get_or t i d) (filled-table img ls z) ∙ line_at ls d i l

  -- what is filled in has passed the checks
  filled-passed : (room : ℕ) (r : Totals) → report_reply img room ≡ Ok r → (report_fault img room ≡ 0) × (r ≡ filled img)
  unfolding report_reply answered
  filled-passed room r e = go (report_fault img room) e
    where
      go : (k : ℕ) → answered k refused_by (Ok (filled img)) ≡ Ok r → (k ≡ 0) × (r ≡ filled img)
      go zero e = let w : r ≡ filled img = cc in (refl, w)
      go (suc k) e = let w : ◌≡◌ {A = ℕ} 0 1 = cc in absurd (omega arith)

  one-call : (ls : List CarrierLine) (d : CarrierLine) (r : Totals) → report_reply img (length ls) ≡ Ok r → let t = reported img ls in
      (get_or t 0 d).reels + (get_or t 1 d).reels + (get_or t 2 d).reels + r.bad + r.unused ≡ word img 1
  one-call ls d r e = let p = filled-passed (length ls) r e in rw (filled-table img ls p.0, p.1) (counts-to img (records_of img))

  refused-said : (room : ℕ) → (report_fault img room ≡ 0 → ⊥) → report_said img room ≡ refused (report_fault img room)
  unfolding report_said
  refused-said room n = answered-not (report_fault img room) refused _ n

  filled-said : (room : ℕ) → report_fault img room ≡ 0
      → report_said img room ≡ report (count_of reel_b img) (seconds_of reel_b img) (count_of bad_b img) (count_of unused_b img)
  unfolding report_said
  filled-said room z = answered-zero (report_fault img room) refused _ z

-- ---- the changes
begun-lines : (ls : List CarrierLine) → 3 ≤ length ls → begun 3 ls ≡ updated (updated (updated ls (afresh 0)) (afresh 1)) (afresh 2)
begun-lines ls h =
    let a = begun_more 0 ls h (omega arith) in
    let b = begun_more 1 ls h (omega arith) in
    let c = begun_more 2 ls h (omega arith) in
    sym (ap (λ (x : List CarrierLine). updated (updated x (afresh 1)) (afresh 2)) a ∙ ap (λ (x : List CarrierLine). updated x (afresh 2)) b ∙ c)

module _ (img : List ℕ) (n : ℕ) where
  reel-change : (b : ℕ) → on_b b (home_words img n) ≡ true
      → change_at img n ≡ Some (change_of (b - 1) 1 1 (reel_of (home_words img n)).seconds)
  reel-change b e =
      let p = both (reel_b (home_words img n)) (eqb (reel_of (home_words img n)).carrier b) e in
      change-reel img n p.0 ∙ ap (λ (k : ℕ). Some (change_of (k - 1) 1 1 (reel_of (home_words img n)).seconds)) (eqb-true (reel_of (home_words img n)).carrier b p.1)

  first_three : (c : Change) → (change_at img n ≡ Some c) ⊎ ((i : ℕ) × (i < 3) × (c ≡ afresh i)) → c.line < 3
  first_three c (inl e) =
      let k = by-reel img n c e in
      subst (λ (x : Change). x.line < 3) (sym k.1) (omega (arith, carrier-known (home_words img n) k.0))
  first_three c (inr (i, l, e)) = subst (λ (x : Change). x.line < 3) (sym e) l

number-told : (k : ℕ) → 1 ≤ k → k ≤ 20 → report_told (no k) ≡ refused k
number-told zero l h = absurd (omega arith)
number-told (suc k) l h = ap refused (known k (omega (arith, h))).number

pub report-laws : ReportLaws
report-laws = record {
  as-reel = as-reel;
  as-unused = as-unused;
  as-bad = as-bad;
  none-counted = none-counted;
  counted = counted;
  left_out = left_out;
  all-records = λ t img. (refl, refl);
  same-records = same-records;
  counts-make = λ img. counts-to img (records_of img);
  all-reels = λ img. reels-to img (records_of img);
  all-seconds = λ img. seconds-to img (records_of img);
  seconds-fit = λ img l. omega (arith, l, seconds-most reel_b (λ ws e. e) img (records_of img));
  wrong = wrong;
  occupied = occupied;
  short = short;
  taken = taken;
  refused-table = refused-table;
  table-line = table-line;
  table-rest = table-rest;
  table-length = table-length;
  refused-reply = refused-reply;
  filled-reply = filled-reply;
  one-call = one-call;
  refused-told = λ r. refl;
  number-told = number-told;
  filled-told = λ a b c d. refl;
  refused-said = refused-said;
  filled-said = filled-said;
  begun-lines = begun-lines;
  no-record = λ img ls. sym (begun_table img ls);
  one-record = one-record;
  reel-change = reel-change;
  other-change = change-none;
  first_three = first_three;
}
