-- The laws of the report, each in plain words: which records count as what, the sums, the checks, the table, what is answered and told.
use Rattle.std.specs.Prelude.{ℕ, ◌+◌, ◌-◌, ◌*◌, ◌<◌, ◌≤◌, ◌≡◌, ◌⊎◌, Bool, true, false, List, [], ◌∷◌, length, get_or, Ok, Err, Some, None}
use Rattle.layout.specs.Refusal.{Answer, cause, number_of}
use Rattle.layout.specs.declared.refusal.Refusal.{Refusal}
use Rattle.reels.specs.Laws.{Shelved, Takes}
use Rattle.reels.specs.Reel.{unused_b}
use Rattle.report.specs.Report.{reel_b, on_b, bad_b, count_to, seconds_to, count_of, seconds_of, report_fault, table_to, reported, report_reply, report_said}
use Rattle.report.specs.Told.{refused, report, report_told}
use Rattle.report.specs.Lines.{updated, begun}
use Rattle.report.specs.Changes.{afresh, change_at, changed}
use Rattle.report.specs.declared.line.CarrierLine.{CarrierLine}
use Rattle.report.specs.declared.line.Change.{Change}
use Rattle.report.specs.declared.summing.Totals.{Totals}

-- the words of a reel, as they are good to read; an open reel may have code 0, a speed to find
abbrev pub Good : ℕ → ℕ → ℕ → ℕ → Type 0
Good a b c d = Shelved a × Takes 0 b c × (d ≤ 359999)

-- a record of these words counts with carrier b and nowhere else
pub record OnCarrier (b : ℕ) (ws : List ℕ) : Type 0 where
  pub here : on_b b ws ≡ true
  pub elsewhere : (k : ℕ) → (k ≡ b → ⊥) → on_b k ws ≡ false
  pub reel : reel_b ws ≡ true
  pub used : unused_b ws ≡ false
  pub good : bad_b ws ≡ false

-- a record of these words counts with no carrier; it counts as unused or as bad
pub record NotAReel (unused bad : Bool) (ws : List ℕ) : Type 0 where
  pub nowhere : (k : ℕ) → on_b k ws ≡ false
  pub no-reel : reel_b ws ≡ false
  pub as-unused : unused_b ws ≡ unused
  pub as-bad : bad_b ws ≡ bad

-- word i of an image
abbrev pub at : List ℕ → ℕ → ℕ
at img i = get_or img i 0

-- record n of an image, by its own four words
abbrev pub record_at : List ℕ → ℕ → List ℕ
record_at img n = at img (4 + 4 * n) ∷ at img (4 + 4 * n + 1) ∷ at img (4 + 4 * n + 2) ∷ at img (4 + 4 * n + 3) ∷ []

-- header and length are right: word 0 is 1, N is 1 to 256, M 1 to 16; word 3 is not asked
abbrev pub Right : List ℕ → Type 0
Right img =
    (at img 0 ≡ 1) × (1 ≤ at img 1) × (at img 1 ≤ 256) × (1 ≤ at img 2) × (at img 2 ≤ 16) × (length img ≡ 4 + 4 * at img 1 + 44 * at img 2)

-- all slots are empty
abbrev pub Clean : List ℕ → Type 0
Clean img = (p : ℕ) → p < 2 * at img 2 → at img (4 + 4 * at img 1 + 22 * p) ≡ 0

abbrev pub line_by : ℕ → ℕ → CarrierLine
line_by reels seconds = record { reels = reels; seconds = seconds }

abbrev pub filled_by : ℕ → ℕ → ℕ → ℕ → Answer Totals
filled_by reels seconds bad unused = Ok (record { reels = reels; seconds = seconds; bad = bad; unused = unused })

abbrev pub no : ℕ → Answer Totals
no k = Err (cause k)

pub record ReportLaws : Type 0 where
  -- which records count as what: reels with their carrier, four zeros as unused, all others as bad
  pub as-reel : (a b c d : ℕ) → Good a b c d → OnCarrier b (a ∷ b ∷ c ∷ d ∷ [])
  pub as-unused : NotAReel true false (0 ∷ 0 ∷ 0 ∷ 0 ∷ [])
  pub as-bad : (a b c d : ℕ) → (Good a b c d → ⊥) → (a ≡ 0 → b ≡ 0 → c ≡ 0 → d ≡ 0 → ⊥) → NotAReel false true (a ∷ b ∷ c ∷ d ∷ [])
  -- every total is the sum over the records themselves: record n adds 1 and its own seconds where it passes the test, else nothing
  pub none-counted : (t : List ℕ → Bool) (img : List ℕ) → (count_to t img 0 ≡ 0) × (seconds_to t img 0 ≡ 0)
  pub counted : (t : List ℕ → Bool) (img : List ℕ) (n : ℕ) → t (record_at img n) ≡ true
      → (count_to t img (n + 1) ≡ count_to t img n + 1) × (seconds_to t img (n + 1) ≡ seconds_to t img n + at img (4 + 4 * n + 3))
  pub left_out : (t : List ℕ → Bool) (img : List ℕ) (n : ℕ) → t (record_at img n) ≡ false
      → (count_to t img (n + 1) ≡ count_to t img n) × (seconds_to t img (n + 1) ≡ seconds_to t img n)
  pub all-records : (t : List ℕ → Bool) (img : List ℕ) → (count_of t img ≡ count_to t img (at img 1)) × (seconds_of t img ≡ seconds_to t img (at img 1))
  -- so they depend on N and the home records alone
  pub same-records : (t : List ℕ → Bool) (img other : List ℕ) → at img 1 ≡ at other 1 → ((n : ℕ) → n < at img 1 → record_at img n ≡ record_at other n)
      → (count_of t img ≡ count_of t other) × (seconds_of t img ≡ seconds_of t other)
  -- the four counts with the unused make N
  pub counts-make : (img : List ℕ) → count_of (on_b 1) img + count_of (on_b 2) img + count_of (on_b 3) img + count_of bad_b img + count_of unused_b img ≡ at img 1
  -- "all" is what the three lines come to
  pub all-reels : (img : List ℕ) → count_of (on_b 1) img + count_of (on_b 2) img + count_of (on_b 3) img ≡ count_of reel_b img
  pub all-seconds : (img : List ℕ) → seconds_of (on_b 1) img + seconds_of (on_b 2) img + seconds_of (on_b 3) img ≡ seconds_of reel_b img
  -- no sum is large: 256 records of 359,999 seconds
  pub seconds-fit : (img : List ℕ) → at img 1 ≤ 256 → seconds_of reel_b img ≤ 92159744
  -- the checks, in their order: 1, header or length wrong; 11, some slot occupied; 20, fewer than three lines
  pub wrong : (img : List ℕ) (room : ℕ) → (Right img → ⊥) → report_fault img room ≡ 1
  pub occupied : (img : List ℕ) (room : ℕ) → Right img → (Clean img → ⊥) → report_fault img room ≡ 11
  pub short : (img : List ℕ) (room : ℕ) → Right img → Clean img → room < 3 → report_fault img room ≡ 20
  pub taken : (img : List ℕ) (room : ℕ) → Right img → Clean img → 3 ≤ room → report_fault img room ≡ 0
  -- refused, the table is untouched; else line i is that of carrier i + 1; lines past the third are never touched
  pub refused-table : (img : List ℕ) (ls : List CarrierLine) → (report_fault img (length ls) ≡ 0 → ⊥) → reported img ls ≡ ls
  pub table-line : (img : List ℕ) (ls : List CarrierLine) (d : CarrierLine) → report_fault img (length ls) ≡ 0 → (i : ℕ) → i < 3
      → get_or (reported img ls) i d ≡ line_by (count_of (on_b (i + 1)) img) (seconds_of (on_b (i + 1)) img)
  pub table-rest : (img : List ℕ) (ls : List CarrierLine) (d : CarrierLine) (i : ℕ) → 3 ≤ i → get_or (reported img ls) i d ≡ get_or ls i d
  pub table-length : (img : List ℕ) (ls : List CarrierLine) → length (reported img ls) ≡ length ls
  -- what is answered
  pub refused-reply : (img : List ℕ) (room : ℕ) → (report_fault img room ≡ 0 → ⊥) → report_reply img room ≡ no (report_fault img room)
  pub filled-reply : (img : List ℕ) (room : ℕ) → report_fault img room ≡ 0
      → report_reply img room ≡ filled_by (count_of reel_b img) (seconds_of reel_b img) (count_of bad_b img) (count_of unused_b img)
  -- of one call: the three lines' reels, the bad and the unused make N
  pub one-call : (img : List ℕ) (ls : List CarrierLine) (d : CarrierLine) (r : Totals) → report_reply img (length ls) ≡ Ok r → let t = reported img ls in
      (get_or t 0 d).reels + (get_or t 1 d).reels + (get_or t 2 d).reels + r.bad + r.unused ≡ at img 1
  -- what a reply tells, and what is told
  pub refused-told : (r : Refusal) → report_told (Err r) ≡ refused (number_of r)
  pub number-told : (k : ℕ) → 1 ≤ k → k ≤ 20 → report_told (no k) ≡ refused k
  pub filled-told : (a b c d : ℕ) → report_told (filled_by a b c d) ≡ report a b c d
  pub refused-said : (img : List ℕ) (room : ℕ) → (report_fault img room ≡ 0 → ⊥) → report_said img room ≡ refused (report_fault img room)
  pub filled-said : (img : List ℕ) (room : ℕ) → report_fault img room ≡ 0
      → report_said img room ≡ report (count_of reel_b img) (seconds_of reel_b img) (count_of bad_b img) (count_of unused_b img)
  -- three changes begin the lines afresh
  pub begun-lines : (ls : List CarrierLine) → 3 ≤ length ls → begun 3 ls ≡ updated (updated (updated ls (afresh 0)) (afresh 1)) (afresh 2)
  -- over no records the lines are as they begin; with one more record the table is changed by that record's change; a reel's is one of its carrier's line, by 1 and its own seconds; other
  -- records make none; neither these changes nor the three before them are to a line past the third
  pub no-record : (img : List ℕ) (ls : List CarrierLine) → table_to img 0 ls ≡ begun 3 ls
  pub one-record : (img : List ℕ) (n : ℕ) (ls : List CarrierLine) → table_to img (n + 1) ls ≡ changed (table_to img n ls) (change_at img n)
  pub reel-change : (img : List ℕ) (n b : ℕ) → on_b b (record_at img n) ≡ true
      → change_at img n ≡ Some (record { line = b - 1; keep = 1; reels = 1; seconds = at img (4 + 4 * n + 3) })
  pub other-change : (img : List ℕ) (n : ℕ) → reel_b (record_at img n) ≡ false → change_at img n ≡ None
  pub first_three : (img : List ℕ) (n : ℕ) (c : Change) → (change_at img n ≡ Some c) ⊎ ((i : ℕ) × (i < 3) × (c ≡ afresh i)) → c.line < 3
