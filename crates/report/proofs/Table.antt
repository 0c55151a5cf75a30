-- The table begun afresh, and over so many records: each change can be made, and makes the table of one record more.
use Prim.Native.Nat.{ℕ, zero, suc, ◌+◌, ◌-◌, ◌*◌, ◌≤◌, ◌<◌}
use Rattle.std.specs.Prelude.{Some, None}
use mathlib.Core.Path.{◌≡◌, refl, sym, ap, ◌∙◌, subst}
use mathlib.Core.Bool.{Bool, true, false, ◌&&◌, cond}
use mathlib.Core.List.{List, [], ◌∷◌}
use native.Mathlib.Omega.{arith}
use lib.ListN.{length, drop}
use lib.Dec.{eqb}
use Rattle.layout.specs.Below.{count_below}
use Rattle.layout.specs.Image.{home_words}
use Rattle.layout.proofs.BelowLaws.{count_most}
use Rattle.layout.proofs.Says.{by-test}
use Rattle.reels.specs.Reel.{reel_of}
use Rattle.reels.proofs.Faults.{both}
use Rattle.report.specs.Lines.{line_of, change_of, updated, begun, CanUpdate}
use Rattle.report.specs.Report.{reel_b, on_b, sum_below, count_to, seconds_to, table_to}
use Rattle.report.specs.Changes.{afresh, change_at, changed}
use Rattle.report.specs.declared.line.CarrierLine.{CarrierLine}
use Rattle.report.specs.declared.line.Change.{Change}
use Rattle.report.proofs.Changed.{change-reel, change-none, by-reel, by-none}
use Rattle.report.proofs.Counted.{carrier-known, reel-seconds}
use Rattle.report.proofs.Sums.{seconds-most}

three : {a b c d e f a' b' c' d' e' f' : ℕ} (rest : List CarrierLine) → a ≡ a' → b ≡ b' → c ≡ c' → d ≡ d' → e ≡ e' → f ≡ f'
    → line_of a b ∷ line_of c d ∷ line_of e f ∷ rest ≡ line_of a' b' ∷ line_of c' d' ∷ line_of e' f' ∷ rest
three rest p q r s t u = rw (p, q, r, s, t, u) refl

-- ---- lines that begin afresh
nothing : (x : ℕ) → x * 0 + 0 ≡ 0
nothing x = omega arith

pub begun_more : (line : ℕ) (ls : List CarrierLine) → 3 ≤ length ls → line < 3 → updated (begun line ls) (afresh line) ≡ begun (line + 1) ls
begun_more line [] h l = absurd (omega (arith, h))
begun_more line (a ∷ []) h l = absurd (omega (arith, h))
begun_more line (a ∷ b ∷ []) h l = absurd (omega (arith, h))
begun_more zero (a ∷ b ∷ c ∷ rest) h l = rw (nothing a.reels, nothing a.seconds) refl
begun_more (suc zero) (a ∷ b ∷ c ∷ rest) h l = rw (nothing b.reels, nothing b.seconds) refl
begun_more (suc (suc zero)) (a ∷ b ∷ c ∷ rest) h l = rw (nothing c.reels, nothing c.seconds) refl
begun_more (suc (suc (suc k))) (a ∷ b ∷ c ∷ rest) h l = absurd (omega (arith, l))

pub begun_table : (img : List ℕ) (ls : List CarrierLine) → begun 3 ls ≡ table_to img 0 ls
unfolding count_below sum_below
begun_table img ls = refl

pub begun_stays : (ls : List CarrierLine) → begun 3 ls ≡ begun 3 (begun 3 ls)
begun_stays ls = refl

pub table_begun : (img : List ℕ) (n : ℕ) (ls : List CarrierLine) → table_to img n (begun 3 ls) ≡ table_to img n ls
table_begun img n ls = refl

-- ---- one reel more
-- a line with a count and seconds more, where a test holds
abbrev grown : ℕ → ℕ → Bool → ℕ → CarrierLine
grown a b t s = line_of (a + cond t 1 0) (b + cond t s 0)

step : (k s a b c d e f : ℕ) (rest : List CarrierLine) → 1 ≤ k → k ≤ 3 → updated (line_of a b ∷ line_of c d ∷ line_of e f ∷ rest) (change_of (k - 1) 1 1 s)
    ≡ grown a b (eqb k 1) s ∷ grown c d (eqb k 2) s ∷ grown e f (eqb k 3) s ∷ rest
step zero s a b c d e f rest low high = absurd (omega arith)
step (suc zero) s a b c d e f rest low high = three rest (omega arith) (omega arith) (omega arith) (omega arith) (omega arith) (omega arith)
step (suc (suc zero)) s a b c d e f rest low high = three rest (omega arith) (omega arith) (omega arith) (omega arith) (omega arith) (omega arith)
step (suc (suc (suc zero))) s a b c d e f rest low high = three rest (omega arith) (omega arith) (omega arith) (omega arith) (omega arith) (omega arith)
step (suc (suc (suc (suc k)))) s a b c d e f rest low high = absurd (omega arith)

can-step : (k s a b c d e f : ℕ) (rest : List CarrierLine) → 1 ≤ k → k ≤ 3 → s ≤ 359999
    → a ≤ 256 → b ≤ 92159744 → c ≤ 256 → d ≤ 92159744 → e ≤ 256 → f ≤ 92159744
    → CanUpdate (line_of a b ∷ line_of c d ∷ line_of e f ∷ rest) (change_of (k - 1) 1 1 s)
can-step zero s a b c d e f rest low high h p q r t u v = absurd (omega arith)
can-step (suc zero) s a b c d e f rest low high h p q r t u v = (omega arith, omega arith, omega (arith, h))
can-step (suc (suc zero)) s a b c d e f rest low high h p q r t u v = (omega arith, omega arith, omega (arith, h))
can-step (suc (suc (suc zero))) s a b c d e f rest low high h p q r t u v = (omega arith, omega arith, omega (arith, h))
can-step (suc (suc (suc (suc k)))) s a b c d e f rest low high h p q r t u v = absurd (omega arith)

on-reels : (c : ℕ) (ws : List ℕ) → on_b c ws ≡ true → reel_b ws ≡ true
on-reels c ws e = (both (reel_b ws) (eqb (reel_of ws).carrier c) e).0

module _ (img : List ℕ) (n : ℕ) (ls : List CarrierLine) where
  abbrev ws : List ℕ
  ws = home_words img n

  -- carrier c's line with record n, where a test holds
  abbrev row : ℕ → Bool → CarrierLine
  row c t = grown (count_to (on_b c) img n) (seconds_to (on_b c) img n) t (reel_of ws).seconds

  abbrev rows : Bool → List CarrierLine
  rows g = row 1 (g && eqb (reel_of ws).carrier 1) ∷ row 2 (g && eqb (reel_of ws).carrier 2) ∷ row 3 (g && eqb (reel_of ws).carrier 3) ∷ drop 3 ls

  more-rows : table_to img (n + 1) ls ≡ rows (reel_b ws)
  unfolding count_below sum_below
  more-rows = let e : n + 1 ≡ suc n = omega arith in ap (λ (m : ℕ). table_to img m ls) e

  pub with-reel : reel_b ws ≡ true → table_to img (n + 1) ls ≡ updated (table_to img n ls) (change_of ((reel_of ws).carrier - 1) 1 1 (reel_of ws).seconds)
  with-reel y =
      let c = carrier-known ws y in
      more-rows ∙ ap rows y ∙ sym (step (reel_of ws).carrier (reel_of ws).seconds _ _ _ _ _ _ (drop 3 ls) c.0 c.1)

  pub without : reel_b ws ≡ false → table_to img (n + 1) ls ≡ table_to img n ls
  without f = more-rows ∙ ap rows f ∙ three (drop 3 ls) (omega arith) (omega arith) (omega arith) (omega arith) (omega arith) (omega arith)

  pub can-add : n ≤ 256 → reel_b ws ≡ true → CanUpdate (table_to img n ls) (change_of ((reel_of ws).carrier - 1) 1 1 (reel_of ws).seconds)
  can-add l y =
      let k = carrier-known ws y in
      can-step (reel_of ws).carrier (reel_of ws).seconds _ _ _ _ _ _ (drop 3 ls) k.0 k.1 (reel-seconds ws y)
      (count 1) (seconds 1) (count 2) (seconds 2) (count 3) (seconds 3)
    where
      count : (c : ℕ) → count_to (on_b c) img n ≤ 256
      count c = omega (arith, l, count_most (λ r. on_b c (home_words img r)) n)

      seconds : (c : ℕ) → seconds_to (on_b c) img n ≤ 92159744
      seconds c = omega (arith, l, seconds-most (on_b c) (on-reels c) img n)

  -- by the change that the record makes
  pub some_change : (c : Change) → change_at img n ≡ Some c → table_to img (n + 1) ls ≡ updated (table_to img n ls) c
  some_change c e = let k = by-reel img n c e in with-reel k.0 ∙ ap (updated (table_to img n ls)) (sym k.1)

  pub can_change : (c : Change) → change_at img n ≡ Some c → n ≤ 256 → CanUpdate (table_to img n ls) c
  can_change c e l = let k = by-reel img n c e in subst (CanUpdate (table_to img n ls)) (sym k.1) (can-add l k.0)

  pub no_change : change_at img n ≡ None → table_to img (n + 1) ls ≡ table_to img n ls
  no_change e = without (by-none img n e)

pub one-record : (img : List ℕ) (n : ℕ) (ls : List CarrierLine) → table_to img (n + 1) ls ≡ changed (table_to img n ls) (change_at img n)
one-record img n ls =
    by-test (reel_b (home_words img n))
    (λ y. with-reel img n ls y ∙ ap (changed (table_to img n ls)) (sym (change-reel img n y)))
    (λ f. without img n ls f ∙ ap (changed (table_to img n ls)) (sym (change-none img n f)))
