-- Sums over the records, and how they grow by one record.
use Prim.Native.Nat.{ℕ, zero, suc, ◌+◌, ◌*◌, ◌<◌, ◌≤◌}
use mathlib.Core.Path.{◌≡◌, refl, sym, ap, ◌∙◌}
use mathlib.Core.Bool.{Bool, true, false, cond}
use mathlib.Core.List.{List}
use native.Mathlib.Omega.{arith}
use native.Mathlib.Numerals.{add-one}
use Rattle.layout.specs.Image.{records_of, home_words}
use Rattle.layout.proofs.BelowLaws.{count-more, count_most}
use Rattle.reels.specs.Reel.{reel_of, unused_b}
use Rattle.reels.specs.declared.reel.Reel.{Reel}
use Rattle.report.specs.Report.{reel_b, bad_b, sum_below, count_to, seconds_at, seconds_to, filled}
use Rattle.report.specs.Changes.{counted_as}
use Rattle.report.specs.declared.counting.RecordKind.TheVariants.{Unused as CountsUnused, Reel as OnReel, Bad}
use Rattle.report.specs.declared.summing.Totals.{Totals}
use Rattle.report.proofs.Counted.{as-reel, as-unused, as-bad, reel-seconds}

pub sum_more : (f : ℕ → ℕ) (i : ℕ) → sum_below (i + 1) f ≡ sum_below i f + f i
unfolding sum_below
sum_more f i = rw add-one

-- sums that agree number by number
pub sum_same : (f g : ℕ → ℕ) (n : ℕ) → ((i : ℕ) → i < n → f i ≡ g i) → sum_below n f ≡ sum_below n g
unfolding sum_below
sum_same f g zero same = refl
sum_same f g (suc n) same = rw (sum_same f g n (λ i l. same i (omega arith)), same n (omega arith))

-- the seconds of records that pass a test which only reels pass
module _ (test : List ℕ → Bool) (reels : (ws : List ℕ) → test ws ≡ true → reel_b ws ≡ true) (img : List ℕ) where
  at_most : (r : ℕ) → seconds_at test img r ≤ 359999
  at_most r = go (test (home_words img r)) refl
    where
      go : (b : Bool) → test (home_words img r) ≡ b → cond b (reel_of (home_words img r)).seconds 0 ≤ 359999
      go true e = reel-seconds (home_words img r) (reels (home_words img r) e)
      go false e = omega arith

  pub seconds-most : (n : ℕ) → seconds_to test img n ≤ n * 359999
  unfolding sum_below
  seconds-most zero = omega arith
  seconds-most (suc n) = omega (arith, seconds-most n, at_most n)

-- what record n adds to a count and a sum, by whether it passes the test
module _ (t : List ℕ → Bool) (img : List ℕ) (n : ℕ) where
  pub counted : t (home_words img n) ≡ true
      → (count_to t img (n + 1) ≡ count_to t img n + 1) × (seconds_to t img (n + 1) ≡ seconds_to t img n + (reel_of (home_words img n)).seconds)
  counted e = (
    count-more (λ r. t (home_words img r)) n ∙ ap (λ (b : Bool). count_to t img n + cond b 1 0) e,
    sum_more (seconds_at t img) n ∙ ap (λ (b : Bool). seconds_to t img n + cond b (reel_of (home_words img n)).seconds 0) e,
  )

  pub left_out : t (home_words img n) ≡ false → (count_to t img (n + 1) ≡ count_to t img n) × (seconds_to t img (n + 1) ≡ seconds_to t img n)
  left_out e = (
    count-more (λ r. t (home_words img r)) n ∙ ap (λ (b : Bool). count_to t img n + cond b 1 0) e ∙ add-zero,
    sum_more (seconds_at t img) n ∙ ap (λ (b : Bool). seconds_to t img n + cond b (reel_of (home_words img n)).seconds 0) e ∙ add-zero,
  )
    where
      add-zero : {m : ℕ} → m + 0 ≡ m
      add-zero = omega arith

-- the totals over the first n records
pub record TotalsTo (img : List ℕ) (n a b c d : ℕ) : Type 0 where
  pub reels : a ≡ count_to reel_b img n
  pub seconds : b ≡ seconds_to reel_b img n
  pub bad : c ≡ count_to bad_b img n
  pub unused : d ≡ count_to unused_b img n

module _ (img : List ℕ) (n a b c d : ℕ) (t : TotalsTo img n a b c d) where
  pub with-reel : (r : Reel) → counted_as (home_words img n) ≡ OnReel r → TotalsTo img (n + 1) (a + 1) (b + r.seconds) c d
  with-reel r e =
      let k = as-reel (home_words img n) r e in
      let s = counted reel_b img n k.2 in
      record {
        reels = omega (arith, t.reels, s.0);
        seconds = omega (arith, t.seconds, s.1, ap (λ (x : Reel). x.seconds) k.0);
        bad = t.bad ∙ sym (left_out bad_b img n k.3).0;
        unused = t.unused ∙ sym (left_out unused_b img n k.4).0;
      }

  pub with-unused : counted_as (home_words img n) ≡ CountsUnused → TotalsTo img (n + 1) a b c (d + 1)
  with-unused e =
      let k = as-unused (home_words img n) e in
      let s = left_out reel_b img n k.1 in
      record {
        reels = t.reels ∙ sym s.0;
        seconds = t.seconds ∙ sym s.1;
        bad = t.bad ∙ sym (left_out bad_b img n k.2).0;
        unused = omega (arith, t.unused, (counted unused_b img n k.3).0);
      }

  pub with-bad : counted_as (home_words img n) ≡ Bad → TotalsTo img (n + 1) a b (c + 1) d
  with-bad e =
      let k = as-bad (home_words img n) e in
      let s = left_out reel_b img n k.1 in
      record {
        reels = t.reels ∙ sym s.0;
        seconds = t.seconds ∙ sym s.1;
        bad = omega (arith, t.bad, (counted bad_b img n k.2).0);
        unused = t.unused ∙ sym (left_out unused_b img n k.3).0;
      }

  -- they are small
  pub few : (a ≤ n) × (b ≤ n * 359999) × (c ≤ n) × (d ≤ n)
  few = (
    omega (arith, t.reels, count_most (λ r. reel_b (home_words img r)) n),
    omega (arith, t.seconds, seconds-most reel_b (λ ws e. e) img n),
    omega (arith, t.bad, count_most (λ r. bad_b (home_words img r)) n),
    omega (arith, t.unused, count_most (λ r. unused_b (home_words img r)) n),
  )

-- over all records they are the totals
pub all-summed : (img : List ℕ) (n : ℕ) (t : Totals) → n ≡ records_of img → TotalsTo img n t.reels t.seconds t.bad t.unused → t ≡ filled img
all-summed img n t e s =
    let h : record { reels = t.reels; seconds = t.seconds; bad = t.bad; unused = t.unused } ≡ filled img = rw (s.reels, s.seconds, s.bad, s.unused, e) refl in h
