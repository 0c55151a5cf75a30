-- Crash recovery: a step with the oldest log, whole or broken off anywhere, keeps each home word's final word, and a whole one empties the slot.
use Prim.Native.Nat.{ℕ, ◌*◌, ◌<◌}
use mathlib.Core.Path.{◌≡◌}
use mathlib.Core.Logic.{◌⊎◌, inl, inr, ◌≢◌}
use mathlib.Core.List.{List}
use native.Mathlib.Omega.{arith}
use lib.ListN.{length, get_or}
use Rattle.history.specs.Log.{In, Oldest, Final}
use Rattle.layout.specs.Entries.{made}
use Rattle.journal.specs.Log.{denoted}
use Rattle.layout.specs.Image.{slot_at}
use Rattle.history.specs.Layout.{Home, body, log_of, view, Good}
use Rattle.history.specs.Recover.{replay_at, Reach, whole, broken, reached}
use Rattle.history.proofs.Abstract.{final-kept}
use Rattle.history.proofs.LogForm.{sound-home, sound-functional}
use Rattle.history.proofs.OneStep.{step, still-good}
use Rattle.history.proofs.Batch.{Words, Fit, cut-words, made-words, made-turned}

-- img' is good where img is, and has the same final words
pub record Carries (N M : ℕ) (img img' : List ℕ) : Type 0 where
  pub good : Good N M img'
  pub final : (i w : ℕ) → Home N i → Final (2 * M) (view N img) i w → Final (2 * M) (view N img') i w

module _ (N M : ℕ) (img : List ℕ) (g : Good N M img) (p : ℕ) (f : Oldest (2 * M) (view N img) p) where
  fits : slot_at N p < length img
  fits = omega (arith, g.whole, f.occupied.0)

  home : (i w : ℕ) → In i w (denoted (log_of (body N img p))) → Home N i
  home = sound-home N (log_of (body N img p)) (g.sound p f.occupied)

  fit : Fit (denoted (log_of (body N img p))) (slot_at N p) img
  fit = record {
    functional = sound-functional N (log_of (body N img p)) (g.sound p f.occupied);
    apart = λ i w h e. omega (arith, home i w h);
    inside = λ i w h. omega (arith, home i w h, fits);
  }

  run-words : (a : Reach) → Words (denoted (log_of (body N img p))) (slot_at N p) 0 img (reached a (replay_at N img p) img)
  run-words whole = made-words (denoted (log_of (body N img p))) (slot_at N p) 0 img fit
  run-words (broken k sel) = cut-words (denoted (log_of (body N img p))) (slot_at N p) 0 img fit k sel

  -- T1: a step with the oldest log, whole or broken off anywhere, keeps the image good, and its final words
  pub step-carries : (a : Reach) → Carries N M img (reached a (replay_at N img p) img)
  step-carries a = record {
    good = still-good N M img _ p g f.occupied (run-words a);
    final = λ i w h. final-kept (2 * M) (Home N) (view N img) (view N _) p (step N M img _ p g f.occupied (run-words a)) f i w h;
  }

  -- and touches nothing but home words and its persist number: no header, no log
  pub step-elsewhere : (a : Reach) (j : ℕ) → ¬ Home N j → j ≢ slot_at N p → get_or (reached a (replay_at N img p) img) j 0 ≡ get_or img j 0
  step-elsewhere a j nh nb = go ((run-words a).word j nb)
    where
      go : (get_or (reached a (replay_at N img p) img) j 0 ≡ get_or img j 0) ⊎ In j (get_or (reached a (replay_at N img p) img) j 0) (denoted (log_of (body N img p)))
          → get_or (reached a (replay_at N img p) img) j 0 ≡ get_or img j 0
      go (inl e) = e
      go (inr h) = absurd (nh (home j _ h))

  -- T2: a whole step empties the slot
  pub step-empties : get_or (made (replay_at N img p) img) (slot_at N p) 0 ≡ 0
  step-empties = made-turned (denoted (log_of (body N img p))) (slot_at N p) 0 img fit fits
