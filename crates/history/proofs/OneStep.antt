-- A cut of the entries that apply one log is a `Step` of the abstract theorem, and keeps the image good.
use Prim.Native.Nat.{ℕ, ◌+◌, ◌*◌, ◌≤◌, ◌<◌}
use mathlib.Core.Path.{◌≡◌, sym, ap, ◌∙◌}
use mathlib.Core.Logic.{◌⊎◌, inl, inr, ◌≢◌}
use mathlib.Core.List.{List}
use native.Mathlib.Omega.{arith}
use lib.ListN.{get_or}
use Rattle.history.specs.Desk.{spot}
use Rattle.history.specs.Log.{In, Occupied, Puts}
use Rattle.journal.specs.Log.{denoted}
use Rattle.layout.specs.Image.{slot_at}
use Rattle.history.specs.Layout.{Home, body, log_of, view, Good}
use Rattle.history.proofs.Abstract.{Step, number-back, occupied-back, puts_back}
use Rattle.history.proofs.Batch.{Words}
use Rattle.history.proofs.LogForm.{sound-home}
use Rattle.history.proofs.Places.{body_same, home-apart, slot_at-apart, inside-apart}

-- over an image: `Words` at slot p is a `Step`, and keeps the image good
module _ (N M : ℕ) (img img' : List ℕ) (p : ℕ) (good : Good N M img) (occ : Occupied (2 * M) (view N img) p) (ws : Words (denoted (log_of (body N img p))) (slot_at N p) 0 img img') where
  homes : (i w : ℕ) → In i w (denoted (log_of (body N img p))) → Home N i
  homes = sound-home N (log_of (body N img p)) (good.sound p occ)

  -- a word that is no home word and not slot p's number is as it was
  beyond : (j : ℕ) → 4 + 4 * N ≤ j → j ≢ slot_at N p → get_or img' j 0 ≡ get_or img j 0
  beyond j lo n = go (ws.word j n)
    where
      go : (get_or img' j 0 ≡ get_or img j 0) ⊎ In j (get_or img' j 0) (denoted (log_of (body N img p))) → get_or img' j 0 ≡ get_or img j 0
      go (inl e) = e
      go (inr h) = let hj : Home N j = homes j _ h in absurd (omega arith)

  bodies : (q : ℕ) → body N img' q ≡ body N img q
  bodies q = body_same N img img' q ws.long (λ j lo hi. beyond j (omega arith) (inside-apart N p q j lo hi))

  pub step : Step (2 * M) (Home N) (view N img) (view N img') p
  step = record {
    log-same = λ q l. ap (λ b. denoted (log_of b)) (bodies q);
    number_same = λ q l n. beyond (slot_at N q) (omega arith) (slot_at-apart N q p n);
    home-kept = λ i h. ws.word i (λ e. let lt : i < slot_at N p = home-apart N p i h in omega arith);
    turn = ws.turn;
  }

  pub still-good : Good N M img'
  still-good = record {
    whole = ws.long ∙ good.whole;
    sound = λ q o. rw (bodies q) (good.sound q (occupied-back (2 * M) (Home N) (view N img) (view N img') p step q o));
    apart = λ q u r j l v w lj ll n a c e. good.apart q u r j l v w lj ll n (back q (spot r j) v a) (back u (spot r l) w c) (sym (number q v a) ∙ e ∙ number u w c);
  }
    where
      back : (q i v : ℕ) → Puts (2 * M) (view N img') q i v → Puts (2 * M) (view N img) q i v
      back = puts_back (2 * M) (Home N) (view N img) (view N img') p step

      number : (q : ℕ) {i : ℕ} (v : ℕ) → Puts (2 * M) (view N img') q i v → get_or img' (slot_at N q) 0 ≡ get_or img (slot_at N q) 0
      number q v a = number-back (2 * M) (Home N) (view N img) (view N img') p step q a.occupied
