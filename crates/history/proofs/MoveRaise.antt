-- Header word 3 stored: it is no home word and no slot's, so the invariant is kept, and so is what a cut leaves.
use Prim.Native.Nat.{ℕ, ◌+◌, ◌*◌, ◌≤◌, ◌<◌}
use mathlib.Core.Path.{◌≡◌, refl, ap, ◌∙◌}
use mathlib.Core.Logic.{◌⊎◌, inl, inr}
use mathlib.Core.List.{List, []}
use native.Mathlib.Omega.{arith}
use lib.ListN.{length, get_or}
use Rattle.layout.specs.Image.{place_of, slot_at}
use Rattle.journal.specs.Log.{denoted, Sound}
use Rattle.history.specs.Log.{In, State, Occupied}
use Rattle.history.specs.Layout.{Home, body, log_of, view}
use Rattle.history.specs.Desk.{spot, Desk}
use Rattle.history.specs.History.{History}
use Rattle.history.proofs.Invariant.{Inv, aside}
use Rattle.history.proofs.Kept.{Holds, Crashed}
use Rattle.history.proofs.MoveQuiet.{copies-below}
use Rattle.history.proofs.MoveSeal.{place_in}
use Rattle.history.proofs.MoveSettle.{Homing, homing-back, homing-final, homing-apart}
use Rattle.history.proofs.Places.{body_same}
use Rattle.history.proofs.Slots.{One-word}

-- slots and home words are as they were
module _ (N M : ℕ) (v v' : State) (d : Desk) (h : History) (hm : Homing N (2 * M) v v' []) (inv : Inv N M v d h) where
  home : (i : ℕ) → Home N i → v'.home i ≡ v.home i
  home i k = go (hm.home-kept i k)
    where
      go : (v'.home i ≡ v.home i) ⊎ In i (v'.home i) [] → v'.home i ≡ v.home i
      go (inl e) = e
      go (inr a) = absurd a

  pub resting : Inv N M v' d h
  resting = record {
    positive = inv.positive;
    apart = homing-apart N (2 * M) v v' [] hm inv.apart;
    bounded = λ p lp. rw (hm.number_same p lp) (inv.bounded p lp);
    newer = λ p r j x lj a nn. rw (hm.number_same p a.occupied.0) (inv.newer p r j x lj (homing-back N (2 * M) v v' [] hm p (spot r j) x a) nn);
    fine = λ u lu. aside N u d.clock d.clock (d.session u) v v' h h (omega arith)
        (record {
          numbers = λ q lq. hm.number_same (place_of u q) (place_in M u q lu lq);
          logs = λ q lq. hm.log-same (place_of u q) (place_in M u q lu lq);
          drafts = refl;
          starts = refl;
          owns = λ o w. w;
          homes = λ r ws m j lj. home (spot r j) (let b : r < N = copies-below N M v d h inv u lu r ws m in (omega arith, omega arith));
        })
        (inv.fine u lu);
    excl = inv.excl;
    final = λ r j lr lj. homing-final N (2 * M) v v' [] hm (λ i x k. absurd k) (spot r j) _ (omega arith) (inv.final r j lr lj);
    views = λ r σ lr li nn j lj. home (spot r j) (omega arith) ∙ inv.views r σ lr li nn j lj;
    lasts = λ r lr nn j lj. home (spot r j) (omega arith) ∙ inv.lasts r lr nn j lj;
  }

module _ (N M n : ℕ) (img img' : List ℕ) (ow : One-word 3 n img img') where
  bodies : (q : ℕ) → body N img' q ≡ body N img q
  bodies q = body_same N img img' q ow.long (λ j lo hi. ow.others j (λ e. omega arith))

  pub raise-numbers : (q : ℕ) → get_or img' (slot_at N q) 0 ≡ get_or img (slot_at N q) 0
  raise-numbers q = ow.others (slot_at N q) (λ e. omega arith)

  homing : Homing N (2 * M) (view N img) (view N img') []
  homing = record {
    number_same = λ q l. raise-numbers q;
    log-same = λ q l. ap (λ b. denoted (log_of b)) (bodies q);
    home-kept = λ i k. inl (ow.others i (λ e. omega arith));
  }

  still-sound : ((p : ℕ) → Occupied (2 * M) (view N img) p → Sound N (log_of (body N img p))) → (p : ℕ) → Occupied (2 * M) (view N img') p → Sound N (log_of (body N img' p))
  still-sound f p o = rw (bodies p) (f p (o.0, rw (raise-numbers p) at o.1))

  -- the ceiling is no lower, if the word stored is not
  pub raise-above : get_or img 3 0 ≤ n → get_or img 3 0 ≤ get_or img' 3 0
  raise-above l = go ow.turn
    where
      go : (get_or img' 3 0 ≡ get_or img 3 0) ⊎ (get_or img' 3 0 ≡ n) → get_or img 3 0 ≤ get_or img' 3 0
      go (inl e) = omega (arith, e)
      go (inr e) = omega (arith, e, l)

  -- the invariant, with a clock that is at most the word stored
  pub raise-holds : (d : Desk) (h : History) → length img ≡ 4 + 4 * N + 44 * M
      → ((p : ℕ) → Occupied (2 * M) (view N img) p → Sound N (log_of (body N img p))) → Inv N M (view N img) d h → d.clock ≤ get_or img' 3 0
      → Holds N M img' d h
  raise-holds d h long sounds inv under =
      record { whole = ow.long ∙ long; sounds = still-sound sounds; inv = resting N M (view N img) (view N img') d h homing inv; under = under }

  -- what a cut leaves
  pub raise-crashed : (h : History) → Crashed N M img h → Crashed N M img' h
  raise-crashed h c =
      record {
        good =
            record {
              whole = ow.long ∙ c.good.whole;
              sound = still-sound c.good.sound;
              apart = homing-apart N (2 * M) (view N img) (view N img') [] homing c.good.apart;
            };
        final = λ r j lr lj. homing-final N (2 * M) (view N img) (view N img') [] homing (λ i x k. absurd k) (spot r j) _ (omega arith) (c.final r j lr lj);
      }
