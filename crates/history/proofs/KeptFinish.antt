-- Finish keeps the invariant.
use Prim.Native.Nat.{ℕ, ◌*◌, ◌≤◌, ◌<◌}
use mathlib.Core.Path.{◌≡◌, refl, ap, ◌∙◌}
use mathlib.Core.Logic.{◌⊎◌, inl, inr, ◌≢◌}
use mathlib.Core.Bool.{Bool, true, false, cond, not}
use mathlib.Core.List.{List, [], ◌∷◌}
use native.Mathlib.Decide.{ℕ_discrete}
use native.Mathlib.Omega.{arith}
use lib.ListN.{length, get_or}
use lib.Dec.{T, eqb, leb, eqb→eq}
use Rattle.layout.specs.Crash.{crashed as cut}
use Rattle.layout.specs.Entries.{made}
use Rattle.layout.specs.Image.{place_of, slot_at}
use Rattle.layout.specs.Told.{sealed_at}
use Rattle.history.specs.Log.{In, Occupied}
use Rattle.history.specs.Layout.{Home, body, log_of, view}
use Rattle.desk.specs.Coherent.{limit}
use Rattle.journal.specs.Log.{denoted, Sound}
use Rattle.history.specs.Batch.{batch}
use Rattle.history.specs.Call.{finish}
use Rattle.history.specs.Cut.{feed_cut}
use Rattle.history.specs.Desk.{Copy, spot, Session, idle, active, sealed, published, Desk, upd, with_session}
use Rattle.history.specs.Due.{refuse, finish_stores, finishes, due_of}
use Rattle.history.specs.History.{History, record_of, sealing}
use Rattle.history.proofs.Batch.{Words, Fit, cut-words, made-words, made-turned}
use Rattle.history.proofs.Beside.{Beside, beside-old, beside_back}
use Rattle.history.proofs.Book.{unseen}
use Rattle.history.proofs.Copies.{neqb→ne, Mem, upd_same, upd_other}
use Rattle.history.proofs.Invariant.{Active}
use Rattle.history.proofs.HeldHome.{held-home}
use Rattle.history.proofs.LogForm.{body_at, Stands, body-stands, log-batch}
use Rattle.history.proofs.MoveSeal.{seal, place_in}
use Rattle.history.proofs.Slots.{finish-fit, finish-bodies, finish-numbers, finish-homes, finish-outside}
use Rattle.history.proofs.Kept.{Holds, Crashed, crashed, Done, refusing, past_room, past-session, left-empty}

module _ (N M : ℕ) (img : List ℕ) (d : Desk) (h : History) (H : Holds N M img d h) (len s : ℕ) where
  module _ (l : s < M) (b q : ℕ) (cs : List Copy) (is : d.session s ≡ active b q cs) (some-copy : 1 ≤ length cs) where
    act : Active N (view N img) h d.clock s b q cs
    act = rw is at (H.inv.fine s l)

    inside : place_of s q < 2 * M
    inside = place_in M s q l act.reserved

    vacant : get_or img (slot_at N (place_of s q)) 0 ≡ 0
    vacant = act.vacant some-copy

    module _ (img' : List ℕ) (ws : Words (body_at N (record_of h) (slot_at N (place_of s q)) cs) (slot_at N (place_of s q)) d.clock img img') where
      bodies : (u : ℕ) → u ≢ place_of s q → body N img' u ≡ body N img u
      bodies = finish-bodies N M img (record_of h) (place_of s q) d.clock cs H.whole inside act.lawful some-copy img' ws

      numbers : (u : ℕ) → u ≢ place_of s q → get_or img' (slot_at N u) 0 ≡ get_or img (slot_at N u) 0
      numbers = finish-numbers N M img (record_of h) (place_of s q) d.clock cs H.whole inside act.lawful some-copy img' ws

      homes : (i : ℕ) → Home N i → get_or img' i 0 ≡ get_or img i 0
      homes = finish-homes N M img (record_of h) (place_of s q) d.clock cs H.whole inside act.lawful some-copy img' ws

      below-home : (j : ℕ) → j < 4 → get_or img' j 0 ≡ get_or img j 0
      below-home j lj = finish-outside N M img (record_of h) (place_of s q) d.clock cs H.whole inside act.lawful some-copy img' ws j (inl (omega arith))

      was : (u : ℕ) → u ≢ place_of s q → Occupied (2 * M) (view N img') u → Occupied (2 * M) (view N img) u
      was u n o = (o.0, rw (numbers u n) at o.1)

      -- the number has not arrived: nothing has changed its meaning
      not_yet : get_or img' (slot_at N (place_of s q)) 0 ≡ 0 → Crashed N M img' h
      not_yet z = record {
        good = record {
          whole = ws.long ∙ H.whole;
          sound = λ u o. rw (bodies u (off u o)) (H.sounds u (was u (off u o) o));
          apart = λ u t r j m x y lj lm n a c.
              rw (numbers u (off u a.occupied), numbers t (off t c.occupied))
              (H.inv.apart u t r j m x y lj lm n (beside_back (2 * M) (Home N) (view N img) (view N img') (place_of s q) beside u (spot r j) x (off u a.occupied) a)
              (beside_back (2 * M) (Home N) (view N img) (view N img') (place_of s q) beside t (spot r m) y (off t c.occupied) c));
        };
        final = λ r j lr lj. beside-old (2 * M) (Home N) (view N img) (view N img') (place_of s q) beside (spot r j) _ (omega arith) (λ x a. a.occupied.1 z) (H.inv.final r j lr lj);
      }
        where
          off : (u : ℕ) → Occupied (2 * M) (view N img') u → u ≢ place_of s q
          off u o e = o.1 (rw e z)

          beside : Beside (2 * M) (Home N) (view N img) (view N img') (place_of s q)
          beside = record { empty = vacant; log-same = λ u lu n. ap (λ b. denoted (log_of b)) (bodies u n); number_same = λ u lu n. numbers u n; home_same = homes }

      -- the number has arrived, and so has everything: sealed
      has : get_or img' (slot_at N (place_of s q)) 0 ≡ d.clock → ((i w : ℕ) → In i w (body_at N (record_of h) (slot_at N (place_of s q)) cs) → get_or img' i 0 ≡ w)
          → Holds N M img' (with_session s (sealed d.clock q cs) d) (sealing s h)
      has e all = record {
        whole = ws.long ∙ H.whole;
        sounds = λ u o. go u o (ℕ_discrete u (place_of s q));
        inv = seal N M (view N img) (view N img') d h s b q cs H.inv l is some-copy
            (record {
              was-empty = vacant;
              number-p = e;
              only-p = holds.only;
              covers-p = λ r ws' m j lj. at_home r ws' m j lj (holds.covers r ws' m j lj);
              number_same = λ u lu n. numbers u n;
              log-same = λ u lu n. ap (λ b. denoted (log_of b)) (bodies u n);
              home_same = homes;
            });
        under = omega (arith, H.under, below-home 3 (omega arith));
      }
        where
          holds : Stands N (record_of h) cs (log_of (body N img' (place_of s q)))
          holds = body-stands N img' (place_of s q) (record_of h) cs act.lawful some-copy all

          -- the book's record is the one at home
          at_home : (r : ℕ) (ws' : List ℕ) → Mem r ws' cs → (j : ℕ) → j < 4
              → In (spot r j) (get_or ws' j 0) (denoted (log_of (body N img' (place_of s q)))) ⊎ (get_or (record_of h r) j 0 ≡ get_or ws' j 0)
              → In (spot r j) (get_or ws' j 0) (denoted (log_of (body N img' (place_of s q)))) ⊎ ((view N img).home (spot r j) ≡ get_or ws' j 0)
          at_home r ws' m j lj (inl k) = inl k
          at_home r ws' m j lj (inr x) = inr (held-home N M (view N img) d h s b q cs H.inv l is r ws' m j lj ∙ x)

          go : (u : ℕ) → Occupied (2 * M) (view N img') u → Dec (u ≡ place_of s q) → Sound N (log_of (body N img' u))
          go u o (yes x) = rw x holds.sound
          go u o (no n) = rw (bodies u n) (H.sounds u (was u n o))

    fit : Fit (body_at N (record_of h) (slot_at N (place_of s q)) cs) (slot_at N (place_of s q)) img
    fit = finish-fit N M img (record_of h) (place_of s q) d.clock cs H.whole inside act.lawful some-copy

    sealed-done : Done N M img d h (finish len s) (record { answer = sealed_at d.clock; entries = batch (body_at N (record_of h) (slot_at N (place_of s q)) cs) (slot_at N (place_of s q)) d.clock })
    sealed-done = record {
      kept = rw is (kept_by finished-words.turn);
      later = record { clock = omega arith; views = λ σ r k. unseen σ r h.sealed s (h.draft s) (h.opening r) };
      marks = λ p. rw is (mark p (ℕ_discrete p (place_of s q)));
      low = λ j lj. below-home finished finished-words j (omega arith);
      top = below-home finished finished-words 3 (omega arith);
      low-cut = λ k sel j lj. below-home _ (cut-words _ (slot_at N (place_of s q)) d.clock img fit k sel) j (omega arith);
      top-cut = λ k sel. omega (arith, below-home _ (cut-words _ (slot_at N (place_of s q)) d.clock img fit k sel) 3 (omega arith));
      broken = λ k sel. cut_by k sel (cut-words _ (slot_at N (place_of s q)) d.clock img fit k sel);
    }
      where
        finished : List ℕ
        finished = made (batch (body_at N (record_of h) (slot_at N (place_of s q)) cs) (slot_at N (place_of s q)) d.clock) img

        finished-words : Words (body_at N (record_of h) (slot_at N (place_of s q)) cs) (slot_at N (place_of s q)) d.clock img finished
        finished-words = made-words _ (slot_at N (place_of s q)) d.clock img fit

        turned : get_or finished (slot_at N (place_of s q)) 0 ≡ d.clock
        turned = made-turned _ (slot_at N (place_of s q)) d.clock img fit (omega (arith, H.whole, inside))

        mark : (p : ℕ) → Dec (p ≡ place_of s q) → get_or finished (slot_at N p) 0 ≡ upd (place_of s q) d.clock (view N img).number p
        mark p (yes e) = rw (e, upd_same (place_of s q) d.clock (view N img).number) turned
        mark p (no n) = rw (upd_other (place_of s q) d.clock (view N img).number p n) (numbers finished finished-words p n)

        kept_by : (get_or finished (slot_at N (place_of s q)) 0 ≡ get_or img (slot_at N (place_of s q)) 0)
            ⊎ ((get_or finished (slot_at N (place_of s q)) 0 ≡ d.clock) × ((i w : ℕ) → In i w (body_at N (record_of h) (slot_at N (place_of s q)) cs) → get_or finished i 0 ≡ w))
            → Holds N M finished (with_session s (sealed d.clock q cs) d) (sealing s h)
        kept_by (inl e) = absurd (omega (arith, H.inv.positive, turned, e, vacant))
        kept_by (inr c) = has finished finished-words c.0 c.1

        cut_by : (k : ℕ) (sel : ℕ → Bool)
            → Words (body_at N (record_of h) (slot_at N (place_of s q)) cs) (slot_at N (place_of s q)) d.clock img (cut k sel (batch (body_at N (record_of h) (slot_at N (place_of s q)) cs) (slot_at N (place_of s q)) d.clock) img)
            → Crashed N M (cut k sel (batch (body_at N (record_of h) (slot_at N (place_of s q)) cs) (slot_at N (place_of s q)) d.clock) img)
            (feed_cut N d (finish len s) (sealed_at d.clock) (cut k sel (batch (body_at N (record_of h) (slot_at N (place_of s q)) cs) (slot_at N (place_of s q)) d.clock) img) h)
        cut_by k sel ws = rw is (at (eqb (get_or left (slot_at N (place_of s q)) 0) d.clock) (eqb→eq _ d.clock) (neqb→ne _ d.clock) ws.turn)
          where
            left : List ℕ
            left = cut k sel (batch (body_at N (record_of h) (slot_at N (place_of s q)) cs) (slot_at N (place_of s q)) d.clock) img

            at : (t : Bool) → (T t → get_or left (slot_at N (place_of s q)) 0 ≡ d.clock) → (T (not t) → get_or left (slot_at N (place_of s q)) 0 ≢ d.clock)
                → (get_or left (slot_at N (place_of s q)) 0 ≡ get_or img (slot_at N (place_of s q)) 0)
                ⊎ ((get_or left (slot_at N (place_of s q)) 0 ≡ d.clock) × ((i w : ℕ) → In i w (body_at N (record_of h) (slot_at N (place_of s q)) cs) → get_or left i 0 ≡ w))
                → Crashed N M left (cond t (sealing s h) h)
            at true y n (inl e) = absurd (omega (arith, H.inv.positive, y tt, e, vacant))
            at true y n (inr c) = crashed N M left _ _ (has left ws c.0 c.1)
            at false y n (inl e) = not_yet left ws (e ∙ vacant)
            at false y n (inr c) = absurd (n tt c.0)

  finish-at : s < M → (x : Session) → d.session s ≡ x → Done N M img d h (finish len s) (finishes N h d.clock s x)
  finish-at l idle e = refusing N M img d h H (finish len s) 6 refl
  finish-at l (active b q []) e =
      left-empty N M img d h H (finish len s) s b q e l (λ _. refl) refl refl (λ _. refl)
  finish-at l (active b q (c ∷ cs)) e = go (leb limit d.clock)
    where
      go : (t : Bool) → Done N M img d h (finish len s) (cond t (refuse 10) (record { answer = sealed_at d.clock; entries = finish_stores N h (place_of s q) d.clock (c ∷ cs) }))
      go true = refusing N M img d h H (finish len s) 10 refl
      go false = rw (log-batch N (record_of h) (slot_at N (place_of s q)) d.clock (c ∷ cs)) (sealed-done l b q (c ∷ cs) e (omega arith))
  finish-at l (sealed n q cs) e = refusing N M img d h H (finish len s) 6 refl
  finish-at l (published f q cs) e = refusing N M img d h H (finish len s) 6 refl

  pub finish-done : Done N M img d h (finish len s) (due_of N M (view N img).number (get_or img 3 0) d h (finish len s))
  finish-done =
      past_room N M img d h H (finish len s) len _ (past-session N M img d h H (finish len s) s _ (λ l. finish-at l (d.session s) refl))
