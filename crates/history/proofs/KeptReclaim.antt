-- Reclaim keeps the invariant.
use Prim.Native.Nat.{ℕ, zero, suc, ◌*◌, ◌≤◌, ◌<◌}
use mathlib.Core.Path.{◌≡◌, refl, sym, ap, ◌∙◌}
use mathlib.Core.Logic.{◌⊎◌, inl, inr, ◌≢◌}
use mathlib.Core.Bool.{Bool, true, false, cond, not, ◌&&◌}
use mathlib.Core.Option.{Option, none, some}
use mathlib.Core.List.{List, []}
use native.Mathlib.Decide.{ℕ_discrete}
use native.Mathlib.Omega.{arith}
use lib.ListN.{get_or}
use lib.Seq.{get_or-set_same}
use lib.Dec.{T, eqb, leb, ltb, nltb→le}
use borrow.Author.Tests.{ne_eqb, leb-true, leb-false}
use Rattle.layout.proofs.Says.{by-test}
use Rattle.layout.specs.Crash.{crashed as cut}
use Rattle.layout.specs.Entries.{made}
use Rattle.layout.specs.Image.{place_of, slot_at}
use Rattle.layout.specs.Told.{nothing, held, cleared}
use Rattle.journal.specs.Log.{denoted}
use Rattle.history.specs.Log.{Occupied, Oldest}
use Rattle.history.specs.Layout.{log_of, view}
use Rattle.history.specs.Call.{reclaim}
use Rattle.history.specs.Desk.{spot, Session, idle, active, sealed, published, Desk, upd}
use Rattle.history.specs.Due.{say, lesser, smallest, clear_stores, clears, reclaims, due_of}
use Rattle.history.specs.History.{History}
use Rattle.history.specs.Ledger.{free, choice, candidate, emptied}
use Rattle.history.proofs.Copies.{neqb→ne, upd_same, upd_other}
use Rattle.history.proofs.Invariant.{Fine}
use Rattle.history.proofs.Places.{slot_at-apart}
use Rattle.history.proofs.MoveSeal.{place_in, place-apart}
use Rattle.history.proofs.MoveSettle.{Homing, homing-final, homing-apart}
use Rattle.history.proofs.MoveClear.{Off, clearing}
use Rattle.history.proofs.Slots.{One-word, made_one, cut-one, clear-bodies, clear-emptied, unturned}
use Rattle.history.proofs.Kept.{Holds, Crashed, crashed, Done, same, past_room, past-session}

-- ---- the smallest persist number

lesser-left : (m n : ℕ) → m ≢ 0 → (lesser m n ≤ m) × (lesser m n ≢ 0)
lesser-left m n z =
    by-test (eqb n 0) (λ e. rw e (omega arith, z))
    (λ e. rw (e, ne_eqb m 0 z) (by-test (leb m n) (λ t. rw t (omega arith, z)) (λ t. rw t (omega (arith, leb-false m n t), λ y. not-zero y e))))
  where
    not-zero : n ≡ 0 → eqb n 0 ≡ false → ⊥
    not-zero y e = neqb→ne n 0 (rw e tt) y

lesser-right : (m n : ℕ) → n ≢ 0 → (lesser m n ≤ n) × (lesser m n ≢ 0)
lesser-right m n z =
    rw (ne_eqb n 0 z)
    (by-test (eqb m 0) (λ e. rw e (omega arith, z))
    (λ e. rw e (by-test (leb m n) (λ t. rw t (leb-true m n t, neqb→ne m 0 (rw e tt))) (λ t. rw t (omega arith, z)))))

-- is at most the number of any occupied slot, and there is one
pub smallest-below : (f : ℕ → ℕ) (k p : ℕ) → p < k → f p ≢ 0 → (smallest f k ≤ f p) × (smallest f k ≢ 0)
unfolding smallest
smallest-below f zero p l z = absurd (omega arith)
smallest-below f (suc k) p l z = go (ℕ_discrete p k) (λ m. smallest-below f k p m z)
  where
    go : Dec (p ≡ k) → (p < k → (smallest f k ≤ f p) × (smallest f k ≢ 0)) → (lesser (smallest f k) (f k) ≤ f p) × (lesser (smallest f k) (f k) ≢ 0)
    go (yes e) ih = rw (sym e) (lesser-right (smallest f p) (f p) z)
    go (no n) ih =
        let a = ih (omega arith) in
        let b = lesser-left (smallest f k) (f k) a.1 in
        (omega (arith, a.0, b.0), b.1)

-- where it is not 0 it is the number of a slot
pub smallest-among : (f : ℕ → ℕ) (k : ℕ) → smallest f k ≢ 0 → (p : ℕ) × (p < k) × (f p ≡ smallest f k)
unfolding smallest
smallest-among f zero z = absurd (z refl)
smallest-among f (suc k) z = go (λ n. smallest-among f k n)
  where
    earlier : (smallest f k ≢ 0 → (p : ℕ) × (p < k) × (f p ≡ smallest f k)) → smallest f k ≢ 0 → (p : ℕ) × (p < suc k) × (f p ≡ smallest f k)
    earlier ih n = let a = ih n in (a.0, omega (arith, a.1), a.2)

    go : (smallest f k ≢ 0 → (p : ℕ) × (p < k) × (f p ≡ smallest f k)) → (p : ℕ) × (p < suc k) × (f p ≡ lesser (smallest f k) (f k))
    go ih =
        by-test (eqb (f k) 0) (λ e. rw e (earlier ih (rw e at z)))
        (λ e. by-test (eqb (smallest f k) 0) (λ m. rw (e, m) (k, omega arith, refl))
        (λ m. by-test (leb (smallest f k) (f k)) (λ t. rw (e, m, t) (earlier ih (neqb→ne _ 0 (rw m tt)))) (λ t. rw (e, m, t) (k, omega arith, refl))))

-- ----

module _ (N M : ℕ) (img : List ℕ) (d : Desk) (h : History) (H : Holds N M img d h) (len s : ℕ) where
  -- what a candidate is
  abbrev Cand : Session → Option ℕ → Type 0
  Cand x none = Unit {0}
  Cand x (some q) = (q < 2) × ((view N img).number (place_of s q) ≢ 0) × T (free q x)

  candidate? : (x : Session) → Cand x (candidate (view N img).number s x)
  candidate? x = go (not (eqb ((view N img).number (place_of s 0)) 0) && free 0 x) (not (eqb ((view N img).number (place_of s 1)) 0) && free 1 x)
      (both (eqb ((view N img).number (place_of s 0)) 0) (free 0 x) (neqb→ne _ 0)) (both (eqb ((view N img).number (place_of s 1)) 0) (free 1 x) (neqb→ne _ 0))
    where
      both : {m : ℕ} (t f : Bool) → (T (not t) → m ≢ 0) → T (not t && f) → (m ≢ 0) × T f
      both true f n k = absurd k
      both false true n k = (n tt, tt)
      both false false n k = absurd k

      go : (b₀ b₁ : Bool) → (T b₀ → ((view N img).number (place_of s 0) ≢ 0) × T (free 0 x)) → (T b₁ → ((view N img).number (place_of s 1) ≢ 0) × T (free 1 x))
          → Cand x (choice ((view N img).number (place_of s 0)) ((view N img).number (place_of s 1)) b₀ b₁)
      go false false y₀ y₁ = tt
      go false true y₀ y₁ = (omega arith, (y₁ tt).0, (y₁ tt).1)
      go true false y₀ y₁ = (omega arith, (y₀ tt).0, (y₀ tt).1)
      go true true y₀ y₁ = at (leb ((view N img).number (place_of s 0)) ((view N img).number (place_of s 1)))
        where
          at : (b : Bool) → Cand x (cond b (some 0) (some 1))
          at true = (omega arith, (y₀ tt).0, (y₀ tt).1)
          at false = (omega arith, (y₁ tt).0, (y₁ tt).1)

  module _ (l : s < M) (q : ℕ) (lq : q < 2) (oc : (view N img).number (place_of s q) ≢ 0) (fr : T (free q (d.session s))) (ce : candidate (view N img).number s (d.session s) ≡ some q) where
    away : (u : ℕ) → u < M → Off (place_of s q) u (d.session u)
    away u lu = at (ℕ_discrete u s)
      where
        own-slot : (x : Session) → T (free q x) → Off (place_of s q) s x
        own-slot idle f = tt
        own-slot (active b p cs) f = tt
        own-slot (sealed n p cs) f = λ e. neqb→ne q p f (omega arith)
        own-slot (published g p cs) f = λ e. neqb→ne q p f (omega arith)

        other-slot : u ≢ s → (x : Session) → Fine N (view N img) h d.clock u x → Off (place_of s q) u x
        other-slot n idle f = tt
        other-slot n (active b p cs) f = tt
        other-slot n (sealed m p cs) f = place-apart s u p q f.0.reserved lq n
        other-slot n (published g p cs) f = place-apart s u p q f.0.reserved lq n

        at : Dec (u ≡ s) → Off (place_of s q) u (d.session u)
        at (yes e) = rw e (own-slot (d.session s) fr)
        at (no n) = other-slot n (d.session u) (H.inv.fine u lu)

    -- the smallest number of the image
    abbrev least : ℕ
    least = smallest (view N img).number (2 * M)

    clears-done : Done N M img d h (reclaim len s) (clears N (view N img).number (place_of s q) least)
    clears-done = go (ltb least ((view N img).number (place_of s q))) (nltb→le least ((view N img).number (place_of s q)))
      where
        go : (b : Bool) → (T (not b) → (view N img).number (place_of s q) ≤ least) → Done N M img d h (reclaim len s)
            (cond b (say (held least)) (record { answer = cleared ((view N img).number (place_of s q)); entries = clear_stores N (place_of s q) }))
        go true f = same N M img d h H (reclaim len s) (held least) refl (λ _. refl) refl refl (λ _. refl)
        go false f = record {
          kept = all;
          later = record { clock = omega arith; views = λ σ r k. refl };
          low = λ j lj. (made_one (slot_at N (place_of s q)) 0 img).others j (λ z. omega arith);
          top = (made_one (slot_at N (place_of s q)) 0 img).others 3 (λ z. omega arith);
          low-cut = λ k sel j lj. (cut-one (slot_at N (place_of s q)) 0 img k sel).others j (λ z. omega arith);
          top-cut = λ k sel. omega (arith, (cut-one (slot_at N (place_of s q)) 0 img k sel).others 3 (λ z. omega arith));
          marks = λ p. mark p (ℕ_discrete p (place_of s q)) ∙ ap (λ c. emptied s c (view N img).number p) (sym ce);
          broken = λ k sel. some_word (cut k sel (clear_stores N (place_of s q)) img) (cut-one (slot_at N (place_of s q)) 0 img k sel);
        }
          where
            mark : (p : ℕ) → Dec (p ≡ place_of s q) → get_or (made (clear_stores N (place_of s q)) img) (slot_at N p) 0 ≡ upd (place_of s q) 0 (view N img).number p
            mark p (yes e) = rw (e, upd_same (place_of s q) 0 (view N img).number) (get_or-set_same img (slot_at N (place_of s q)) 0 0 (omega (arith, H.whole, place_in M s q l lq)))
            mark p (no n) = rw (upd_other (place_of s q) 0 (view N img).number p n) ((made_one (slot_at N (place_of s q)) 0 img).others (slot_at N p) (slot_at-apart N p (place_of s q) n))

            oldest : Oldest (2 * M) (view N img) (place_of s q)
            oldest = record {
              occupied = (place_in M s q l lq, oc);
              least = λ u a. omega (arith, f tt, (smallest-below (view N img).number (2 * M) u a.0 a.1).0);
            }

            empties : (img' : List ℕ) → One-word (slot_at N (place_of s q)) 0 img img' → get_or img' (slot_at N (place_of s q)) 0 ≡ 0 → Holds N M img' d h
            empties img' ow z = record {
              whole = ow.long ∙ H.whole;
              sounds = λ u a. rw (clear-bodies N M img img' (place_of s q) ow u) (H.sounds u (a.0, was u a));
              inv = clearing N M (view N img) (view N img') d h (place_of s q) H.inv oldest away (clear-emptied N M img img' (place_of s q) ow z);
              under = omega (arith, H.under, ow.others 3 (λ e. omega arith));
            }
              where
                was : (u : ℕ) → Occupied (2 * M) (view N img') u → get_or img (slot_at N u) 0 ≢ 0
                was u a = rw ((clear-emptied N M img img' (place_of s q) ow z).number_same u a.0 (λ e. a.1 (rw e z))) at a.1

            all : Holds N M (made (clear_stores N (place_of s q)) img) d h
            all = empties _ (made_one (slot_at N (place_of s q)) 0 img) (get_or-set_same img (slot_at N (place_of s q)) 0 0 (omega (arith, H.whole, place_in M s q l lq)))

            -- nothing has arrived: word for word the image is as it was
            stays : (img' : List ℕ) → One-word (slot_at N (place_of s q)) 0 img img' → get_or img' (slot_at N (place_of s q)) 0 ≡ get_or img (slot_at N (place_of s q)) 0 → Crashed N M img' h
            stays img' ow e = record {
              good = record {
                whole = ow.long ∙ H.whole;
                sound = λ u a. rw (clear-bodies N M img img' (place_of s q) ow u) (H.sounds u (a.0, rw (unturned N M img img' (place_of s q) ow e (slot_at N u)) at a.1));
                apart = homing-apart N (2 * M) (view N img) (view N img') [] hm H.inv.apart;
              };
              final = λ r j lr lj. homing-final N (2 * M) (view N img) (view N img') [] hm (λ i x k. absurd k) (spot r j) _ (omega arith) (H.inv.final r j lr lj);
            }
              where
                hm : Homing N (2 * M) (view N img) (view N img') []
                hm = record {
                  number_same = λ u _. unturned N M img img' (place_of s q) ow e (slot_at N u);
                  log-same = λ u _. ap (λ b. denoted (log_of b)) (clear-bodies N M img img' (place_of s q) ow u);
                  home-kept = λ i _. inl (unturned N M img img' (place_of s q) ow e i);
                }

            some_word : (img' : List ℕ) → One-word (slot_at N (place_of s q)) 0 img img' → Crashed N M img' h
            some_word img' ow = pick ow.turn
              where
                pick : (get_or img' (slot_at N (place_of s q)) 0 ≡ get_or img (slot_at N (place_of s q)) 0) ⊎ (get_or img' (slot_at N (place_of s q)) 0 ≡ 0) → Crashed N M img' h
                pick (inl e) = stays img' ow e
                pick (inr z) = crashed N M img' d h (empties img' ow z)

  reclaim-at : s < M → (o : Option ℕ) → candidate (view N img).number s (d.session s) ≡ o → Cand (d.session s) o
      → Done N M img d h (reclaim len s) (reclaims N M (view N img).number s o)
  reclaim-at l none ce c = same N M img d h H (reclaim len s) nothing refl (λ _. refl) refl refl (λ _. refl)
  reclaim-at l (some q) ce c = clears-done l q c.0 c.1 c.2 ce

  pub reclaim-done : Done N M img d h (reclaim len s) (due_of N M (view N img).number (get_or img 3 0) d h (reclaim len s))
  reclaim-done =
      past_room N M img d h H (reclaim len s) len _ (past-session N M img d h H (reclaim len s) s _
      (λ l. reclaim-at l (candidate (view N img).number s (d.session s)) refl (candidate? (d.session s))))
