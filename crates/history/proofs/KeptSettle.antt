-- Settle keeps the invariant.
use Prim.Native.Nat.{ℕ, zero, suc, ◌*◌, ◌≤◌, ◌<◌}
use mathlib.Core.Path.{◌≡◌, refl, ◌∙◌}
use mathlib.Core.Bool.{true, false, not, false≢true}
use mathlib.Core.Option.{Option, none, some}
use mathlib.Core.List.{List}
use native.Mathlib.Decide.{ℕ_discrete}
use native.Mathlib.Nat.{le_refl}
use native.Mathlib.Omega.{arith}
use lib.ListN.{length, get_or}
use lib.Dec.{T, T_not}
use borrow.Author.Tests.{lt-ltb, ltb-true}
use Rattle.layout.specs.Below.{any_below}
use Rattle.layout.proofs.Says.{says_any, says-itself, says-not}
use Rattle.layout.specs.Crash.{crashed as cut}
use Rattle.layout.specs.Entries.{made}
use Rattle.layout.specs.Image.{slot_at}
use Rattle.layout.specs.Told.{wait}
use Rattle.history.specs.Log.{In}
use Rattle.history.specs.Layout.{view}
use Rattle.history.specs.Call.{settle}
use Rattle.history.specs.Desk.{Copy, writes, Session, idle, active, sealed, published, Desk, in_the_way, began_first, awaited}
use Rattle.history.specs.Due.{settle_stores, waits, settles, due_of}
use Rattle.history.specs.History.{History}
use Rattle.history.proofs.Copies.{in-word, Lowest, first_of?}
use Rattle.history.proofs.Invariant.{Logged, Starts}
use Rattle.history.proofs.MoveSettle.{Homing, homing-apart, settle-final, settling}
use Rattle.history.proofs.Slots.{Some-of, made_some, made_all, cut-some, settle-bodies, settle-beyond, settle-low, settle-homing, writes-functional}
use Rattle.history.proofs.Kept.{Holds, Crashed, Done, same, refusing, past_room, past-session}

module _ (N M : ℕ) (img : List ℕ) (d : Desk) (h : History) (H : Holds N M img d h) (len s : ℕ) where
  module _ (l : s < M) (e q : ℕ) (cs : List Copy) (is : d.session s ≡ published e q cs) where
    logged : Logged N (view N img) h s q cs (some e)
    logged = (rw is at (H.inv.fine s l)).0

    homes_in : (i w : ℕ) → In i w (writes cs) → i < length img
    homes_in i w k = let x = in-word cs i w k in let y : x.r < N = logged.lawful.below x.r x.ws x.mem in omega (arith, H.whole, x.index, x.j<)

    part : (img' : List ℕ) → Some-of (writes cs) img img' → Crashed N M img' h
    part img' so = record {
      good = record {
        whole = so.long ∙ H.whole;
        sound = λ u o. rw (settle-bodies N M img cs img' logged.lawful.below so u) (H.sounds u (o.0, rw (hm.number_same u o.0) at o.1));
        apart = homing-apart N (2 * M) (view N img) (view N img') (writes cs) hm H.inv.apart;
      };
      final = settle-final N M (view N img) (view N img') d h s e q cs H.inv l is hm;
    }
      where
        hm : Homing N (2 * M) (view N img) (view N img') (writes cs)
        hm = settle-homing N M img cs img' logged.lawful.below so

    -- a session in the way of b has a start below it
    begun : (b : ℕ) (x : Session) → in_the_way b x ≡ true → (c : ℕ) × Starts c x × (c < b)
    begun b idle t = absurd (false≢true t)
    begun b (active c p ds) t = (c, refl, ltb-true c b t)
    begun b (sealed n p ds) t = absurd (false≢true t)
    begun b (published f p ds) t = absurd (false≢true t)

    -- one with a start of b below e, and no session in the way of b, is awaited
    first-begun : (b : ℕ) → b < e → any_below M (λ t. in_the_way b (d.session t)) ≡ false → (x : Session) → Starts b x → T (began_first M d e x)
    first-begun b l a idle k = absurd k
    first-begun b l a (active c p ds) k = rw (k, lt-ltb b e l, a) tt
    first-begun b l a (sealed n p ds) k = absurd k
    first-begun b l a (published f p ds) k = absurd k

    -- where none is awaited every start is at least b, for any b up to e
    module _ (g : (t : ℕ) → t < M → T (not (began_first M d e (d.session t)))) where
      late-next : (b : ℕ) → b < e → ((σ u : ℕ) → u < M → Starts σ (d.session u) → b ≤ σ) → (σ u : ℕ) → u < M → Starts σ (d.session u) → suc b ≤ σ
      late-next b l from σ u lu st = go (ℕ_discrete σ b)
        where
          alone : any_below M (λ t. in_the_way b (d.session t)) ≡ false
          alone =
              says-not (says_any M (λ t. says-itself (in_the_way b (d.session t))))
              (λ k. let c = begun b (d.session k.0) k.2 in omega (arith, c.2, from c.0 k.0 k.1 c.1))

          go : Dec (σ ≡ b) → suc b ≤ σ
          go (yes x) = absurd (T_not (began_first M d e (d.session u)) (g u lu) (first-begun b l alone (d.session u) (rw x at st)))
          go (no x) = omega (arith, from σ u lu st)

      late : (b : ℕ) → b ≤ e → (σ u : ℕ) → u < M → Starts σ (d.session u) → b ≤ σ
      late zero l σ u lu st = omega arith
      late (suc b) l σ u lu st = late-next b (omega arith) (late b (omega arith)) σ u lu st

    settle-waits : (o : Option ℕ) → Lowest (λ t. began_first M d e (d.session t)) M o → Done N M img d h (settle len s) (waits cs o)
    settle-waits (some t) g = same N M img d h H (settle len s) (wait t) refl (λ _. refl) refl refl (λ _. refl)
    settle-waits none g = record {
      kept = record {
        whole = whole_part.good.whole;
        sounds = whole_part.good.sound;
        inv = settling N M (view N img) (view N (made (settle_stores cs) img)) d h s e q cs H.inv l is
            (settle-homing N M img cs (made (settle_stores cs) img) logged.lawful.below (made_some (writes cs) img))
            (made_all (writes cs) img (writes-functional cs logged.lawful.distinct) homes_in)
            (late g e (le_refl e));
        under = omega (arith, H.under, settle-low N M img cs (made (settle_stores cs) img) logged.lawful.below (made_some (writes cs) img) 3 (omega arith));
      };
      later = record { clock = omega arith; views = λ σ r k. refl };
      low = λ j lj. settle-low N M img cs (made (settle_stores cs) img) logged.lawful.below (made_some (writes cs) img) j (omega arith);
      top = settle-low N M img cs (made (settle_stores cs) img) logged.lawful.below (made_some (writes cs) img) 3 (omega arith);
      low-cut = λ k sel j lj. settle-low N M img cs (cut k sel (settle_stores cs) img) logged.lawful.below (cut-some (writes cs) img k sel) j (omega arith);
      top-cut = λ k sel. omega (arith, settle-low N M img cs (cut k sel (settle_stores cs) img) logged.lawful.below (cut-some (writes cs) img k sel) 3 (omega arith));
      marks = λ p. settle-beyond N M img cs (made (settle_stores cs) img) logged.lawful.below (made_some (writes cs) img) (slot_at N p) (omega arith);
      broken = λ k sel. part (cut k sel (settle_stores cs) img) (cut-some (writes cs) img k sel);
    }
      where
        whole_part : Crashed N M (made (settle_stores cs) img) h
        whole_part = part (made (settle_stores cs) img) (made_some (writes cs) img)

  settle-at : s < M → (x : Session) → d.session s ≡ x → Done N M img d h (settle len s) (settles M d x)
  settle-at l idle e = refusing N M img d h H (settle len s) 6 refl
  settle-at l (active b q cs) e = refusing N M img d h H (settle len s) 6 refl
  settle-at l (sealed n q cs) e = refusing N M img d h H (settle len s) 6 refl
  settle-at l (published f q cs) e = settle-waits l f q cs e (awaited M d f) (first_of? (λ t. began_first M d f (d.session t)) M)

  pub settle-done : Done N M img d h (settle len s) (due_of N M (view N img).number (get_or img 3 0) d h (settle len s))
  settle-done =
      past_room N M img d h H (settle len s) len _ (past-session N M img d h H (settle len s) s _ (λ l. settle-at l (d.session s) refl))
