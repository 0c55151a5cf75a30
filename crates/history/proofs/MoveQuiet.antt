-- A session that neither logs nor shows, before and after: the invariant is kept.
use Prim.Native.Nat.{ℕ, ◌<◌}
use mathlib.Core.Path.{◌≡◌, refl}
use mathlib.Core.Logic.{◌≢◌}
use mathlib.Core.List.{List}
use native.Mathlib.Omega.{arith}
use Rattle.history.specs.Log.{State}
use Rattle.history.specs.Desk.{Session, idle, active, sealed, published, copies, Desk, with_session}
use Rattle.history.specs.History.{History, record_of, view_at}
use Rattle.history.proofs.Copies.{Mem, Apart}
use Rattle.history.proofs.Invariant.{Fine, unpublished, kept, shown, Starts, Live, Inv, Low, low-unpublished, low-kept, low-shown, each, back, live_back, Aside, aside, excl-after}

pub record Quiet (t : ℕ) (h h' : History) : Type 0 where
  pub opening : h'.opening ≡ h.opening
  pub sealed : h'.sealed ≡ h.sealed
  pub drafts : (u : ℕ) → u ≢ t → h'.draft u ≡ h.draft u
  pub starts : (u : ℕ) → u ≢ t → h'.start u ≡ h.start u

pub quiet : (N M : ℕ) (v : State) (d : Desk) (h h' : History) (t : ℕ) (x : Session) → Inv N M v d h → t < M → Low (d.session t) → Low x → Quiet t h h'
    → Fine N v h' d.clock t x → ((u : ℕ) → u < M → u ≢ t → Apart (copies x) (copies (d.session u))) → ((σ : ℕ) → Starts σ x → Live M d σ)
    → Inv N M v (with_session t x d) h'
quiet N M v d h h' t x inv l low low' q f out st = record {
  positive = inv.positive;
  apart = inv.apart;
  bounded = inv.bounded;
  newer = λ p r j y lj a nn. inv.newer p r j y lj a (back M d.session t x unpublished r (low-unpublished (d.session t) low r) nn);
  fine = λ u lu. each t x d.session (λ w y. Fine N v h' d.clock w y) u f
      (λ du. aside N u d.clock d.clock (d.session u) v v h h' (omega arith) (beside u du) (inv.fine u lu));
  excl = excl-after M t d.session x out inv.excl;
  final = λ r j lr lj. rw (lasts-same r) (inv.final r j lr lj);
  views = λ r σ lr li nn j lj. rw (views_same σ r)
      (inv.views r σ lr (live_back M t d.clock d.clock σ x d.session (omega arith) (st σ) li)
      (back M d.session t x (shown σ) r (low-shown σ (d.session t) low r) nn) j lj);
  lasts = λ r lr nn j lj. rw (lasts-same r) (inv.lasts r lr (back M d.session t x kept r (low-kept (d.session t) low r) nn) j lj);
}
  where
    beside : (u : ℕ) → u ≢ t → Aside v v h h' u (d.session u)
    beside u du = record { numbers = λ _ _. refl; logs = λ _ _. refl; drafts = q.drafts u du; starts = q.starts u du; owns = λ o w. rw q.sealed w; homes = λ r ws m j lj. refl }

    lasts-same : (r : ℕ) → record_of h' r ≡ record_of h r
    lasts-same r = rw (q.sealed, q.opening) refl

    views_same : (σ r : ℕ) → view_at h' σ r ≡ view_at h σ r
    views_same σ r = rw (q.sealed, q.opening) refl

-- a copied record is below N
pub copies-below : (N M : ℕ) (v : State) (d : Desk) (h : History) → Inv N M v d h → (u : ℕ) → u < M → (r : ℕ) (ws : List ℕ) → Mem r ws (copies (d.session u)) → r < N
copies-below N M v d h inv u lu r ws m = go (d.session u) (inv.fine u lu) m
  where
    go : (x : Session) → Fine N v h d.clock u x → Mem r ws (copies x) → r < N
    go idle f k = absurd k
    go (active b q cs) f k = f.lawful.below r ws k
    go (sealed n q cs) f k = f.0.lawful.below r ws k
    go (published e q cs) f k = f.0.lawful.below r ws k

pub kept-copies : (x : Session) (r : ℕ) (ws : List ℕ) → Mem r ws (kept x) → Mem r ws (copies x)
kept-copies idle r ws h = h
kept-copies (active b q cs) r ws h = absurd h
kept-copies (sealed n q cs) r ws h = h
kept-copies (published e q cs) r ws h = h
