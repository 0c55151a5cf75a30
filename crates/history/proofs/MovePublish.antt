-- Sealed sessions published, those that pass a test: one end, and the clock goes on by one. The invariant is kept.
use Prim.Native.Nat.{ℕ, suc, ◌≤◌, ◌<◌}
use mathlib.Core.Path.{◌≡◌, refl}
use mathlib.Core.Logic.{inl, inr}
use mathlib.Core.Bool.{Bool, true, false, cond, false≢true}
use mathlib.Core.Option.{none}
use native.Mathlib.Omega.{arith}
use lib.ListN.{get_or}
use borrow.Author.Tests.{le-leb}
use Rattle.history.specs.Log.{State}
use Rattle.history.specs.Desk.{spot, Session, idle, active, sealed, published, copies, Desk}
use Rattle.history.specs.History.{History, view_at, ending}
use Rattle.history.specs.Ledger.{ended_with, ticked, ended_all}
use Rattle.history.proofs.Copies.{Fresh}
use Rattle.history.proofs.Book.{Own, ended-last, ended-own, ended-other, ended-view}
use Rattle.history.proofs.PublishDue.{Sealed, Members}
use Rattle.history.proofs.Invariant.{Fine, kept, shown, Starts, Live, NoOne, Inv, aside}

-- ---- one session, by whether it passes

module _ (e : ℕ) where
  abbrev after : Bool → Session → Session
  after b x = cond b (ended_with e x) x

  copies-after : (b : Bool) (x : Session) → copies (after b x) ≡ copies x
  copies-after true idle = refl
  copies-after true (active b q cs) = refl
  copies-after true (sealed n q cs) = refl
  copies-after true (published f q cs) = refl
  copies-after false x = refl

  kept-after : (b : Bool) (x : Session) → kept (after b x) ≡ kept x
  kept-after true idle = refl
  kept-after true (active b q cs) = refl
  kept-after true (sealed n q cs) = refl
  kept-after true (published f q cs) = refl
  kept-after false x = refl

  -- a sealed session shows nothing, and has no start
  shown-before : (σ r : ℕ) (b : Bool) (x : Session) → (b ≡ true → Sealed x) → Fresh r (shown σ (after b x)) → Fresh r (shown σ x)
  shown-before σ r true idle s f = absurd (s refl)
  shown-before σ r true (active b q cs) s f = absurd (s refl)
  shown-before σ r true (sealed n q cs) s f = λ ws k. k
  shown-before σ r true (published m q cs) s f = absurd (s refl)
  shown-before σ r false x s f = f

  starts-before : (σ : ℕ) (b : Bool) (x : Session) → Starts σ (after b x) → Starts σ x
  starts-before σ true idle k = k
  starts-before σ true (active b q cs) k = k
  starts-before σ true (sealed n q cs) k = k
  starts-before σ true (published m q cs) k = k
  starts-before σ false x k = k

-- active starts are up to the clock
early : (N : ℕ) (v : State) (h : History) (clock σ u : ℕ) (x : Session) → Fine N v h clock u x → Starts σ x → σ ≤ clock
early N v h clock σ u idle f s = absurd s
early N v h clock σ u (active b p ds) f s = rw s at f.begun
early N v h clock σ u (sealed m p ds) f s = absurd s
early N v h clock σ u (published m p ds) f s = absurd s

-- a sealed session's last entry has its copies and no end
pub sealed-own : (N : ℕ) (v : State) (h : History) (clock u : ℕ) (x : Session) → Sealed x → Fine N v h clock u x → Own u (copies x) none h.sealed
sealed-own N v h clock u idle s f = absurd s
sealed-own N v h clock u (active b q cs) s f = absurd s
sealed-own N v h clock u (sealed n q cs) s f = f.0.entry
sealed-own N v h clock u (published m q cs) s f = absurd s

module _ (N M : ℕ) (v : State) (d : Desk) (h : History) (p : ℕ → Bool) (inv : Inv N M v d h)
    (members : Members M d p) where
  abbrev e : ℕ
  e = suc d.clock

  abbrev d' : Desk
  d' = ended_all p (suc d.clock) (ticked d)

  abbrev h' : History
  h' = ending p (suc d.clock) h

  own : (u : ℕ) → p u ≡ true → Own u (copies (d.session u)) none h.sealed
  own u y = sealed-own N v h d.clock u (d.session u) (members u y).1 (inv.fine u (members u y).0)

  -- what a start up to the clock sees stays
  pub before-end : (σ r : ℕ) → σ ≤ d.clock → view_at h' σ r ≡ view_at h σ r
  before-end σ r l =
      ended-view p e σ r h.sealed
      (λ u y n. (copies (d.session u), own u y, inl (omega arith))) (h.opening r)

  -- a view from the end on shows the members' copies
  shows : (σ r : ℕ) → e ≤ σ → (b : Bool) → b ≡ true → (x : Session) → Sealed x → Fresh r (shown σ (after e b x)) → Fresh r (copies x)
  shows σ r l true y idle s f = absurd s
  shows σ r l true y (active b q cs) s f = absurd s
  shows σ r l true y (sealed n q cs) s f = rw (le-leb e σ l) at f
  shows σ r l true y (published m q cs) s f = absurd s
  shows σ r l false y x s f = absurd (false≢true y)

  views_after : (r σ : ℕ) → r < N → Live M d' σ → NoOne M (shown σ) d' r → (j : ℕ) → j < 4 → v.home (spot r j) ≡ get_or (view_at h' σ r) j 0
  views_after r σ lr li nn j lj = rw (same li) (inv.views r σ lr (live li) (λ u lu. shown-before e σ r (p u) (d.session u) (λ y. (members u y).1) (nn u lu)) j lj)
    where
      live : Live M d' σ → Live M d σ
      live (inl c) = inl (omega arith)
      live (inr k) = inr (k.0, k.1, starts-before e σ (p k.0) (d.session k.0) k.2)

      same : Live M d' σ → view_at h' σ r ≡ view_at h σ r
      same (inl c) =
          ended-view p e σ r h.sealed
          (λ u y n. (
            copies (d.session u),
            own u y,
            inr (shows σ r c (p u) y (d.session u) (members u y).1 (nn u (members u y).0)),
          )) (h.opening r)
      same (inr k) =
          before-end σ r (early N v h d.clock σ k.0 (d.session k.0) (inv.fine k.0 k.1) (starts-before e σ (p k.0) (d.session k.0) k.2))

  fine-after : (u : ℕ) (b : Bool) → p u ≡ b → (x : Session) → (b ≡ true → Sealed x) → Fine N v h d.clock u x → Fine N v h' e u (after e b x)
  fine-after u true y idle s f = absurd (s refl)
  fine-after u true y (active b q cs) s f = absurd (s refl)
  fine-after u true y (sealed n q cs) s f = (
    record {
      lawful = f.0.lawful;
      some-copy = f.0.some-copy;
      reserved = f.0.reserved;
      occupied = f.0.occupied;
      only = f.0.only;
      covers = f.0.covers;
      entry = ended-own p e u y cs none h.sealed f.0.entry;
    },
    omega arith,
  )
  fine-after u true y (published m q cs) s f = absurd (s refl)
  fine-after u false y x s f =
      aside N u d.clock e x v v h h' (omega arith)
      (record {
        numbers = λ _ _. refl;
        logs = λ _ _. refl;
        drafts = refl;
        starts = refl;
        owns = λ o w. ended-other p e u y (copies x) o h.sealed w;
        homes = λ r ws m j lj. refl;
      }) f

  pub publishing : Inv N M v d' h'
  publishing = record {
    positive = omega arith;
    apart = inv.apart;
    bounded = λ q lq. let b : v.number q ≤ d.clock = inv.bounded q lq in omega arith;
    newer = λ q r j x lj a nn. let b : v.number q ≤ d.clock = inv.bounded q a.occupied.0 in omega arith;
    fine = λ u lu. fine-after u (p u) refl (d.session u) (λ y. (members u y).1) (inv.fine u lu);
    excl = λ t u lt lu n. rw (copies-after e (p t) (d.session t), copies-after e (p u) (d.session u)) (inv.excl t u lt lu n);
    final = λ r j lr lj. rw (ended-last p e h.sealed r (h.opening r)) (inv.final r j lr lj);
    views = views_after;
    lasts = λ r lr nn j lj. rw (ended-last p e h.sealed r (h.opening r))
        (inv.lasts r lr (λ u lu. rw (kept-after e (p u) (d.session u)) at (nn u lu)) j lj);
  }
