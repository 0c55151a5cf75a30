-- The copies of a published session gone home, their log left: the invariant is kept.
use Prim.Native.Nat.{ℕ, ◌*◌, ◌≤◌, ◌<◌}
use mathlib.Core.Path.{◌≡◌, refl, sym, ap, ◌∙◌}
use mathlib.Core.Logic.{◌⊎◌, inl, inr, ◌≢◌}
use mathlib.Core.Option.{some}
use mathlib.Core.List.{List}
use native.Mathlib.Decide.{ℕ_discrete}
use native.Mathlib.Omega.{arith}
use lib.ListN.{get_or}
use Rattle.layout.specs.Entries.{Write}
use Rattle.history.specs.Log.{In, State, Occupied, Puts, Final}
use Rattle.history.specs.Layout.{Home}
use Rattle.history.specs.Desk.{Copy, spot, writes, idle, published, copies, Desk, upd, with_session}
use Rattle.layout.specs.Image.{place_of}
use Rattle.history.specs.History.{History, record_of, view_at}
use Rattle.history.proofs.Copies.{Word, Mem, Fresh, Apart, mem?, in_spot, in-word, word-in, upd_same, upd_other}
use Rattle.history.proofs.Book.{own-last, own_view}
use Rattle.history.proofs.Invariant.{Logged, Fine, unpublished, kept, shown, Starts, Live, NoOne, Inv, shown-copies, each, back, live_back, aside, excl-after}
use Rattle.history.proofs.MoveQuiet.{copies-below}
use Rattle.history.proofs.MoveSeal.{place_in}

-- home words are as they were or as the log of the occupied slot p has them: nothing changes its meaning (also where only some have arrived)
pub record Homing (N K : ℕ) (v v' : State) (ws : List Write) : Type 0 where
  pub number_same : (q : ℕ) → q < K → v'.number q ≡ v.number q
  pub log-same : (q : ℕ) → q < K → v'.log q ≡ v.log q
  pub home-kept : (i : ℕ) → Home N i → (v'.home i ≡ v.home i) ⊎ In i (v'.home i) ws

module _ (N K : ℕ) (v v' : State) (ws : List Write) (hm : Homing N K v v' ws) where
  pub homing-back : (q i x : ℕ) → Puts K v' q i x → Puts K v q i x
  homing-back q i x a = record {
    occupied = (a.occupied.0, rw (hm.number_same q a.occupied.0) at a.occupied.1);
    written = rw (hm.log-same q a.occupied.0) at a.written;
  }

  homing-on : (q i x : ℕ) → Puts K v q i x → Puts K v' q i x
  homing-on q i x a = record {
    occupied = (a.occupied.0, rw (hm.number_same q a.occupied.0) a.occupied.1);
    written = rw (hm.log-same q a.occupied.0) a.written;
  }

  -- covered: what is written home stands in some log, or at home
  pub homing-final : ((i x : ℕ) → In i x ws → ((p : ℕ) × Puts K v p i x) ⊎ (v.home i ≡ x)) → (i w : ℕ) → Home N i → Final K v i w → Final K v' i w
  homing-final cov i w hi (inl l) = inl (record {
    slot = l.slot;
    puts = homing-on l.slot i w l.puts;
    newest = λ q x d a. rw (hm.number_same q a.occupied.0, hm.number_same l.slot l.puts.occupied.0) (l.newest q x d (homing-back q i x a));
  })
  homing-final cov i w hi (inr r) = go (hm.home-kept i hi)
    where
      go : (v'.home i ≡ v.home i) ⊎ In i (v'.home i) ws → Final K v' i w
      go (inl s) = inr (record { unwritten = λ q x a. r.unwritten q x (homing-back q i x a); stands = s ∙ r.stands })
      go (inr k) = at (cov i (v'.home i) k)
        where
          at : ((p : ℕ) × Puts K v p i (v'.home i)) ⊎ (v.home i ≡ v'.home i) → Final K v' i w
          at (inl c) = absurd (r.unwritten c.0 (v'.home i) c.1)
          at (inr e) = inr (record { unwritten = λ q x a. r.unwritten q x (homing-back q i x a); stands = sym e ∙ r.stands })

  pub homing-apart : ((p q r j l x y : ℕ) → j < 4 → l < 4 → p ≢ q → Puts K v p (spot r j) x → Puts K v q (spot r l) y → v.number p ≢ v.number q)
      → (p q r j l x y : ℕ) → j < 4 → l < 4 → p ≢ q → Puts K v' p (spot r j) x → Puts K v' q (spot r l) y → v'.number p ≢ v'.number q
  homing-apart ap p q r j l x y lj ll d a c =
      rw (hm.number_same p a.occupied.0, hm.number_same q c.occupied.0) (ap p q r j l x y lj ll d (homing-back p (spot r j) x a) (homing-back q (spot r l) y c))

module _ (N M : ℕ) (v v' : State) (d : Desk) (h : History) (t e q : ℕ) (cs : List Copy) (inv : Inv N M v d h) (l : t < M)
    (is : d.session t ≡ published e q cs) (hm : Homing N (2 * M) v v' (writes cs)) where
  logged : Logged N v h t q cs (some e)
  logged = (rw is at (inv.fine t l)).0

  past : e ≤ d.clock
  past = (rw is at (inv.fine t l)).1

  occupied-slot : Occupied (2 * M) v (place_of t q)
  occupied-slot = (place_in M t q l logged.reserved, logged.occupied)

  covered : (i x : ℕ) → In i x (writes cs) → ((p : ℕ) × Puts (2 * M) v p i x) ⊎ (v.home i ≡ x)
  covered i x k =
      let w = in-word cs i x k in
      go w (logged.covers w.r w.ws w.mem w.j w.j<)
    where
      go : (w : Word cs i x) → In (spot w.r w.j) (get_or w.ws w.j 0) (v.log (place_of t q)) ⊎ (v.home (spot w.r w.j) ≡ get_or w.ws w.j 0)
          → ((p : ℕ) × Puts (2 * M) v p i x) ⊎ (v.home i ≡ x)
      go w (inl held) = rw (w.index, w.content) (inl (place_of t q, record { occupied = occupied-slot; written = held }))
      go w (inr same) = rw (w.index, w.content) (inr same)

  alone : (u : ℕ) → u < M → u ≢ t → Apart cs (copies (d.session u))
  alone u lu du = rw is at (inv.excl t u l lu (λ x. du (sym x)))

  pub settle-final : (r j : ℕ) → r < N → j < 4 → Final (2 * M) v' (spot r j) (get_or (record_of h r) j 0)
  settle-final r j lr lj = homing-final N (2 * M) v v' (writes cs) hm covered (spot r j) _ (omega arith) (inv.final r j lr lj)

  module _ (gone : (i w : ℕ) → In i w (writes cs) → v'.home i ≡ w) (wait : (σ u : ℕ) → u < M → Starts σ (d.session u) → e ≤ σ) where
    -- a home word afterwards: the copy's, or as it was
    other : (r j : ℕ) → r < N → j < 4 → Fresh r cs → v'.home (spot r j) ≡ v.home (spot r j)
    other r j lr lj f = go (hm.home-kept (spot r j) (omega arith))
      where
        go : (v'.home (spot r j) ≡ v.home (spot r j)) ⊎ In (spot r j) (v'.home (spot r j)) (writes cs) → v'.home (spot r j) ≡ v.home (spot r j)
        go (inl s) = s
        go (inr k) = let m = in_spot cs r j _ lj k in absurd (f m.0 m.1)

    late : (σ : ℕ) → Live M (with_session t idle d) σ → e ≤ σ
    late σ (inl c) = omega (arith, past)
    late σ (inr k) = go (ℕ_discrete k.0 t) k.2
      where
        go : Dec (k.0 ≡ t) → Starts σ (upd t idle d.session k.0) → e ≤ σ
        go (yes x) st = absurd (starts_none (rw (x, upd_same t idle d.session) at st))
          where
            starts_none : Starts σ idle → ⊥
            starts_none s = s
        go (no dk) st = wait σ k.0 k.1 (rw (upd_other t idle d.session k.0 dk) at st)

    shown-t : (σ r : ℕ) → Fresh r cs → Fresh r (shown σ (d.session t))
    shown-t σ r f ws k = f ws (rw is at (shown-copies σ (d.session t) r ws k))

    pub settling : Inv N M v' (with_session t idle d) h
    settling = record {
      positive = inv.positive;
      apart = homing-apart N (2 * M) v v' (writes cs) hm inv.apart;
      bounded = λ p lp. rw (hm.number_same p lp) (inv.bounded p lp);
      newer = λ p r j x lj a nn. rw (hm.number_same p a.occupied.0)
          (inv.newer p r j x lj (homing-back N (2 * M) v v' (writes cs) hm p (spot r j) x a) (back M d.session t idle unpublished r (rw is (λ ws k. k)) nn));
      fine = λ u lu. each t idle d.session (λ w y. Fine N v' h d.clock w y) u tt
          (λ du. aside N u d.clock d.clock (d.session u) v v' h h (omega arith)
          (record { numbers = λ p lp. hm.number_same (place_of u p) (place_in M u p lu lp); logs = λ p lp. hm.log-same (place_of u p) (place_in M u p lu lp); drafts = refl; starts = refl; owns = λ o w. w; homes = λ r ws m j lj. other r j (copies-below N M v d h inv u lu r ws m) lj (λ w k. alone u lu du r w ws k m) })
          (inv.fine u lu));
      excl = excl-after M t d.session idle (λ u lu du r y z m k. m) inv.excl;
      final = settle-final;
      views = λ r σ lr li nn j lj. view-after r σ lr li nn j lj (mem? r cs);
      lasts = λ r lr nn j lj. last-after r lr nn j lj (mem? r cs);
    }
      where
        view-after : (r σ : ℕ) → r < N → Live M (with_session t idle d) σ → NoOne M (shown σ) (with_session t idle d) r → (j : ℕ) → j < 4 → ((ws : List ℕ) × Mem r ws cs) ⊎ Fresh r cs → v'.home (spot r j) ≡ get_or (view_at h σ r) j 0
        view-after r σ lr li nn j lj (inl k) =
            rw (own_view t cs r k.0 k.1 e σ h.sealed logged.entry (late σ li) logged.lawful.distinct (h.opening r))
            (gone (spot r j) (get_or k.0 j 0) (word-in cs r k.0 k.1 j lj))
        view-after r σ lr li nn j lj (inr f) = other r j lr lj f
            ∙ inv.views r σ lr (live_back M t d.clock d.clock σ idle d.session (omega arith) (λ s. absurd s) li)
            (back M d.session t idle (shown σ) r (shown-t σ r f) nn) j lj

        last-after : (r : ℕ) → r < N → NoOne M kept (with_session t idle d) r → (j : ℕ) → j < 4 → ((ws : List ℕ) × Mem r ws cs) ⊎ Fresh r cs → v'.home (spot r j) ≡ get_or (record_of h r) j 0
        last-after r lr nn j lj (inl k) =
            rw (own-last t cs r k.0 k.1 (some e) h.sealed logged.entry logged.lawful.distinct (h.opening r))
            (gone (spot r j) (get_or k.0 j 0) (word-in cs r k.0 k.1 j lj))
        last-after r lr nn j lj (inr f) = other r j lr lj f ∙ inv.lasts r lr (back M d.session t idle kept r (rw is f) nn) j lj
