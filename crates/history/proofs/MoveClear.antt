-- The oldest log cleared, which is no sealed or published session's: the invariant is kept.
use Prim.Native.Nat.{ℕ, ◌*◌, ◌≤◌, ◌<◌}
use mathlib.Core.Path.{◌≡◌, ◌∙◌}
use mathlib.Core.Logic.{◌⊎◌, inl, inr, ◌≢◌}
use mathlib.Core.Bool.{not}
use mathlib.Core.Option.{Option, none, some}
use mathlib.Core.List.{List}
use native.Mathlib.Decide.{ℕ_discrete}
use native.Mathlib.Omega.{arith}
use lib.ListN.{length, get_or}
use lib.Dec.{T}
use Rattle.history.specs.Log.{In, State, Occupied, Puts, Final, Oldest}
use Rattle.history.specs.Layout.{Home}
use Rattle.history.specs.Desk.{first_of, found, Copy, find, spot, Session, idle, active, sealed, published, Desk}
use Rattle.layout.specs.Image.{place_of}
use Rattle.history.specs.History.{History, record_of}
use Rattle.history.proofs.Copies.{Found, find?, Lowest, first_of?, Mem, Fresh}
use Rattle.history.proofs.Book.{own-last}
use Rattle.history.proofs.Invariant.{Logged, Fine, kept, Inv}
use Rattle.history.proofs.MoveSeal.{place_in}

pub record Emptied (N K : ℕ) (v v' : State) (p : ℕ) : Type 0 where
  pub number-p : v'.number p ≡ 0
  pub number_same : (q : ℕ) → q < K → q ≢ p → v'.number q ≡ v.number q
  pub log-same : (q : ℕ) → q < K → v'.log q ≡ v.log q
  pub home_same : (i : ℕ) → Home N i → v'.home i ≡ v.home i

-- slot p is not that of session u's sealed or published transaction
abbrev pub Off : ℕ → ℕ → Session → Type 0
Off p u idle = Unit {0}
Off p u (active b q cs) = Unit {0}
Off p u (sealed n q cs) = place_of u q ≢ p
Off p u (published e q cs) = place_of u q ≢ p

module _ (N M : ℕ) (v v' : State) (d : Desk) (h : History) (p : ℕ) (inv : Inv N M v d h) (old : Oldest (2 * M) v p)
    (away : (u : ℕ) → u < M → Off p u (d.session u)) (em : Emptied N (2 * M) v v' p) where
  not-p : (q : ℕ) → Occupied (2 * M) v' q → q ≢ p
  not-p q o e = o.1 (rw e em.number-p)

  put-before : (q i x : ℕ) → Puts (2 * M) v' q i x → Puts (2 * M) v q i x
  put-before q i x a = record {
    occupied = (a.occupied.0, rw (em.number_same q a.occupied.0 (not-p q a.occupied)) at a.occupied.1);
    written = rw (em.log-same q a.occupied.0) at a.written;
  }

  put-after : (q i x : ℕ) → q ≢ p → Puts (2 * M) v q i x → Puts (2 * M) v' q i x
  put-after q i x n a = record {
    occupied = (a.occupied.0, rw (em.number_same q a.occupied.0 n) a.occupied.1);
    written = rw (em.log-same q a.occupied.0) a.written;
  }

  fewer : (q : ℕ) → q < 2 * M → (v'.number q ≡ 0) ⊎ (v'.number q ≡ v.number q)
  fewer q lq = go (ℕ_discrete q p)
    where
      go : Dec (q ≡ p) → (v'.number q ≡ 0) ⊎ (v'.number q ≡ v.number q)
      go (yes e) = inl (rw e em.number-p)
      go (no n) = inr (em.number_same q lq n)

  -- a sealed or published session's log writes the word, and is another one; or the word is at home
  other-writer : (r j : ℕ) → j < 4 → (u : ℕ) → u < M → (ws : List ℕ) → Mem r ws (kept (d.session u))
      → (((s : ℕ) × (s ≢ p) × Puts (2 * M) v s (spot r j) (get_or ws j 0)) ⊎ (v.home (spot r j) ≡ get_or ws j 0)) × (record_of h r ≡ ws)
  other-writer r j lj u lu ws m = go (d.session u) (inv.fine u lu) (away u lu) m
    where
      by : (q : ℕ) (cs : List Copy) (o : Option ℕ) → Logged N v h u q cs o → place_of u q ≢ p → Mem r ws cs
          → (((s : ℕ) × (s ≢ p) × Puts (2 * M) v s (spot r j) (get_or ws j 0)) ⊎ (v.home (spot r j) ≡ get_or ws j 0)) × (record_of h r ≡ ws)
      by q cs o g n k = (at (g.covers r ws k j lj), own-last u cs r ws k o h.sealed g.entry g.lawful.distinct (h.opening r))
        where
          at : In (spot r j) (get_or ws j 0) (v.log (place_of u q)) ⊎ (v.home (spot r j) ≡ get_or ws j 0)
              → ((s : ℕ) × (s ≢ p) × Puts (2 * M) v s (spot r j) (get_or ws j 0)) ⊎ (v.home (spot r j) ≡ get_or ws j 0)
          at (inl y) = inl (place_of u q, n, record { occupied = (place_in M u q lu g.reserved, g.occupied); written = y })
          at (inr y) = inr y

      go : (x : Session) → Fine N v h d.clock u x → Off p u x → Mem r ws (kept x)
          → (((s : ℕ) × (s ≢ p) × Puts (2 * M) v s (spot r j) (get_or ws j 0)) ⊎ (v.home (spot r j) ≡ get_or ws j 0)) × (record_of h r ≡ ws)
      go idle f a k = absurd k
      go (active b q cs) f a k = absurd k
      go (sealed n q cs) f a k = by q cs none f.0 a k
      go (published e q cs) f a k = by q cs (some e) f.0 a k

  pub clear-final : (r j : ℕ) → r < N → j < 4 → Final (2 * M) v' (spot r j) (get_or (record_of h r) j 0)
  clear-final r j lr lj = go (inv.final r j lr lj)
    where
      w : ℕ
      w = get_or (record_of h r) j 0

      go : Final (2 * M) v (spot r j) (get_or (record_of h r) j 0) → Final (2 * M) v' (spot r j) (get_or (record_of h r) j 0)
      go (inr rs) = inr (record { unwritten = λ q x a. rs.unwritten q x (put-before q (spot r j) x a); stands = em.home_same (spot r j) (omega arith) ∙ rs.stands })
      go (inl ls) = at (ℕ_discrete ls.slot p)
        where
          at : Dec (ls.slot ≡ p) → Final (2 * M) v' (spot r j) (get_or (record_of h r) j 0)
          at (no n) = inl (record {
            slot = ls.slot;
            puts = put-after ls.slot (spot r j) _ n ls.puts;
            newest = λ q x dq a. rw (em.number_same q a.occupied.0 (not-p q a.occupied), em.number_same ls.slot ls.puts.occupied.0 n)
                (ls.newest q x dq (put-before q (spot r j) x a));
          })
          at (yes e) = inr (record { unwritten = none-else; stands = em.home_same (spot r j) (omega arith) ∙ rests (first_of (λ u. found (find r (kept (d.session u)))) M) (first_of? (λ u. found (find r (kept (d.session u)))) M) })
            where
              -- no log but p writes it: it would be older than the oldest
              only : (q x : ℕ) → q ≢ p → Puts (2 * M) v q (spot r j) x → ⊥
              only q x n a =
                  let lt : v.number q < v.number p = rw e at (ls.newest q x (rw e n) a) in
                  let ge : v.number p ≤ v.number q = old.least q a.occupied in
                  omega arith

              none-else : (q x : ℕ) → ¬ Puts (2 * M) v' q (spot r j) x
              none-else q x a = only q x (not-p q a.occupied) (put-before q (spot r j) x a)

              kept_by : (u : ℕ) → u < M → (o : Option (List ℕ)) → Found r (kept (d.session u)) o → T (found o) → v.home (spot r j) ≡ get_or (record_of h r) j 0
              kept_by u lu none f k = absurd k
              kept_by u lu (some ws) f k = let x = other-writer r j lj u lu ws f in rw x.1 (home-or ws x.0)
                where
                  home-or : (ws : List ℕ) → ((s : ℕ) × (s ≢ p) × Puts (2 * M) v s (spot r j) (get_or ws j 0)) ⊎ (v.home (spot r j) ≡ get_or ws j 0) → v.home (spot r j) ≡ get_or ws j 0
                  home-or ws (inl y) = absurd (only y.0 _ y.1 y.2)
                  home-or ws (inr y) = y

              nobody : (u : ℕ) → (o : Option (List ℕ)) → Found r (kept (d.session u)) o → T (not (found o)) → Fresh r (kept (d.session u))
              nobody u none f k = f
              nobody u (some ws) f k = absurd k

              rests : (o : Option ℕ) → Lowest (λ u. found (find r (kept (d.session u)))) M o → v.home (spot r j) ≡ get_or (record_of h r) j 0
              rests (some u) g = kept_by u g.below (find r (kept (d.session u))) (find? r (kept (d.session u))) g.passes
              rests none g = inv.lasts r lr (λ u lu. nobody u (find r (kept (d.session u))) (find? r (kept (d.session u))) (g u lu)) j lj

  covered : (u q : ℕ) (cs : List Copy) (o : Option ℕ) → Logged N v h u q cs o → u < M → (r : ℕ) (ws : List ℕ) → Mem r ws cs → (j : ℕ) → j < 4
      → In (spot r j) (get_or ws j 0) (v.log (place_of u q)) ⊎ (v.home (spot r j) ≡ get_or ws j 0)
      → In (spot r j) (get_or ws j 0) (v'.log (place_of u q)) ⊎ (v'.home (spot r j) ≡ get_or ws j 0)
  covered u q cs o g lu r ws m j lj (inl k) = inl (rw (em.log-same (place_of u q) (place_in M u q lu g.reserved)) k)
  covered u q cs o g lu r ws m j lj (inr e) = inr (em.home_same (spot r j) (let b : r < N = g.lawful.below r ws m in omega arith) ∙ e)

  still-fine : (u : ℕ) → u < M → (x : Session) → Off p u x → Fine N v h d.clock u x → Fine N v' h d.clock u x
  still-fine u lu idle a f = tt
  still-fine u lu (active b q cs) a f = record {
    lawful = f.lawful;
    begun = f.begun;
    reserved = f.reserved;
    vacant = λ c. go c (fewer (place_of u q) (place_in M u q lu f.reserved));
    drafted = f.drafted;
    noted = f.noted;
  }
    where
      go : 1 ≤ length cs → (v'.number (place_of u q) ≡ 0) ⊎ (v'.number (place_of u q) ≡ v.number (place_of u q)) → v'.number (place_of u q) ≡ 0
      go c (inl z) = z
      go c (inr s) = s ∙ f.vacant c
  still-fine u lu (sealed n q cs) a f = (still-logged none f.0, same ∙ f.1)
    where
      same : v'.number (place_of u q) ≡ v.number (place_of u q)
      same = em.number_same (place_of u q) (place_in M u q lu f.0.reserved) a

      still-logged : (o : Option ℕ) → Logged N v h u q cs o → Logged N v' h u q cs o
      still-logged o g = record { lawful = g.lawful; some-copy = g.some-copy; reserved = g.reserved; occupied = rw same g.occupied; only = λ i w k. g.only i w (rw (em.log-same (place_of u q) (place_in M u q lu g.reserved)) at k); covers = λ r ws m j lj. covered u q cs o g lu r ws m j lj (g.covers r ws m j lj); entry = g.entry }
  still-fine u lu (published e q cs) a f = (still-logged (some e) f.0, f.1)
    where
      same : v'.number (place_of u q) ≡ v.number (place_of u q)
      same = em.number_same (place_of u q) (place_in M u q lu f.0.reserved) a

      still-logged : (o : Option ℕ) → Logged N v h u q cs o → Logged N v' h u q cs o
      still-logged o g = record { lawful = g.lawful; some-copy = g.some-copy; reserved = g.reserved; occupied = rw same g.occupied; only = λ i w k. g.only i w (rw (em.log-same (place_of u q) (place_in M u q lu g.reserved)) at k); covers = λ r ws m j lj. covered u q cs o g lu r ws m j lj (g.covers r ws m j lj); entry = g.entry }

  pub clear_apart : (q s r j l x y : ℕ) → j < 4 → l < 4 → q ≢ s → Puts (2 * M) v' q (spot r j) x → Puts (2 * M) v' s (spot r l) y → v'.number q ≢ v'.number s
  clear_apart q s r j l x y lj ll n a c =
      rw (em.number_same q a.occupied.0 (not-p q a.occupied), em.number_same s c.occupied.0 (not-p s c.occupied))
      (inv.apart q s r j l x y lj ll n (put-before q (spot r j) x a) (put-before s (spot r l) y c))

  pub clearing : Inv N M v' d h
  clearing = record {
    positive = inv.positive;
    apart = clear_apart;
    bounded = λ q lq. still-bounded q lq (fewer q lq);
    newer = λ q r j x lj a nn. rw (em.number_same q a.occupied.0 (not-p q a.occupied)) (inv.newer q r j x lj (put-before q (spot r j) x a) nn);
    fine = λ u lu. still-fine u lu (d.session u) (away u lu) (inv.fine u lu);
    excl = inv.excl;
    final = clear-final;
    views = λ r σ lr li nn j lj. em.home_same (spot r j) (omega arith) ∙ inv.views r σ lr li nn j lj;
    lasts = λ r lr nn j lj. em.home_same (spot r j) (omega arith) ∙ inv.lasts r lr nn j lj;
  }
    where
      still-bounded : (q : ℕ) → q < 2 * M → (v'.number q ≡ 0) ⊎ (v'.number q ≡ v.number q) → v'.number q ≤ d.clock
      still-bounded q lq (inl z) = omega arith
      still-bounded q lq (inr s) = let b : v.number q ≤ d.clock = inv.bounded q lq in omega arith
