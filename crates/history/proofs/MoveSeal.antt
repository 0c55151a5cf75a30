-- A session sealed, its copies in its slot: the invariant is kept.
use Prim.Native.Nat.{ℕ, ◌*◌, ◌≤◌, ◌<◌}
use mathlib.Core.Path.{◌≡◌, refl, sym, ap, ◌∙◌}
use mathlib.Core.Logic.{◌⊎◌, inl, inr, ◌≢◌}
use mathlib.Core.Option.{Option}
use mathlib.Core.List.{List}
use native.Mathlib.Decide.{ℕ_discrete}
use native.Mathlib.Omega.{arith}
use lib.ListN.{length, get_or}
use Rattle.history.proofs.Writes.{writes?}
use Rattle.history.specs.Log.{In, State, Puts, Final}
use Rattle.history.specs.Layout.{Home}
use Rattle.history.specs.Desk.{Copy, find, spot, writes, Session, active, sealed, copies, Desk, with_session}
use Rattle.layout.specs.Image.{place_of}
use Rattle.history.specs.History.{History, entry_of, over, record_of, sealing}
use Rattle.history.proofs.Copies.{mem-one, Mem, Fresh, Apart, mem?, find-fresh, find-mem, in_spot}
use Rattle.history.proofs.Book.{Own, own_new, own-more, applied-more, unseen}
use Rattle.history.proofs.Invariant.{Active, Fine, unpublished, kept, shown, NoOne, Inv, unpublished-copies, Low, low-unpublished, low-kept, low-shown, each, back, at-t, live_back, Aside, aside, excl-after}
use Rattle.history.proofs.Beside.{Beside, beside-old, beside_back}
use Rattle.history.proofs.MoveQuiet.{copies-below, kept-copies}

-- slot p was empty, and holds a log of cs numbered n: of the words of cs, those at least that differ from home
pub record Filled (N K : ℕ) (v v' : State) (p n : ℕ) (cs : List Copy) : Type 0 where
  pub was-empty : v.number p ≡ 0
  pub number-p : v'.number p ≡ n
  pub only-p : (i w : ℕ) → In i w (v'.log p) → In i w (writes cs)
  pub covers-p : (r : ℕ) (ws : List ℕ) → Mem r ws cs → (j : ℕ) → j < 4 → In (spot r j) (get_or ws j 0) (v'.log p) ⊎ (v.home (spot r j) ≡ get_or ws j 0)
  pub number_same : (q : ℕ) → q < K → q ≢ p → v'.number q ≡ v.number q
  pub log-same : (q : ℕ) → q < K → q ≢ p → v'.log q ≡ v.log q
  pub home_same : (i : ℕ) → Home N i → v'.home i ≡ v.home i

-- two places of different sessions
pub place-apart : (t u q p : ℕ) → q < 2 → p < 2 → u ≢ t → place_of u q ≢ place_of t p
place-apart t u q p lq lp d e = d (omega arith)

pub place_in : (M t q : ℕ) → t < M → q < 2 → place_of t q < 2 * M
place_in M t q l lq = omega arith

module _ (N M : ℕ) (v v' : State) (d : Desk) (h : History) (t b q : ℕ) (cs : List Copy) (inv : Inv N M v d h) (l : t < M)
    (is : d.session t ≡ active b q cs) (some-copy : 1 ≤ length cs) (fl : Filled N (2 * M) v v' (place_of t q) d.clock cs) where
  act : Active N v h d.clock t b q cs
  act = rw is at (inv.fine t l)

  low : Low (d.session t)
  low = rw is tt

  -- no other session has a record of cs
  alone : (u : ℕ) → u < M → u ≢ t → Apart cs (copies (d.session u))
  alone u lu du = rw is at (inv.excl t u l lu (λ e. du (sym e)))

  -- every log that writes a word of cs is older
  older : (r : ℕ) (ws : List ℕ) → Mem r ws cs → (j : ℕ) → j < 4 → (p x : ℕ) → Puts (2 * M) v p (spot r j) x → v.number p < d.clock
  older r ws m j lj p x a = inv.newer p r j x lj a (λ u lu. go u lu (ℕ_discrete u t))
    where
      go : (u : ℕ) → u < M → Dec (u ≡ t) → Fresh r (unpublished (d.session u))
      go u lu (yes e) = rw e (low-unpublished (d.session t) low r)
      go u lu (no du) = λ w k. alone u lu du r ws w m (unpublished-copies (d.session u) r w k)

  beside : Beside (2 * M) (Home N) v v' (place_of t q)
  beside = record { empty = fl.was-empty; log-same = fl.log-same; number_same = fl.number_same; home_same = fl.home_same }

  off : (p i x : ℕ) → p ≢ place_of t q → Puts (2 * M) v' p i x → Puts (2 * M) v p i x
  off = beside_back (2 * M) (Home N) v v' (place_of t q) beside

  in_p : (p i x : ℕ) → p ≡ place_of t q → Puts (2 * M) v' p i x → In i x (writes cs)
  in_p p i x e a = fl.only-p i x (rw e at a.written)

  -- a log that writes a word of a record of which the new one writes a word is older
  older-in : (r j m x : ℕ) → j < 4 → m < 4 → In (spot r j) x (writes cs) → (p y : ℕ) → Puts (2 * M) v p (spot r m) y → v.number p < d.clock
  older-in r j m x lj lm w p y a = let k = in_spot cs r j x lj w in older r k.0 k.1 m lm p y a

  apart' : (p u r j m x y : ℕ) → j < 4 → m < 4 → p ≢ u → Puts (2 * M) v' p (spot r j) x → Puts (2 * M) v' u (spot r m) y → v'.number p ≢ v'.number u
  apart' p u r j m x y lj lm ne a c = go (ℕ_discrete p (place_of t q)) (ℕ_discrete u (place_of t q))
    where
      go : Dec (p ≡ place_of t q) → Dec (u ≡ place_of t q) → v'.number p ≢ v'.number u
      go (yes ep) (yes eu) = absurd (ne (ep ∙ sym eu))
      go (yes ep) (no du) =
          let lt : v.number u < d.clock = older-in r j m x lj lm (in_p p (spot r j) x ep a) u y (off u (spot r m) y du c) in
          let np : v'.number p ≡ d.clock = rw ep fl.number-p in
          let nu : v'.number u ≡ v.number u = fl.number_same u c.occupied.0 du in
          omega arith
      go (no dp) (yes eu) =
          let lt : v.number p < d.clock = older-in r m j y lm lj (in_p u (spot r m) y eu c) p x (off p (spot r j) x dp a) in
          let nu : v'.number u ≡ d.clock = rw eu fl.number-p in
          let np : v'.number p ≡ v.number p = fl.number_same p a.occupied.0 dp in
          omega arith
      go (no dp) (no du) =
          rw (fl.number_same p a.occupied.0 dp, fl.number_same u c.occupied.0 du) (inv.apart p u r j m x y lj lm ne (off p (spot r j) x dp a) (off u (spot r m) y du c))

  bounded' : (p : ℕ) → p < 2 * M → v'.number p ≤ d.clock
  bounded' p lp = go (ℕ_discrete p (place_of t q))
    where
      go : Dec (p ≡ place_of t q) → v'.number p ≤ d.clock
      go (yes e) = rw (e, fl.number-p) (omega arith)
      go (no dp) = rw (fl.number_same p lp dp) (inv.bounded p lp)

  new : Session
  new = sealed d.clock q cs

  newer' : (p r j x : ℕ) → j < 4 → Puts (2 * M) v' p (spot r j) x → NoOne M unpublished (with_session t new d) r → v'.number p < d.clock
  unfolding new
  newer' p r j x lj a nn = go (ℕ_discrete p (place_of t q))
    where
      go : Dec (p ≡ place_of t q) → v'.number p < d.clock
      go (yes e) =
          let k = in_spot cs r j x lj (in_p p (spot r j) x e a) in
          absurd (at-t M d.session t new unpublished r l nn k.0 k.1)
      go (no dp) =
          rw (fl.number_same p a.occupied.0 dp)
          (inv.newer p r j x lj (off p (spot r j) x dp a) (back M d.session t new unpublished r (low-unpublished (d.session t) low r) nn))

  own' : (u : ℕ) → u < M → u ≢ t → (o : Option ℕ) → Own u (copies (d.session u)) o h.sealed → Own u (copies (d.session u)) o (sealing t h).sealed
  own' u lu du o w = own-more t (h.draft t) u (copies (d.session u)) (λ e. du (sym e)) (rw act.drafted (alone u lu du)) o h.sealed w

  fine' : Fine N v' (sealing t h) d.clock t new
  unfolding new
  fine' = (
    record {
      lawful = act.lawful;
      some-copy = some-copy;
      reserved = act.reserved;
      occupied = λ e. let p : 1 ≤ d.clock = inv.positive in let n : v'.number (place_of t q) ≡ d.clock = fl.number-p in omega arith;
      only = fl.only-p;
      covers = λ r ws m j lj. go r ws m j lj (fl.covers-p r ws m j lj);
      entry = rw act.drafted (own_new t cs h.sealed);
    },
    fl.number-p,
  )
    where
      go : (r : ℕ) (ws : List ℕ) → Mem r ws cs → (j : ℕ) → j < 4 → In (spot r j) (get_or ws j 0) (v'.log (place_of t q)) ⊎ (v.home (spot r j) ≡ get_or ws j 0)
          → In (spot r j) (get_or ws j 0) (v'.log (place_of t q)) ⊎ (v'.home (spot r j) ≡ get_or ws j 0)
      go r ws m j lj (inl k) = inl k
      go r ws m j lj (inr x) = inr (fl.home_same (spot r j) (let b : r < N = act.lawful.below r ws m in omega arith) ∙ x)

  -- a record with the draft applied last
  more : (r : ℕ) → record_of (sealing t h) r ≡ over (find r (h.draft t)) (record_of h r)
  more r = applied-more h.sealed (entry_of t (h.draft t)) r (h.opening r)

  final' : (r j : ℕ) → r < N → j < 4 → Final (2 * M) v' (spot r j) (get_or (record_of (sealing t h) r) j 0)
  final' r j lr lj = go (mem? r cs)
    where
      filled : v'.number (place_of t q) ≢ 0
      filled e = let p : 1 ≤ d.clock = inv.positive in let n : v'.number (place_of t q) ≡ d.clock = fl.number-p in omega arith

      -- no sealed or published session has r
      free : (ws : List ℕ) → Mem r ws cs → NoOne M kept d r
      free ws m u lu w k = at-u (ℕ_discrete u t)
        where
          at-u : Dec (u ≡ t) → ⊥
          at-u (yes e) = low-kept (d.session t) low r w (rw e at k)
          at-u (no du) = alone u lu du r ws w m (kept-copies (d.session u) r w k)

      -- the word is in the log, or it is the home word, which is the last one's
      word : (ws : List ℕ) → Mem r ws cs → ((x : ℕ) × In (spot r j) x (v'.log (place_of t q))) ⊎ ((x : ℕ) → ¬ In (spot r j) x (v'.log (place_of t q))) → Final (2 * M) v' (spot r j) (get_or ws j 0)
      word ws m (inl x) =
          let s = in_spot cs r j x.0 lj (fl.only-p (spot r j) x.0 x.1) in
          let e : x.0 ≡ get_or ws j 0 = s.2 ∙ ap (λ l. get_or l j 0) (mem-one cs act.lawful.distinct r s.0 ws s.1 m) in
          inl (record {
            slot = place_of t q;
            puts = record { occupied = (place_in M t q l act.reserved, filled); written = rw e at x.1 };
            newest = λ p y dp a. rw (fl.number_same p a.occupied.0 dp, fl.number-p) (older r ws m j lj p y (off p (spot r j) y dp a));
          })
      word ws m (inr f) =
          beside-old (2 * M) (Home N) v v' (place_of t q) beside (spot r j) _ (omega arith)
          (λ x a. f x a.written) (rw (sym (inv.lasts r lr (free ws m) j lj) ∙ stands (fl.covers-p r ws m j lj)) at (inv.final r j lr lj))
        where
          stands : In (spot r j) (get_or ws j 0) (v'.log (place_of t q)) ⊎ (v.home (spot r j) ≡ get_or ws j 0) → v.home (spot r j) ≡ get_or ws j 0
          stands (inl k) = absurd (f (get_or ws j 0) k)
          stands (inr e) = e

      go : ((ws : List ℕ) × Mem r ws cs) ⊎ Fresh r cs → Final (2 * M) v' (spot r j) (get_or (record_of (sealing t h) r) j 0)
      go (inl k) =
          rw (more r, act.drafted, find-mem r k.0 cs act.lawful.distinct k.1)
          (word k.0 k.1 (writes? (spot r j) (v'.log (place_of t q))))
      go (inr f) =
          rw (more r, act.drafted, find-fresh r cs f)
          (beside-old (2 * M) (Home N) v v' (place_of t q) beside (spot r j) _ (omega arith)
          (λ x a. let k = in_spot cs r j x lj (in_p (place_of t q) (spot r j) x refl a) in f k.0 k.1) (inv.final r j lr lj))

  pub seal : Inv N M v' (with_session t (sealed d.clock q cs) d) (sealing t h)
  unfolding new
  seal = record {
    positive = inv.positive;
    apart = apart';
    bounded = bounded';
    newer = newer';
    fine = λ u lu. each t new d.session (λ w y. Fine N v' (sealing t h) d.clock w y) u fine'
        (λ du. aside N u d.clock d.clock (d.session u) v v' h (sealing t h) (omega arith) (beside' u lu du) (inv.fine u lu));
    excl = excl-after M t d.session new alone inv.excl;
    final = final';
    views = λ r σ lr li nn j lj. rw (unseen σ r h.sealed t (h.draft t) (h.opening r)) (fl.home_same (spot r j) (omega arith)
        ∙ inv.views r σ lr (live_back M t d.clock d.clock σ new d.session (omega arith) (λ e. absurd e) li)
        (back M d.session t new (shown σ) r (low-shown σ (d.session t) low r) nn) j lj);
    lasts = λ r lr nn j lj. rw (more r, act.drafted, find-fresh r cs (at-t M d.session t new kept r l nn)) (fl.home_same (spot r j) (omega arith)
        ∙ inv.lasts r lr (back M d.session t new kept r (low-kept (d.session t) low r) nn) j lj);
  }
    where
      beside' : (u : ℕ) → u < M → u ≢ t → Aside v v' h (sealing t h) u (d.session u)
      beside' u lu du = record {
        numbers = λ p lp. fl.number_same (place_of u p) (place_in M u p lu lp) (place-apart t u p q lp act.reserved du);
        logs = λ p lp. fl.log-same (place_of u p) (place_in M u p lu lp) (place-apart t u p q lp act.reserved du);
        drafts = refl;
        starts = refl;
        owns = own' u lu du;
        homes = λ r ws m j lj. fl.home_same (spot r j) (let b : r < N = copies-below N M v d h inv u lu r ws m in omega arith);
      }
