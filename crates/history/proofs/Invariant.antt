-- The invariant that holds between the calls, of an abstract state of the image, the desk and the history.
use Prim.Native.Nat.{ℕ, ◌*◌, ◌≤◌, ◌<◌}
use mathlib.Core.Path.{◌≡◌, sym, subst, ◌∙◌}
use mathlib.Core.Logic.{◌⊎◌, inl, inr, ◌≢◌}
use mathlib.Core.Bool.{Bool, true, false, cond}
use mathlib.Core.Option.{Option, none, some}
use mathlib.Core.List.{List, []}
use native.Mathlib.Decide.{ℕ_discrete}
use native.Mathlib.Omega.{arith}
use lib.ListN.{length, get_or}
use lib.Dec.{leb}
use Rattle.history.specs.Log.{In, State, Puts, Final}
use Rattle.history.specs.Desk.{Copy, spot, writes, Session, idle, active, sealed, published, copies, Desk, upd}
use Rattle.layout.specs.Image.{place_of}
use Rattle.history.specs.History.{History, record_of, view_at}
use Rattle.history.specs.Due.{shown_to}
use Rattle.history.proofs.Copies.{Mem, Fresh, Distinct, Below, Apart, upd_same, upd_other}
use Rattle.history.proofs.Book.{Own}

pub record Lawful (N : ℕ) (cs : List Copy) : Type 0 where
  pub distinct : Distinct cs
  pub below : Below N cs
  pub few : length cs ≤ 4

-- an active session: its reserved slot is empty, and the history has its draft and its start
pub record Active (N : ℕ) (v : State) (h : History) (clock t b q : ℕ) (cs : List Copy) : Type 0 where
  pub lawful : Lawful N cs
  pub begun : b ≤ clock
  pub reserved : q < 2
  pub vacant : 1 ≤ length cs → v.number (place_of t q) ≡ 0
  pub drafted : h.draft t ≡ cs
  pub noted : h.start t ≡ b

-- a sealed or published session: its slot holds its copies, and so does its last entry, whose records no later entry has
pub record Logged (N : ℕ) (v : State) (h : History) (t q : ℕ) (cs : List Copy) (o : Option ℕ) : Type 0 where
  pub lawful : Lawful N cs
  pub some-copy : 1 ≤ length cs
  pub reserved : q < 2
  pub occupied : v.number (place_of t q) ≢ 0
  pub only : (i w : ℕ) → In i w (v.log (place_of t q)) → In i w (writes cs)
  pub covers : (r : ℕ) (ws : List ℕ) → Mem r ws cs → (j : ℕ) → j < 4 → In (spot r j) (get_or ws j 0) (v.log (place_of t q)) ⊎ (v.home (spot r j) ≡ get_or ws j 0)
  pub entry : Own t cs o h.sealed

abbrev pub Fine : ℕ → State → History → ℕ → ℕ → Session → Type 0
Fine N v h clock t idle = Unit {0}
Fine N v h clock t (active b q cs) = Active N v h clock t b q cs
Fine N v h clock t (sealed n q cs) = Logged N v h t q cs none × (v.number (place_of t q) ≡ n)
Fine N v h clock t (published e q cs) = Logged N v h t q cs (some e) × (e ≤ clock)

abbrev pub unpublished : Session → List Copy
unpublished idle = []
unpublished (active b q cs) = []
unpublished (sealed n q cs) = cs
unpublished (published e q cs) = []

abbrev pub kept : Session → List Copy
kept idle = []
kept (active b q cs) = []
kept (sealed n q cs) = cs
kept (published e q cs) = cs

-- what a session shows to a reader with the start σ
abbrev pub shown : ℕ → Session → List Copy
shown σ x = cond (shown_to σ x) (copies x) []

-- the session is active with the start σ
abbrev pub Starts : ℕ → Session → Type 0
Starts σ idle = ⊥
Starts σ (active b q cs) = b ≡ σ
Starts σ (sealed n q cs) = ⊥
Starts σ (published e q cs) = ⊥

abbrev pub Live : ℕ → Desk → ℕ → Type 0
Live M d σ = (d.clock ≤ σ) ⊎ ((t : ℕ) × (t < M) × Starts σ (d.session t))

-- no session's g-copies have r
abbrev pub NoOne : ℕ → (Session → List Copy) → Desk → ℕ → Type 0
NoOne M g d r = (t : ℕ) → t < M → Fresh r (g (d.session t))

pub record Inv (N M : ℕ) (v : State) (d : Desk) (h : History) : Type 0 where
  pub positive : 1 ≤ d.clock
  pub apart : (p q r j l x y : ℕ) → j < 4 → l < 4 → p ≢ q → Puts (2 * M) v p (spot r j) x → Puts (2 * M) v q (spot r l) y → v.number p ≢ v.number q
  pub bounded : (p : ℕ) → p < 2 * M → v.number p ≤ d.clock
  pub newer : (p r j x : ℕ) → j < 4 → Puts (2 * M) v p (spot r j) x → NoOne M unpublished d r → v.number p < d.clock
  pub fine : (t : ℕ) → t < M → Fine N v h d.clock t (d.session t)
  pub excl : (t u : ℕ) → t < M → u < M → t ≢ u → Apart (copies (d.session t)) (copies (d.session u))
  pub final : (r j : ℕ) → r < N → j < 4 → Final (2 * M) v (spot r j) (get_or (record_of h r) j 0)
  pub views : (r σ : ℕ) → r < N → Live M d σ → NoOne M (shown σ) d r → (j : ℕ) → j < 4 → v.home (spot r j) ≡ get_or (view_at h σ r) j 0
  pub lasts : (r : ℕ) → r < N → NoOne M kept d r → (j : ℕ) → j < 4 → v.home (spot r j) ≡ get_or (record_of h r) j 0

-- ---- parts of a session's copies

pub unpublished-copies : (x : Session) (r : ℕ) (ws : List ℕ) → Mem r ws (unpublished x) → Mem r ws (copies x)
unpublished-copies idle r ws h = h
unpublished-copies (active b q cs) r ws h = absurd h
unpublished-copies (sealed n q cs) r ws h = h
unpublished-copies (published e q cs) r ws h = absurd h

pub shown-copies : (σ : ℕ) (x : Session) (r : ℕ) (ws : List ℕ) → Mem r ws (shown σ x) → Mem r ws (copies x)
shown-copies σ idle r ws h = h
shown-copies σ (active b q cs) r ws h = absurd h
shown-copies σ (sealed n q cs) r ws h = absurd h
shown-copies σ (published e q cs) r ws h = go (leb e σ) h
  where
    go : (b : Bool) → Mem r ws (cond b cs []) → Mem r ws cs
    go true k = k
    go false k = absurd k

-- idle or active: nothing is shown, and nothing is logged
abbrev pub Low : Session → Type 0
Low idle = Unit {0}
Low (active b q cs) = Unit {0}
Low (sealed n q cs) = ⊥
Low (published e q cs) = ⊥

pub low-unpublished : (x : Session) → Low x → (r : ℕ) → Fresh r (unpublished x)
low-unpublished idle l r ws h = h
low-unpublished (active b q cs) l r ws h = h
low-unpublished (sealed n q cs) l r ws h = l
low-unpublished (published e q cs) l r ws h = l

pub low-kept : (x : Session) → Low x → (r : ℕ) → Fresh r (kept x)
low-kept idle l r ws h = h
low-kept (active b q cs) l r ws h = h
low-kept (sealed n q cs) l r ws h = l
low-kept (published e q cs) l r ws h = l

pub low-shown : (σ : ℕ) (x : Session) → Low x → (r : ℕ) → Fresh r (shown σ x)
low-shown σ idle l r ws h = h
low-shown σ (active b q cs) l r ws h = h
low-shown σ (sealed n q cs) l r ws h = absurd l
low-shown σ (published e q cs) l r ws h = absurd l

-- ---- one session changed

pub each : {A : Type 0} (s : ℕ) (a : A) (f : ℕ → A) (P : ℕ → A → Type 0) (u : ℕ) → P s a → (u ≢ s → P u (f u)) → P u (upd s a f u)
each {A} s a f P u y n = go (ℕ_discrete u s)
  where
    go : Dec (u ≡ s) → P u (upd s a f u)
    go (yes e) = subst (λ x. P x (upd s a f x)) (sym e) (rw (upd_same s a f) y)
    go (no d) = rw (upd_other s a f u d) (n d)

module _ (M : ℕ) (f : ℕ → Session) (t : ℕ) (x : Session) where
  -- what no session has afterwards no session had before, if session t had it not
  pub back : (g : Session → List Copy) (r : ℕ) → Fresh r (g (f t)) → ((u : ℕ) → u < M → Fresh r (g (upd t x f u))) → (u : ℕ) → u < M → Fresh r (g (f u))
  back g r b fr u l = go (ℕ_discrete u t)
    where
      go : Dec (u ≡ t) → Fresh r (g (f u))
      go (yes e) = rw e b
      go (no d) = rw (upd_other t x f u d) at (fr u l)

  -- and session t has it not afterwards
  pub at-t : (g : Session → List Copy) (r : ℕ) → t < M → ((u : ℕ) → u < M → Fresh r (g (upd t x f u))) → Fresh r (g x)
  at-t g r l fr = rw (upd_same t x f) at (fr t l)

pub live_back : (M t clock clock' σ : ℕ) (x : Session) (f : ℕ → Session) → clock ≤ clock'
    → (Starts σ x → Live M (record { clock = clock; session = f }) σ)
    → Live M (record { clock = clock'; session = upd t x f }) σ → Live M (record { clock = clock; session = f }) σ
live_back M t clock clock' σ x f c s (inl l) = inl (omega arith)
live_back M t clock clock' σ x f c s (inr k) = go (ℕ_discrete k.0 t) k.2
  where
    go : Dec (k.0 ≡ t) → Starts σ (upd t x f k.0) → Live M (record { clock = clock; session = f }) σ
    go (yes e) st = s (rw (e, upd_same t x f) at st)
    go (no d) st = inr (k.0, k.1, rw (upd_other t x f k.0 d) at st)

-- another session is as fine as it was
pub record Aside (v v' : State) (h h' : History) (u : ℕ) (x : Session) : Type 0 where
  pub numbers : (q : ℕ) → q < 2 → v'.number (place_of u q) ≡ v.number (place_of u q)
  pub logs : (q : ℕ) → q < 2 → v'.log (place_of u q) ≡ v.log (place_of u q)
  pub drafts : h'.draft u ≡ h.draft u
  pub starts : h'.start u ≡ h.start u
  pub owns : (o : Option ℕ) → Own u (copies x) o h.sealed → Own u (copies x) o h'.sealed
  pub homes : (r : ℕ) (ws : List ℕ) → Mem r ws (copies x) → (j : ℕ) → j < 4 → v'.home (spot r j) ≡ v.home (spot r j)

logged-aside : (N u q : ℕ) (cs : List Copy) (o : Option ℕ) (v v' : State) (h h' : History)
    → v'.number (place_of u q) ≡ v.number (place_of u q) → v'.log (place_of u q) ≡ v.log (place_of u q)
    → (Own u cs o h.sealed → Own u cs o h'.sealed) → ((r : ℕ) (ws : List ℕ) → Mem r ws cs → (j : ℕ) → j < 4 → v'.home (spot r j) ≡ v.home (spot r j))
    → Logged N v h u q cs o → Logged N v' h' u q cs o
logged-aside N u q cs o v v' h h' en el ow hs g = record {
  lawful = g.lawful;
  some-copy = g.some-copy;
  reserved = g.reserved;
  occupied = rw en g.occupied;
  only = λ i w k. g.only i w (rw el at k);
  covers = λ r ws m j lj. go r ws m j lj (g.covers r ws m j lj);
  entry = ow g.entry;
}
  where
    go : (r : ℕ) (ws : List ℕ) → Mem r ws cs → (j : ℕ) → j < 4 → In (spot r j) (get_or ws j 0) (v.log (place_of u q)) ⊎ (v.home (spot r j) ≡ get_or ws j 0)
        → In (spot r j) (get_or ws j 0) (v'.log (place_of u q)) ⊎ (v'.home (spot r j) ≡ get_or ws j 0)
    go r ws m j lj (inl k) = inl (rw el k)
    go r ws m j lj (inr e) = inr (hs r ws m j lj ∙ e)

pub aside : (N u clock clock' : ℕ) (x : Session) (v v' : State) (h h' : History) → clock ≤ clock' → Aside v v' h h' u x → Fine N v h clock u x → Fine N v' h' clock' u x
aside N u clock clock' idle v v' h h' c a f = tt
aside N u clock clock' (active b q cs) v v' h h' c a f = record {
  lawful = f.lawful;
  begun = omega (arith, f.begun);
  reserved = f.reserved;
  vacant = λ l. a.numbers q f.reserved ∙ f.vacant l;
  drafted = a.drafts ∙ f.drafted;
  noted = a.starts ∙ f.noted;
}
aside N u clock clock' (sealed n q cs) v v' h h' c a f =
    (logged-aside N u q cs none v v' h h' (a.numbers q f.0.reserved) (a.logs q f.0.reserved) (a.owns none) a.homes f.0, a.numbers q f.0.reserved ∙ f.1)
aside N u clock clock' (published e q cs) v v' h h' c a f =
    (logged-aside N u q cs (some e) v v' h h' (a.numbers q f.0.reserved) (a.logs q f.0.reserved) (a.owns (some e)) a.homes f.0, omega (arith, f.1))

-- the sessions after session t has become x
module _ (M t : ℕ) (f : ℕ → Session) (x : Session)
    (out : (u : ℕ) → u < M → u ≢ t → Apart (copies x) (copies (f u)))
    (old : (u w : ℕ) → u < M → w < M → u ≢ w → Apart (copies (f u)) (copies (f w))) where
  pub excl-after : (u w : ℕ) → u < M → w < M → u ≢ w → Apart (copies (upd t x f u)) (copies (upd t x f w))
  excl-after u w lu lw d = go (ℕ_discrete u t) (ℕ_discrete w t)
    where
      go : Dec (u ≡ t) → Dec (w ≡ t) → Apart (copies (upd t x f u)) (copies (upd t x f w))
      go (yes a) (yes b) = absurd (d (a ∙ sym b))
      go (yes a) (no b) = rw (a, upd_same t x f, upd_other t x f w b) (out w lw b)
      go (no a) (yes b) = rw (b, upd_same t x f, upd_other t x f u a) (λ r y z m k. out u lu a r z y k m)
      go (no a) (no b) = rw (upd_other t x f u a, upd_other t x f w b) (old u w lu lw d)
