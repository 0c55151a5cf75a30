-- Reclaim gives what is due.
use Prim.Native.Nat.{ℕ, zero, suc, ◌*◌, ◌<◌}
use mathlib.Core.Path.{◌≡◌, refl, sym, ◌∙◌}
use mathlib.Core.Logic.{◌≢◌}
use mathlib.Core.Bool.{Bool, true, false, not, ◌&&◌, ◌||◌, cond}
use mathlib.Core.Option.{Option, none, some}
use mathlib.Core.List.{List, []}
use native.Mathlib.Nat.{add-zero}
use native.Mathlib.Omega.{arith}
use lib.Dec.{eqb, leb, ltb}
use borrow.Author.Tests.{eqb-true, eqb-false, eq-eqb, ne_eqb, leb-true, leb-false, le-ltb, lt-ltb}
use Rattle.layout.specs.Checks.{first, answered}
use Rattle.layout.specs.Image.{place_of, slot_at, persist_at, ceiling_of}
use Rattle.layout.specs.Oldest.{oldest_of}
use Rattle.layout.specs.declared.oldest.Oldest.{Oldest}
use Rattle.layout.proofs.Least.{oldest-is}
use Rattle.layout.proofs.Says.{by-test}
use Rattle.desk.specs.Desk.{session_at, is_sealed, is_published}
use Rattle.desk.specs.declared.state.Phase.{Phase}
use Rattle.desk.specs.declared.state.Phase.TheVariants.{Idle, Active, Sealed, Published}
use Rattle.desk.specs.declared.state.Session.{Session}
use Rattle.desk.specs.declared.state.Desk.{Desk}
use Rattle.desk.specs.Entering.{image_fault}
use Rattle.layout.specs.Checks.{room_for}
use Rattle.desk.specs.declared.reply.StoringReply.{StoringReply}
use Rattle.commit.specs.Reclaim.{reclaim_fault, reclaim_entries, in_use, settled_number, chosen, none_left, held_b, clear_entries, reclaim_refused, reclaim_done, reclaim_reply}
use Rattle.commit.specs.declared.reclaiming.Reclaimed.{Reclaimed}
use Rattle.layout.specs.Told.{nothing, held}
use Rattle.commit.specs.Told.{reclaim_told}
use Rattle.history.specs.Call.{reclaim}
use Rattle.history.specs.Desk.{Copy}
use Rattle.history.specs.Due.{smallest, reclaims, due_of}
use Rattle.history.specs.History.{History}
use Rattle.history.specs.Layout.{view}
use Rattle.history.specs.Ledger.{free, choice, candidate}
use Rattle.history.proofs.KeptReclaim.{smallest-below, smallest-among}
use Rattle.claims.proofs.Abstraction.{txn-of, copies_of, pack, abs}
use Rattle.claims.proofs.Causes.{tells-cause}
use Rattle.claims.proofs.Simulation.{Sim, Ready}
use Rattle.claims.proofs.Entering.{told as says-only}
use Rattle.claims.proofs.SimulateChecks.{Checked, Does, past-four}

-- ---- the slot to clear

-- where a slot is in question, x is its number m, which is not 0; elsewhere x is 0
abbrev Turn : Bool → ℕ → ℕ → Type 0
Turn true x m = (x ≡ m) × (m ≢ 0)
Turn false x m = x ≡ 0

-- a slot is in question that is occupied and not in use
turn : (used : Bool) (m : ℕ) → Turn (not (eqb m 0) && not used) (cond used 0 m) m
turn used m = go used (eqb m 0) (eqb-true m 0) (eqb-false m 0)
  where
    go : (u z : Bool) → (z ≡ true → m ≡ 0) → (z ≡ false → m ≢ 0) → Turn (not z && not u) (cond u 0 m) m
    go true true y n = refl
    go true false y n = refl
    go false true y n = y refl
    go false false y n = (refl, n refl)

-- the choice is slot q with its number, or there is none
abbrev Chosen : (ℕ → ℕ) → Oldest → Option ℕ → Type 0
Chosen number b none = b.number ≡ 0
Chosen number b (some q) = (b.number ≡ number q) × (b.place ≡ q) × (number q ≢ 0) × (q < 2)

-- the older of two slots
older-chosen : (f number : ℕ → ℕ) (b₀ b₁ : Bool) → Turn b₀ (f 0) (number 0) → Turn b₁ (f 1) (number 1)
    → Chosen number (oldest_of f 2) (choice (number 0) (number 1) b₀ b₁)
unfolding oldest_of
older-chosen f number false false t₀ t₁ = rw (t₀, t₁) refl
older-chosen f number false true t₀ t₁ = rw (t₀, t₁.0, ne_eqb (number 1) 0 t₁.1) (refl, refl, t₁.1, omega arith)
older-chosen f number true false t₀ t₁ = rw (t₀.0, t₁, ne_eqb (number 0) 0 t₀.1) (refl, refl, t₀.1, omega arith)
older-chosen f number true true t₀ t₁ =
    let n₀ = ne_eqb (number 0) 0 t₀.1 in
    let n₁ = ne_eqb (number 1) 0 t₁.1 in
    by-test (leb (number 0) (number 1))
    (λ t. simp (t₀.0, t₁.0, n₀, n₁, t, le-ltb (number 1) (number 0) (leb-true _ _ t)) (refl, refl, t₀.1, omega arith))
    (λ t. simp (t₀.0, t₁.0, n₀, n₁, t, lt-ltb (number 1) (number 0) (leb-false _ _ t)) (refl, refl, t₁.1, omega arith))

-- a slot is free that is not in use
free-unused : (p : Phase) (q slot : ℕ) (cs : List Copy) → free q (txn-of p slot cs) ≡ not ((is_sealed p || is_published p) && eqb q slot)
free-unused Idle q slot cs = refl
free-unused (Active b) q slot cs = refl
free-unused (Sealed n) q slot cs = refl
free-unused (Published e) q slot cs = refl

-- ---- the oldest log

-- where some slot is occupied, both find the same number
same-oldest : (f g : ℕ → ℕ) → ((p : ℕ) → f p ≡ g p) → (k p : ℕ) → p < k → g p ≢ 0 → (oldest_of f k).number ≡ smallest g k
same-oldest f g same k p l n =
    let b = oldest-is f k in
    let some : (oldest_of f k).number ≢ 0 = λ z. n (sym (same p) ∙ b.none z p l) in
    let at = b.some some in
    let up = (smallest-below g k (oldest_of f k).place at.0 (λ z. some (sym at.1 ∙ same _ ∙ z))).0 in
    let low = smallest-among g k (smallest-below g k p l n).1 in
    let down = b.least low.0 low.1 (λ z. (smallest-below g k p l n).1 (sym low.2 ∙ sym (same low.0) ∙ z)) in
    omega (arith, up, down, at.1, low.2, same low.0, same (oldest_of f k).place)

-- ---- the call

-- reclaim past its checks, and where a check refuses
abbrev reclaim-call : List ℕ → (d : Desk) (f : ℕ → ℕ) → ℕ → ℕ → Checked d f
reclaim-call img d f len s =
    record {
      call = reclaim len s;
      Gives = StoringReply Reclaimed;
      tells = λ r. reclaim_told r.answer;
      left = λ r. r.desk;
      refused = reclaim_refused d;
      done = reclaim_done img d s;
      listed = cond (none_left img d s) [] (cond (held_b img d s) [] (clear_entries img d s));
      refuses = tells-cause;
      keeps = λ k. refl;
      notes = λ k. refl;
    }

module _ (img : List ℕ) (d : Desk) (len s : ℕ) where
  -- the entry of session s, and the slots' numbers
  abbrev e : Session
  e = session_at d s

  abbrev f : ℕ → ℕ
  f = (view d.n img).number

  -- the number of the session's slot q, and whether the slot is in question
  abbrev number : ℕ → ℕ
  number q = f (place_of s q)

  abbrev asked : ℕ → Bool
  asked q = not (eqb (number q) 0) && free q (pack e)

  -- the numbers of the image
  number_is : (p : ℕ) → persist_at img d.n p ≡ f p
  number_is p = rw (add-zero (slot_at d.n p)) refl

  -- the session's slots
  turns : (q : ℕ) → Turn (asked q) (settled_number img d s q) (number q)
  turns q = rw (free-unused e.phase q e.slot (copies_of e), number_is (place_of s q)) (turn (in_use e q) (number q))

  -- the store chooses the candidate
  candidate-chosen : Chosen number (chosen img d s) (candidate f s (pack e))
  candidate-chosen = older-chosen (settled_number img d s) number (asked 0) (asked 1) (turns 0) (turns 1)

  -- by the slot to clear
  by-slot : s < d.m → (o : Option ℕ) → Chosen number (chosen img d s) o → Does d f (reclaim-call img d f len s) 0 (reclaims d.n d.m f s o)
  unfolding answered
  by-slot l none z = rw (eq-eqb (chosen img d s).number 0 z) (says-only (reclaim len s) f d nothing refl)
  by-slot l (some q) z =
      let left = ne_eqb (number q) 0 z.2 in
      let old = same-oldest (persist_at img d.n) f number_is (2 * d.m) (place_of s q) (omega (arith, z.3)) z.2 in
      by-test (ltb (smallest f (2 * d.m)) (number q))
      (λ t. rw (z.0, left, old, t) (says-only (reclaim len s) f d (held (smallest f (2 * d.m))) refl))
      (λ t. rw (z.0, z.1, left, old, t) (record { answers = refl; stored = refl; desk = refl }))

-- no check follows
first-none : (a : ℕ) → first a 0 ≡ a
unfolding first
first-none zero = refl
first-none (suc a) = refl

pub reclaim-sim : (N M : ℕ) (img : List ℕ) (d : Desk) (k : History) (len s : ℕ) → Ready N M img d
    → Sim (reclaim len s) (view N img).number d (reclaim_told (reclaim_reply img d len s).answer) (reclaim_entries img d len s) (reclaim_reply img d len s).desk
    (due_of N M (view N img).number (ceiling_of img) (abs d) k (reclaim len s))
unfolding reclaim_reply reclaim_entries reclaim_fault
reclaim-sim N M img d k len s h =
    rw (← (first-none (image_fault img d (room_for len) s)))
    (past-four d (view N img).number (reclaim-call img d (view N img).number len s) N M img len s 0 _ h
    (λ l. rw (← h.n-same, ← h.m-same)
    (by-slot img d len s (omega (arith, h.m-same)) (candidate (view d.n img).number s (pack (session_at d s))) (candidate-chosen img d len s))))
