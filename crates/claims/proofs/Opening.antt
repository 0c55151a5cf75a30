-- The world at an opening: image and desk are ready, and the invariant of crate history holds; and what a cut in the opening leaves.
use Prim.Native.Nat.{ℕ, zero, suc, ◌+◌, ◌*◌, ◌≤◌, ◌<◌}
use mathlib.Core.Path.{◌≡◌, refl, sym, ap, ◌∙◌, fun_ext}
use mathlib.Core.Logic.{◌⊎◌, inl, inr}
use mathlib.Core.Bool.{Bool, true, false, not}
use mathlib.Core.List.{List}
use native.Mathlib.Decide.{dec_lt}
use native.Mathlib.Omega.{arith}
use lib.Dec.{eqb}
use lib.ListN.{get_or, replicate, get_or-eq_default}
use lib.Seq.{get_or-set_same}
use borrow.Author.Tests.{eqb-true}
use Rattle.std.specs.Prelude.{⊤}
use Rattle.layout.specs.Below.{any_below}
use Rattle.layout.proofs.BelowLaws.{any-finds}
use Rattle.layout.specs.Ceiling.{raise_entries}
use Rattle.layout.specs.Checks.{answered}
use Rattle.layout.specs.Crash.{crashed as crash}
use Rattle.layout.specs.Entries.{made}
use Rattle.layout.specs.Image.{slot_at, records_of, sessions_of, ceiling_of, shaped_b, home_words, persist_at, occupied_at, occupied_b}
use Rattle.layout.proofs.Says.{test}
use Rattle.layout.proofs.Shape.{Shaped, says-shaped}
use Rattle.layout.specs.Told.{ok}
use Rattle.desk.specs.Desk.{no_session, idle_session}
use Rattle.desk.specs.declared.reply.StoringReply.{StoringReply}
use Rattle.journal.specs.Log.{Sound}
use Rattle.recovery.specs.Open.{open_fault, open_entries, open_reply, open_refused, opened as opened_reply, fresh_desk}
use Rattle.recovery.proofs.OpenLaws.{Openable, openable, open-opens}
use Rattle.recovery.specs.Told.{open_told}
use Rattle.history.specs.Log.{Occupied, Clean}
use Rattle.history.specs.Layout.{body, log_of, view}
use Rattle.history.specs.Desk.{spot, Session as Txn, idle}
use Rattle.history.proofs.Invariant.{Inv}
use Rattle.history.proofs.Kept.{Holds, Crashed}
use Rattle.history.proofs.MoveRaise.{raise-numbers, raise-above, raise-holds, raise-crashed}
use Rattle.history.proofs.Slots.{One-word, made_one, cut-one}
use Rattle.claims.specs.Run.{open_ledger}
use Rattle.claims.proofs.Abstraction.{pack, abs}
use Rattle.claims.proofs.Recovering.{Whole, whole_again}
use Rattle.claims.proofs.Simulation.{Ready}
use Rattle.claims.proofs.SteadyCalls.{fresh-steady}

-- an image that opens passes the checks
module _ (img : List ℕ) (len : ℕ) (o : open_told (open_reply img len).answer ≡ ok) where
  passes : open_fault img len ≡ 0
  unfolding open_reply answered
  passes = go (open_fault img len) o
    where
      go : (k : ℕ) → open_told (answered k open_refused (opened_reply img)).answer ≡ ok → k ≡ 0
      go zero e = refl
      go (suc k) e = absurd (let z : ◌≡◌ {A = ℕ} 0 1 = cc in omega arith)

  -- what the checks leave
  pub facts : Openable img len
  facts = openable img len passes

  shape : Shaped img
  shape = facts.shaped

  opens-shaped : shaped_b img ≡ true
  opens-shaped = (says-shaped img).no shape

  -- all slots are empty
  pub opens-clean : (p : ℕ) → p < 2 * sessions_of img → persist_at img (records_of img) p ≡ 0
  unfolding occupied_b
  opens-clean p l = go (test (eqb (persist_at img (records_of img) p) 0))
    where
      none-occupied : any_below (2 * sessions_of img) (occupied_at img (records_of img)) ≡ false
      none-occupied = facts.empty

      go : (eqb (persist_at img (records_of img) p) 0 ≡ true) ⊎ (eqb (persist_at img (records_of img) p) 0 ≡ false) → persist_at img (records_of img) p ≡ 0
      go (inl e) = eqb-true _ _ e
      go (inr e) = absurd (let z = any-finds (occupied_at img (records_of img)) (2 * sessions_of img) p l (ap not e) in let y : ◌≡◌ {A = Bool} false true = sym none-occupied ∙ z in let w : ◌≡◌ {A = ℕ} 0 1 = cc in omega arith)

  -- the clock that it gives
  abbrev clock : ℕ
  clock = ceiling_of img + 1

  pub opens-desk : (open_reply img len).desk ≡ fresh_desk (ceiling_of img + 1) (records_of img) (sessions_of img)
  opens-desk = ap (λ (r : StoringReply ⊤). r.desk) (open-opens img len passes).replies

  pub opens-entries : open_entries img len ≡ raise_entries (ceiling_of img + 1)
  opens-entries = (open-opens img len passes).lists

  -- the image behind the opening: word 3 is stored, and nothing else
  abbrev raised : List ℕ
  raised = made (raise_entries (ceiling_of img + 1)) img

  one : One-word 3 (clock + 1024) img raised
  one = made_one 3 (clock + 1024) img

  pub opens-ceiling : get_or (made (raise_entries (ceiling_of img + 1)) img) 3 0 ≡ ceiling_of img + 1 + 1024
  opens-ceiling = get_or-set_same img 3 (clock + 1024) 0 (omega (arith, shape.size))

  pub opens-whole : Whole (records_of img) (sessions_of img) img
  opens-whole = record { shaped = opens-shaped; records = refl; sessions = refl }

  whole-raised : Whole (records_of img) (sessions_of img) raised
  whole-raised = whole_again _ _ img raised opens-whole (λ j l. one.others j (λ e. omega arith)) (one.long ∙ shape.size)

  pub opens-ready : Ready (records_of img) (sessions_of img) (made (raise_entries (ceiling_of img + 1)) img) (fresh_desk (ceiling_of img + 1) (records_of img) (sessions_of img))
  opens-ready =
      let h = fresh-steady clock (records_of img) (sessions_of img) (omega arith) (omega (arith, facts.below)) shape.range.n-low shape.range.n-high shape.range.m-low shape.range.m-high in
      record {
        shaped = whole-raised.shaped;
        records = whole-raised.records;
        sessions = whole-raised.sessions;
        n-same = refl;
        m-same = refl;
        under = omega (arith, opens-ceiling);
        coherent = h.coherent;
        holders-long = h.sized.holders;
        sessions-long = h.sized.sessions;
        copies-long = h.sized.copies;
        order-long = h.sized.order;
      }

  -- a slot that is past the last one is empty too
  empty : (p : ℕ) → get_or img (slot_at (records_of img) p) 0 ≡ 0
  empty p = at (dec_lt p (2 * sessions_of img))
    where
      at : Dec (p < 2 * sessions_of img) → get_or img (slot_at (records_of img) p) 0 ≡ 0
      at (yes l) = ap (λ i. get_or img i 0) (omega arith) ∙ opens-clean p l
      at (no n) = get_or-eq_default img 0 (omega (arith, shape.size))

  -- the persist numbers as a function: 0 everywhere
  pub opens-numbers : (λ p. 0) ≡ (view (records_of img) (made (raise_entries (ceiling_of img + 1)) img)).number
  opens-numbers = fun_ext (λ p. sym (raise-numbers (records_of img) (sessions_of img) (clock + 1024) img raised one p ∙ empty p))

  clean : Clean (2 * sessions_of img) (view (records_of img) img)
  clean p l = empty p

  -- word j of a home record
  home-word : (r j : ℕ) → j < 4 → get_or img (spot r j) 0 ≡ get_or (home_words img r) j 0
  home-word r zero l = ap (λ i. get_or img i 0) (omega arith)
  home-word r (suc zero) l = refl
  home-word r (suc (suc zero)) l = refl
  home-word r (suc (suc (suc zero))) l = refl
  home-word r (suc (suc (suc (suc j)))) l = absurd (omega arith)

  sounds : (p : ℕ) → Occupied (2 * sessions_of img) (view (records_of img) img) p → Sound (records_of img) (log_of (body (records_of img) img p))
  sounds p a = absurd (a.1 (clean p a.0))

  inv : Inv (records_of img) (sessions_of img) (view (records_of img) img) (open_ledger img).desk (open_ledger img).history
  inv =
      record {
        positive = omega arith;
        apart = λ p q r j l x y lj ll n a c. absurd (a.occupied.1 (clean p a.occupied.0));
        bounded = λ p l. let z : get_or img (4 + 4 * records_of img + 22 * p) 0 ≡ 0 = clean p l in omega arith;
        newer = λ p r j x l a nn. absurd (a.occupied.1 (clean p a.occupied.0));
        fine = λ t l. tt;
        excl = λ t u lt lu n r x y m k. m;
        final = λ r j lr lj. inr (record { unwritten = λ q x a. a.occupied.1 (clean q a.occupied.0); stands = home-word r j lj });
        views = λ r σ lr li nn j lj. home-word r j lj;
        lasts = λ r lr nn j lj. home-word r j lj;
      }

  pub opens-holds : Holds (records_of img) (sessions_of img) (made (raise_entries (ceiling_of img + 1)) img) (open_ledger img).desk (open_ledger img).history
  opens-holds =
      raise-holds (records_of img) (sessions_of img) (clock + 1024) img raised one (open_ledger img).desk (open_ledger img).history shape.size sounds inv
      (omega (arith, opens-ceiling))

  -- a cut in the opening: of the image, word 3 may be stored or not
  module _ (k : ℕ) (sel : ℕ → Bool) where
    torn : One-word 3 (clock + 1024) img (crash k sel (raise_entries (ceiling_of img + 1)) img)
    torn = cut-one 3 (clock + 1024) img k sel

    pub opens-cut-whole : Whole (records_of img) (sessions_of img) (crash k sel (raise_entries (ceiling_of img + 1)) img)
    opens-cut-whole = whole_again _ _ img _ opens-whole (λ j l. torn.others j (λ e. omega arith)) (torn.long ∙ shape.size)

    pub opens-crashed : Crashed (records_of img) (sessions_of img) (crash k sel (raise_entries (ceiling_of img + 1)) img) (open_ledger img).history
    opens-crashed =
        raise-crashed (records_of img) (sessions_of img) (clock + 1024) img _ torn (open_ledger img).history
        (record { good = record { whole = shape.size; sound = sounds; apart = inv.apart }; final = inv.final })

    pub opens-cut-ceiling : ceiling_of img ≤ ceiling_of (crash k sel (raise_entries (ceiling_of img + 1)) img)
    opens-cut-ceiling = raise-above (records_of img) (sessions_of img) (clock + 1024) img _ torn (omega arith)

-- the fresh desk, abstractly: all idle
pub fresh-idle : (clock n m : ℕ) → abs (fresh_desk clock n m) ≡ record { clock = clock; session = λ t. idle }
fresh-idle clock n m = ap (λ (f : ℕ → Txn). record { clock = clock; session = f }) (fun_ext (λ t. row 16 t))
  where
    row : (k t : ℕ) → pack (get_or (replicate k idle_session) t no_session) ≡ idle
    row zero t = refl
    row (suc k) zero = refl
    row (suc k) (suc t) = row k t
