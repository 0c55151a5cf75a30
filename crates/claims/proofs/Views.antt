-- What a start sees does not change by later calls, nor by a cut.
use Prim.Native.Nat.{ℕ, ◌≤◌}
use mathlib.Core.Path.{◌≡◌, refl, sym, ◌∙◌, subst}
use mathlib.Core.Bool.{Bool, true, false, cond}
use mathlib.Core.List.{List, [], ◌∷◌, ◌++◌}
use native.Mathlib.Omega.{arith}
use Rattle.layout.specs.Told.{Told, is, value_of, Sealed}
use Rattle.history.specs.Call.{Call, begin, read, write, abandon, finish, publish, group, settle, reclaim, listen}
use Rattle.history.specs.Cut.{number_arrived, feed_cut}
use Rattle.history.specs.Desk.{Desk}
use Rattle.history.specs.Due.{due}
use Rattle.history.specs.History.{History, sealing, feed, view_at}
use Rattle.history.specs.Ledger.{Ledger, note_desk, note}
use Rattle.history.proofs.Book.{unseen}
use Rattle.history.proofs.Calls.{due-done}
use Rattle.history.proofs.Kept.{Later}
use Rattle.claims.specs.Rules.{store_rules}
use Rattle.claims.specs.Run.{World, reply, step, run}
use Rattle.claims.proofs.Along.{Along, same, step-along}

-- the clock does not go back, and what a start up to the clock sees stays
pub record Stays (L L' : Ledger) : Type 0 where
  pub clock : L.desk.clock ≤ L'.desk.clock
  pub views : (σ r : ℕ) → σ ≤ L.desk.clock → view_at L'.history σ r ≡ view_at L.history σ r

stays-self : (L : Ledger) → Stays L L
stays-self L = record { clock = omega arith; views = λ σ r l. refl }

stays_then : {K L M : Ledger} → Stays K L → Stays L M → Stays K M
stays_then a b = record { clock = omega (arith, a.clock, b.clock); views = λ σ r l. b.views σ r (omega (arith, a.clock)) ∙ a.views σ r l }

-- one call
pub step_stays : (N M : ℕ) (w : World) → Along N M w → (c : Call) → Stays w.ledger (step store_rules w c).ledger
unfolding step note
step_stays N M w a c =
    from (subst (λ (t : Told). Then t w.ledger.number) (sym (same N M w a c).answers)
    (subst (λ (f : ℕ → ℕ). Then (due N M w.ledger c).answer f) (sym a.held.numbers) (due-done N M w.image w.ledger a.held c).later))
  where
    Then : Told → (ℕ → ℕ) → Type 0
    Then t f = Later w.ledger.desk w.ledger.history (note_desk c t f w.ledger.desk) (feed c t w.ledger.history)

    from : Then (reply store_rules w c).told w.ledger.number → Stays w.ledger (note c (reply store_rules w c).told w.ledger)
    from l = record { clock = l.clock; views = l.views }

-- a list of calls
pub run-stays : (N M : ℕ) (calls : List Call) (w : World) → Along N M w → Stays w.ledger (run store_rules calls w).ledger
unfolding run
run-stays N M [] w a = stays-self w.ledger
run-stays N M (c ∷ cs) w a = stays_then (step_stays N M w a c) (run-stays N M cs (step store_rules w c) (step-along N M w a c))

pub run-append : (before more : List Call) (w : World) → run store_rules (before ++ more) w ≡ run store_rules more (run store_rules before w)
unfolding run
run-append [] more w = refl
run-append (c ∷ cs) more w = run-append cs more (step store_rules w c)

-- the cut
pub cut-view : (N : ℕ) (d : Desk) (c : Call) (t : Told) (img : List ℕ) (h : History) (σ r : ℕ) → view_at (feed_cut N d c t img h) σ r ≡ view_at h σ r
cut-view N d (begin s) t img h σ r = refl
cut-view N d (read s u) t img h σ r = refl
cut-view N d (write s u ws) t img h σ r = refl
cut-view N d (abandon s) t img h σ r = refl
cut-view N d (publish len s) t img h σ r = refl
cut-view N d (group len set) t img h σ r = refl
cut-view N d (settle len s) t img h σ r = refl
cut-view N d (reclaim len s) t img h σ r = refl
cut-view N d (listen c) t img h σ r = refl
cut-view N d (finish len s) t img h σ r = go (is Sealed t) (number_arrived N d s (value_of t) img)
  where
    go : (a b : Bool) → view_at (cond a (cond b (sealing s h) h) h) σ r ≡ view_at h σ r
    go true true = unseen σ r h.sealed s (h.draft s) (h.opening r)
    go true false = refl
    go false b = refl
