-- The home record of a record that an active session copies is the book's: nobody has it sealed or published.
use Prim.Native.Nat.{ℕ, ◌<◌}
use mathlib.Core.Path.{◌≡◌, sym}
use mathlib.Core.List.{List}
use native.Mathlib.Decide.{ℕ_discrete}
use lib.ListN.{get_or}
use Rattle.history.specs.Log.{State}
use Rattle.history.specs.Desk.{Copy, spot, active, copies, Desk}
use Rattle.history.specs.History.{History, record_of}
use Rattle.history.proofs.Copies.{Mem, Apart}
use Rattle.history.proofs.Invariant.{Active, kept, NoOne, Inv, Low, low-kept}
use Rattle.history.proofs.MoveQuiet.{kept-copies}

module _ (N M : ℕ) (v : State) (d : Desk) (h : History) (t b q : ℕ) (cs : List Copy) (inv : Inv N M v d h) (l : t < M) (is : d.session t ≡ active b q cs) where
  act : Active N v h d.clock t b q cs
  act = rw is at (inv.fine t l)

  low : Low (d.session t)
  low = rw is tt

  -- no other session has a record of cs
  pub alone : (u : ℕ) → u < M → (u ≡ t → ⊥) → Apart cs (copies (d.session u))
  alone u lu du = rw is at (inv.excl t u l lu (λ e. du (sym e)))

  pub not-kept : (r : ℕ) (ws : List ℕ) → Mem r ws cs → NoOne M kept d r
  not-kept r ws m u lu w k = at-u (ℕ_discrete u t)
    where
      at-u : Dec (u ≡ t) → ⊥
      at-u (yes e) = low-kept (d.session t) low r w (rw e at k)
      at-u (no du) = alone u lu du r ws w m (kept-copies (d.session u) r w k)

  pub held-home : (r : ℕ) (ws : List ℕ) → Mem r ws cs → (j : ℕ) → j < 4 → v.home (spot r j) ≡ get_or (record_of h r) j 0
  held-home r ws m j lj = inv.lasts r (act.lawful.below r ws m) (not-kept r ws m) j lj
