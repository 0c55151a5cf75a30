-- Abandon keeps the invariant.
use Prim.Native.Nat.{ℕ, ◌<◌}
use mathlib.Core.Path.{◌≡◌, refl}
use mathlib.Core.List.{List}
use native.Mathlib.Omega.{arith}
use lib.ListN.{get_or}
use Rattle.layout.specs.Told.{ok}
use Rattle.history.specs.Layout.{view}
use Rattle.history.specs.Call.{abandon}
use Rattle.history.specs.Desk.{Session, idle, active, sealed, published, Desk}
use Rattle.history.specs.Due.{abandons, due_of}
use Rattle.history.specs.History.{History}
use Rattle.history.proofs.Kept.{Holds, Done, said, refusing, past-session, idles, emptied}

module _ (N M : ℕ) (img : List ℕ) (d : Desk) (h : History) (H : Holds N M img d h) (s : ℕ) where
  abandon-at : s < M → (x : Session) → d.session s ≡ x → Done N M img d h (abandon s) (abandons x)
  abandon-at l idle e = refusing N M img d h H (abandon s) 6 refl
  abandon-at l (active b q cs) e =
      said N M img d h H (abandon s) ok _ refl refl (λ _. refl) (record { clock = omega arith; views = λ σ u k. refl })
      (idles N M img d h H s b q cs _ e l (emptied N M img d h H s)) refl (λ _. refl)
  abandon-at l (sealed n q cs) e = refusing N M img d h H (abandon s) 6 refl
  abandon-at l (published f q cs) e = refusing N M img d h H (abandon s) 6 refl

  pub abandon-done : Done N M img d h (abandon s) (due_of N M (view N img).number (get_or img 3 0) d h (abandon s))
  abandon-done = past-session N M img d h H (abandon s) s _ (λ l. abandon-at l (d.session s) refl)
