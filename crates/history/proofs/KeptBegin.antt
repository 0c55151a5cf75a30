-- Begin keeps the invariant.
use Prim.Native.Nat.{ℕ, ◌<◌}
use mathlib.Core.Path.{◌≡◌, refl}
use mathlib.Core.Logic.{inl}
use mathlib.Core.List.{List, []}
use native.Mathlib.Omega.{arith}
use lib.ListN.{get_or}
use Rattle.layout.specs.Told.{start}
use Rattle.history.specs.Layout.{view}
use Rattle.history.specs.Call.{begin}
use Rattle.history.specs.Desk.{Session, idle, active, sealed, published, Desk}
use Rattle.history.specs.Due.{begins, due_of}
use Rattle.history.specs.History.{History, started}
use Rattle.history.proofs.Copies.{upd_same, upd_other}
use Rattle.history.proofs.MoveQuiet.{quiet}
use Rattle.history.proofs.Kept.{Holds, Done, said, refusing, past-session}

module _ (N M : ℕ) (img : List ℕ) (d : Desk) (h : History) (H : Holds N M img d h) (s : ℕ) where
  begin-at : s < M → (x : Session) → d.session s ≡ x → Done N M img d h (begin s) (begins d.clock x)
  begin-at l idle e = said N M img d h H (begin s) (start d.clock) _ refl refl (λ _. refl) (record { clock = omega arith; views = λ σ u k. refl })
      (quiet N M (view N img) d h (started s d.clock h) s (active d.clock 0 []) H.inv l (rw e tt) tt
      (record { opening = refl; sealed = refl; drafts = λ u n. upd_other s [] h.draft u n; starts = λ u n. upd_other s d.clock h.start u n })
      (record {
        lawful = record { distinct = tt; below = λ r ws m. absurd m; few = omega arith };
        begun = omega arith;
        reserved = omega arith;
        vacant = λ z. absurd (omega arith);
        drafted = upd_same s [] h.draft;
        noted = upd_same s d.clock h.start;
      })
      (λ u lu n r y z m k. m)
      (λ σ st. inl (omega (arith, st))))
      refl (λ _. refl)
  begin-at l (active b q cs) e = refusing N M img d h H (begin s) 6 refl
  begin-at l (sealed n q cs) e = refusing N M img d h H (begin s) 6 refl
  begin-at l (published f q cs) e = refusing N M img d h H (begin s) 6 refl

  pub begin-done : Done N M img d h (begin s) (due_of N M (view N img).number (get_or img 3 0) d h (begin s))
  begin-done = past-session N M img d h H (begin s) s _ (λ l. begin-at l (d.session s) refl)
