-- Read keeps the invariant: it changes nothing.
use Prim.Native.Nat.{ℕ}
use mathlib.Core.Path.{◌≡◌, refl}
use mathlib.Core.Bool.{Bool, true, false}
use mathlib.Core.Option.{Option, none, some}
use mathlib.Core.List.{List}
use lib.ListN.{get_or}
use Rattle.layout.specs.Told.{Told, End, is}
use Rattle.history.specs.Layout.{view}
use Rattle.history.specs.Call.{read}
use Rattle.history.specs.Desk.{find, Session, idle, active, sealed, published, Desk, holder}
use Rattle.history.specs.Due.{say, shown_by, reads_other, reads_own, reads, due_of}
use Rattle.history.specs.History.{History, view_at}
use Rattle.history.proofs.Kept.{Holds, Done, same, past-session, past-record}

module _ (N M : ℕ) (img : List ℕ) (d : Desk) (h : History) (H : Holds N M img d h) (s r : ℕ) where
  told : (t : Told) → is End t ≡ false → Done N M img d h (read s r) (say t)
  told t e = same N M img d h H (read s r) t e (λ _. refl) refl refl (λ _. refl)

  other : (b : Bool) (ws : List ℕ) → Done N M img d h (read s r) (reads_other b ws)
  other true ws = told _ refl
  other false ws = told _ refl

  read-at : (x : Session) → Done N M img d h (read s r) (reads M d h r x)
  read-at idle = told _ refl
  read-at (active b q cs) = own_first (find r cs)
    where
      own_first : (o : Option (List ℕ)) → Done N M img d h (read s r) (reads_own o (reads_other (shown_by b d (holder M d r)) (view_at h b r)))
      own_first none = other (shown_by b d (holder M d r)) (view_at h b r)
      own_first (some ws) = told _ refl
  read-at (sealed n q cs) = told _ refl
  read-at (published f q cs) = told _ refl

  pub read-done : Done N M img d h (read s r) (due_of N M (view N img).number (get_or img 3 0) d h (read s r))
  read-done = past-session N M img d h H (read s r) s _ (λ l. past-record N M img d h H (read s r) r _ (λ lr. read-at (d.session s)))
