-- The listening room's calls keep the invariant: read and find change nothing, begin and finish do what the store's do.
use Prim.Native.Nat.{ℕ, ◌<◌}
use mathlib.Core.Path.{◌≡◌, refl}
use mathlib.Core.Bool.{Bool, true, false, cond, ◌&&◌}
use mathlib.Core.Option.{Option, none, some}
use mathlib.Core.List.{List, [], ◌∷◌}
use lib.Dec.{leb}
use lib.ListN.{get_or}
use Rattle.layout.specs.Told.{Told, End, is}
use Rattle.history.specs.Layout.{view}
use Rattle.history.specs.Call.{Listening, Begin, Read, Finish, Find, begin, listen}
use Rattle.history.specs.Desk.{Copy, Session, idle, active, sealed, published, Desk, holder}
use Rattle.history.specs.Due.{Due, say, refuse, shown_by, reads_other, if_shelf, if_no_copies, hears, leaves, finds, first_shelved, searches, due_of}
use Rattle.history.specs.History.{History, view_at}
use Rattle.history.proofs.Kept.{Holds, Done, same, refusing, past_room, past-session, past-record, left-empty}
use Rattle.history.proofs.KeptBegin.{begin-done}

module _ (N M : ℕ) (img : List ℕ) (d : Desk) (h : History) (H : Holds N M img d h) where
  abbrev Keeps : Listening → Due → Type 0
  Keeps c y = Done N M img d h (listen c) y

  -- begin
  as-begin : (s : ℕ) (y : Due) → Done N M img d h (begin s) y → Keeps (Begin s) y
  as-begin s y a =
      record { kept = a.kept; later = a.later; marks = a.marks; low = a.low; top = a.top; low-cut = a.low-cut; top-cut = a.top-cut; broken = a.broken }

  -- past check 18
  no-copies : (c : Listening) (cs : List Copy) (y : Due) → (cs ≡ [] → Keeps c y) → Keeps c (if_no_copies cs y)
  no-copies c [] y f = f refl
  no-copies c (x ∷ cs) y f = refusing N M img d h H (listen c) 18 refl

  -- ---- read

  reads : (s r : ℕ) (t : Told) → is End t ≡ false → Keeps (Read s r) (say t)
  reads s r t e = same N M img d h H (listen (Read s r)) t e (λ _. refl) refl refl (λ _. refl)

  other : (s r : ℕ) (b : Bool) (ws : List ℕ) → Keeps (Read s r) (reads_other b ws)
  other s r true ws = reads s r _ refl
  other s r false ws = reads s r _ refl

  read-at : (s r : ℕ) (x : Session) → Keeps (Read s r) (hears M d h r x)
  read-at s r idle = reads s r _ refl
  read-at s r (active b q cs) = no-copies (Read s r) cs _ (λ e. other s r (shown_by b d (holder M d r)) (view_at h b r))
  read-at s r (sealed n q cs) = reads s r _ refl
  read-at s r (published f q cs) = reads s r _ refl

  -- ---- finish

  finish-at : (len s : ℕ) → s < M → (x : Session) → d.session s ≡ x → Keeps (Finish len s) (leaves x)
  finish-at len s l idle e = refusing N M img d h H (listen (Finish len s)) 6 refl
  finish-at len s l (active b q []) e = left-empty N M img d h H (listen (Finish len s)) s b q e l (λ _. refl) refl refl (λ _. refl)
  finish-at len s l (active b q (c ∷ cs)) e = refusing N M img d h H (listen (Finish len s)) 18 refl
  finish-at len s l (sealed n q cs) e = refusing N M img d h H (listen (Finish len s)) 6 refl
  finish-at len s l (published f q cs) e = refusing N M img d h H (listen (Finish len s)) 6 refl

  -- ---- find

  searched : (s k : ℕ) (t : Told) → is End t ≡ false → Keeps (Find s k) (say t)
  searched s k t e = same N M img d h H (listen (Find s k)) t e (λ _. refl) refl refl (λ _. refl)

  found : (s k : ℕ) (o : Option ℕ) → Keeps (Find s k) (finds o)
  found s k none = searched s k _ refl
  found s k (some r) = searched s k _ refl

  find_at : (s k : ℕ) (x : Session) → Keeps (Find s k) (searches N h k x)
  find_at s k idle = searched s k _ refl
  find_at s k (active b q cs) = no-copies (Find s k) cs _ (λ e. found s k (first_shelved N h b k))
  find_at s k (sealed n q cs) = searched s k _ refl
  find_at s k (published f q cs) = searched s k _ refl

  past-shelf : (s k : ℕ) (y : Due) → Keeps (Find s k) y → Keeps (Find s k) (if_shelf k y)
  past-shelf s k y f = go (leb 1 k && leb k 999999)
    where
      go : (b : Bool) → Keeps (Find s k) (cond b y (refuse 15))
      go true = f
      go false = searched s k _ refl

  pub listening-done : (c : Listening) → Keeps c (due_of N M (view N img).number (get_or img 3 0) d h (listen c))
  listening-done (Begin s) = as-begin s _ (begin-done N M img d h H s)
  listening-done (Read s r) =
      past-session N M img d h H (listen (Read s r)) s _ (λ l. past-record N M img d h H (listen (Read s r)) r _ (λ lr. read-at s r (d.session s)))
  listening-done (Finish len s) =
      past_room N M img d h H (listen (Finish len s)) len _
      (past-session N M img d h H (listen (Finish len s)) s _ (λ l. finish-at len s l (d.session s) refl))
  listening-done (Find s k) = past-shelf s k _ (past-session N M img d h H (listen (Find s k)) s _ (λ l. find_at s k (d.session s)))
