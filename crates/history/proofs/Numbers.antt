-- Starts and ends that are due: none is below the clock before the call, none above the clock behind it.
use Prim.Native.Nat.{ℕ, ◌*◌, ◌≤◌}
use mathlib.Core.Path.{◌≡◌, refl, sym, ◌∙◌}
use mathlib.Core.Bool.{Bool, true, false, cond, ◌&&◌, ◌||◌, false≢true}
use mathlib.Core.Option.{Option, none, some}
use mathlib.Core.List.{List, [], ◌∷◌}
use native.Mathlib.Omega.{arith}
use lib.Dec.{eqb, leb, ltb}
use lib.ListN.{length}
use Rattle.layout.specs.Image.{place_of}
use Rattle.layout.specs.Told.{Told, is, value_of, Start, End}
use Rattle.desk.specs.Coherent.{limit}
use Rattle.history.specs.Call.{Begin, Read, Finish, Find, Call, begin, read, write, abandon, finish, publish, group, settle, reclaim, listen}
use Rattle.history.specs.Desk.{Copy, find, Session, idle, active, sealed, published, Desk, holder, awaited}
use Rattle.history.specs.Due.{Due, refuse, begins, reads_other, reads_own, reads, shown_by, adds, writes_held, writes_own, wrote, abandons, finishes, waits, settles, smallest, reclaims, if_no_copies, hears, leaves, finds, first_shelved, searches, due_of, due}
use Rattle.history.specs.History.{History, view_at}
use Rattle.history.specs.Ledger.{Ledger, candidate, note_desk}
use Rattle.history.proofs.PublishDue.{publish-due, group-due}

abbrev pub Timed : Told → ℕ → ℕ → Type 0
Timed t from to = (is Start t || is End t) ≡ true → (from ≤ value_of t) × (value_of t ≤ to)

-- neither a start nor an end
record Silent (y : Due) : Type 0 where
  says : (is Start y.answer || is End y.answer) ≡ false

mute : {y : Due} → (is Start y.answer || is End y.answer) ≡ false → Silent y
mute e = record { says = e }

either : (b : Bool) (x y : Due) → Silent x → Silent y → Silent (cond b x y)
either true x y p q = p
either false x y p q = q

-- ---- the calls that give no number

other : (b : Bool) (ws : List ℕ) → Silent (reads_other b ws)
other true ws = mute refl
other false ws = mute refl

reads-silent : (M : ℕ) (d : Desk) (h : History) (r : ℕ) (x : Session) → Silent (reads M d h r x)
reads-silent M d h r idle = mute refl
reads-silent M d h r (active b q cs) = go (find r cs)
  where
    go : (o : Option (List ℕ)) → Silent (reads_own o (reads_other (shown_by b d (holder M d r)) (view_at h b r)))
    go none = other (shown_by b d (holder M d r)) (view_at h b r)
    go (some ws) = mute refl
reads-silent M d h r (sealed n q cs) = mute refl
reads-silent M d h r (published e q cs) = mute refl

adds-silent : (f : ℕ → ℕ) (s : ℕ) (cs : List Copy) → Silent (adds f s cs)
adds-silent f s [] = either (eqb (f (place_of s 0)) 0) _ _ (mute refl) (either (eqb (f (place_of s 1)) 0) _ _ (mute refl) (mute refl))
adds-silent f s (c ∷ cs) = either (leb 4 (length (c ∷ cs))) _ _ (mute refl) (mute refl)

wrote-silent : (M : ℕ) (f : ℕ → ℕ) (d : Desk) (s r : ℕ) (x : Session) → Silent (wrote M f d s r x)
wrote-silent M f d s r idle = mute refl
wrote-silent M f d s r (active b q cs) = go (find r cs) (holder M d r)
  where
    go : (o : Option (List ℕ)) (t : Option ℕ) → Silent (writes_own o (writes_held f s cs t))
    go none none = adds-silent f s cs
    go none (some t) = mute refl
    go (some ws) t = mute refl
wrote-silent M f d s r (sealed n q cs) = mute refl
wrote-silent M f d s r (published e q cs) = mute refl

abandons-silent : (x : Session) → Silent (abandons x)
abandons-silent idle = mute refl
abandons-silent (active b q cs) = mute refl
abandons-silent (sealed n q cs) = mute refl
abandons-silent (published e q cs) = mute refl

finishes-silent : (N : ℕ) (h : History) (clock s : ℕ) (x : Session) → Silent (finishes N h clock s x)
finishes-silent N h clock s idle = mute refl
finishes-silent N h clock s (active b q []) = mute refl
finishes-silent N h clock s (active b q (c ∷ cs)) = either (leb limit clock) _ _ (mute refl) (mute refl)
finishes-silent N h clock s (sealed n q cs) = mute refl
finishes-silent N h clock s (published e q cs) = mute refl

settles-silent : (M : ℕ) (d : Desk) (x : Session) → Silent (settles M d x)
settles-silent M d idle = mute refl
settles-silent M d (active b q cs) = mute refl
settles-silent M d (sealed n q cs) = mute refl
settles-silent M d (published e q cs) = go (awaited M d e)
  where
    go : (o : Option ℕ) → Silent (waits cs o)
    go none = mute refl
    go (some t) = mute refl

reclaims-silent : (N M : ℕ) (f : ℕ → ℕ) (s : ℕ) (o : Option ℕ) → Silent (reclaims N M f s o)
reclaims-silent N M f s none = mute refl
reclaims-silent N M f s (some q) = either (ltb (smallest f (2 * M)) (f (place_of s q))) _ _ (mute refl) (mute refl)

no-copies : (cs : List Copy) (y : Due) → Silent y → Silent (if_no_copies cs y)
no-copies [] y p = p
no-copies (c ∷ cs) y p = mute refl

hears-silent : (M : ℕ) (d : Desk) (h : History) (r : ℕ) (x : Session) → Silent (hears M d h r x)
hears-silent M d h r idle = mute refl
hears-silent M d h r (active b q cs) = no-copies cs _ (other (shown_by b d (holder M d r)) (view_at h b r))
hears-silent M d h r (sealed n q cs) = mute refl
hears-silent M d h r (published e q cs) = mute refl

leaves-silent : (x : Session) → Silent (leaves x)
leaves-silent idle = mute refl
leaves-silent (active b q cs) = no-copies cs _ (mute refl)
leaves-silent (sealed n q cs) = mute refl
leaves-silent (published e q cs) = mute refl

searches-silent : (N : ℕ) (h : History) (k : ℕ) (x : Session) → Silent (searches N h k x)
searches-silent N h k idle = mute refl
searches-silent N h k (active b q cs) = no-copies cs _ (go (first_shelved N h b k))
  where
    go : (o : Option ℕ) → Silent (finds o)
    go none = mute refl
    go (some r) = mute refl
searches-silent N h k (sealed n q cs) = mute refl
searches-silent N h k (published e q cs) = mute refl

-- ---- all calls

module _ (N M : ℕ) (f : ℕ → ℕ) (w : ℕ) (d : Desk) (h : History) where
  abbrev Fits : Call → Due → Type 0
  Fits c y = Timed y.answer d.clock (note_desk c y.answer f d).clock

  silent : (c : Call) (y : Due) → Silent y → Fits c y
  silent c y p e = absurd (false≢true (sym p.says ∙ e))

  -- a refusal
  refused : (c : Call) (k : ℕ) → Fits c (refuse k)
  refused c k = silent c (refuse k) (mute refl)

  -- begin gives the clock
  begin-fits : (s : ℕ) (b : Bool) (x : Session) → Fits (begin s) (cond b (refuse 4) (begins d.clock x))
  begin-fits s true x = refused (begin s) 4
  begin-fits s false idle = λ e. (omega arith, omega arith)
  begin-fits s false (active b q cs) = refused (begin s) 6
  begin-fits s false (sealed n q cs) = refused (begin s) 6
  begin-fits s false (published m q cs) = refused (begin s) 6

  fits : (c : Call) → Fits c (due_of N M f w d h c)
  fits (begin s) = begin-fits s (leb M s) (d.session s)
  fits (read s r) = silent (read s r) (due_of N M f w d h (read s r)) (either (leb M s) _ _ (mute refl) (either (leb N r) _ _ (mute refl) (reads-silent M d h r (d.session s))))
  fits (write s r ws) = silent (write s r ws) (due_of N M f w d h (write s r ws)) (either (leb M s) _ _ (mute refl) (either (leb N r) _ _ (mute refl) (wrote-silent M f d s r (d.session s))))
  fits (abandon s) = silent (abandon s) (due_of N M f w d h (abandon s)) (either (leb M s) _ _ (mute refl) (abandons-silent (d.session s)))
  fits (finish len s) = silent (finish len s) (due_of N M f w d h (finish len s)) (either (leb 48 len) _ _ (either (leb M s) _ _ (mute refl) (finishes-silent N h d.clock s (d.session s))) (mute refl))
  -- publish gives the clock behind it
  fits (publish len s) = publish-due N M f w d h (Fits (publish len s)) (λ k _. refused (publish len s) k) len s (λ _ e. (omega arith, omega arith))
  fits (group len set) = group-due N M f w d h (Fits (group len set)) (λ k _. refused (group len set) k) len set (λ _ e. (omega arith, omega arith))
  fits (settle len s) = silent (settle len s) (due_of N M f w d h (settle len s)) (either (leb 48 len) _ _ (either (leb M s) _ _ (mute refl) (settles-silent M d (d.session s))) (mute refl))
  fits (reclaim len s) = silent (reclaim len s) (due_of N M f w d h (reclaim len s)) (either (leb 48 len) _ _ (either (leb M s) _ _ (mute refl) (reclaims-silent N M f s (candidate f s (d.session s)))) (mute refl))
  fits (listen (Begin s)) = begin-fits s (leb M s) (d.session s)
  fits (listen (Read s r)) = silent (listen (Read s r)) (due_of N M f w d h (listen (Read s r))) (either (leb M s) _ _ (mute refl) (either (leb N r) _ _ (mute refl) (hears-silent M d h r (d.session s))))
  fits (listen (Finish len s)) = silent (listen (Finish len s)) (due_of N M f w d h (listen (Finish len s))) (either (leb 48 len) _ _ (either (leb M s) _ _ (mute refl) (leaves-silent (d.session s))) (mute refl))
  fits (listen (Find s k)) = silent (listen (Find s k)) (due_of N M f w d h (listen (Find s k))) (either (leb 1 k && leb k 999999) _ _ (either (leb M s) _ _ (mute refl) (searches-silent N h k (d.session s))) (mute refl))

pub due-timed : (N M : ℕ) (L : Ledger) (c : Call) → Timed (due N M L c).answer L.desk.clock (note_desk c (due N M L c).answer L.number L.desk).clock
unfolding due
due-timed N M L c = fits N M L.number L.ceiling L.desk L.history c
