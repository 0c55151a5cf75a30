-- What a call must keep: the invariant over the image, and of a cut of its entries an image that recovery brings to the history's records.
-- One file a call shows that it does.
use Prim.Native.Nat.{ℕ, ◌+◌, ◌*◌, ◌≤◌, ◌<◌}
use mathlib.Core.Path.{◌≡◌, refl, sym}
use mathlib.Core.Bool.{Bool, true, false, cond, not}
use mathlib.Core.List.{List, []}
use native.Mathlib.Omega.{arith}
use lib.ListN.{length, get_or}
use lib.Seq.{take-nil}
use lib.Dec.{T, eqb, leb, nleb→lt}
use Rattle.layout.specs.Crash.{crashed as cut}
use Rattle.layout.specs.Entries.{Entry, made}
use Rattle.layout.specs.Image.{slot_at}
use Rattle.layout.specs.Told.{Told, End, is, refusal, empty}
use Rattle.journal.specs.Log.{Sound}
use Rattle.history.specs.Log.{Occupied, Final}
use Rattle.history.specs.Layout.{body, log_of, view, Good}
use Rattle.history.specs.Call.{Listening, Begin, Read, Finish, Find, Call, begin, read, write, abandon, finish, publish, group, settle, reclaim, listen}
use Rattle.history.specs.Cut.{feed_cut}
use Rattle.history.specs.Desk.{Copy, spot, idle, active, Desk, with_session}
use Rattle.history.specs.Due.{Due, say, refuse, if_room, if_session, if_record}
use Rattle.history.specs.History.{History, feed, record_of, view_at, drafted}
use Rattle.history.specs.Ledger.{note_desk, note_number, note_ceiling}
use Rattle.history.proofs.Copies.{upd_other}
use Rattle.history.proofs.Invariant.{Inv}
use Rattle.history.proofs.MoveQuiet.{Quiet, quiet}

pub record Holds (N M : ℕ) (img : List ℕ) (d : Desk) (h : History) : Type 0 where
  pub whole : length img ≡ 4 + 4 * N + 44 * M
  pub sounds : (p : ℕ) → Occupied (2 * M) (view N img) p → Sound N (log_of (body N img p))
  pub inv : Inv N M (view N img) d h
  pub under : d.clock ≤ get_or img 3 0

-- what a cut leaves: a good image whose final words are the history's
pub record Crashed (N M : ℕ) (img : List ℕ) (h : History) : Type 0 where
  pub good : Good N M img
  pub final : (r j : ℕ) → r < N → j < 4 → Final (2 * M) (view N img) (spot r j) (get_or (record_of h r) j 0)

pub crashed : (N M : ℕ) (img : List ℕ) (d : Desk) (h : History) → Holds N M img d h → Crashed N M img h
crashed N M img d h a = record { good = record { whole = a.whole; sound = a.sounds; apart = a.inv.apart }; final = a.inv.final }

-- the clock goes on, and what a start up to the clock sees stays
pub record Later (d : Desk) (h : History) (d' : Desk) (h' : History) : Type 0 where
  pub clock : d.clock ≤ d'.clock
  pub views : (σ r : ℕ) → σ ≤ d.clock → view_at h' σ r ≡ view_at h σ r

-- what is due of a call keeps all of it
pub record Done (N M : ℕ) (img : List ℕ) (d : Desk) (h : History) (c : Call) (y : Due) : Type 0 where
  pub kept : Holds N M (made y.entries img) (note_desk c y.answer (view N img).number d) (feed c y.answer h)
  pub later : Later d h (note_desk c y.answer (view N img).number d) (feed c y.answer h)
  pub marks : (p : ℕ) → get_or (made y.entries img) (slot_at N p) 0 ≡ note_number c y.answer (view N img).number d p
  pub low : (j : ℕ) → j < 3 → get_or (made y.entries img) j 0 ≡ get_or img j 0
  pub top : get_or (made y.entries img) 3 0 ≡ note_ceiling y.answer (get_or img 3 0)
  pub low-cut : (k : ℕ) (sel : ℕ → Bool) (j : ℕ) → j < 3 → get_or (cut k sel y.entries img) j 0 ≡ get_or img j 0
  pub top-cut : (k : ℕ) (sel : ℕ → Bool) → get_or img 3 0 ≤ get_or (cut k sel y.entries img) 3 0
  pub broken : (k : ℕ) (sel : ℕ → Bool) → Crashed N M (cut k sel y.entries img) (feed_cut N d c y.answer (cut k sel y.entries img) h)

module _ (N M : ℕ) (img : List ℕ) (d : Desk) (h : History) (H : Holds N M img d h) where
  -- told, with no entries and no end; the desk is then d', and its clock as it was
  pub said : (c : Call) (t : Told) (d' : Desk) → is End t ≡ false → d'.clock ≡ d.clock → ((img' : List ℕ) → feed_cut N d c t img' h ≡ h) → Later d h d' (feed c t h)
      → Inv N M (view N img) d' (feed c t h) → d' ≡ note_desk c t (view N img).number d
      → ((p : ℕ) → (view N img).number p ≡ note_number c t (view N img).number d p) → Done N M img d h c (say t)
  said c t d' no_end same-clock e la inv' ed en = record {
    marks = en;
    low = λ j l. refl;
    top = rw no_end refl;
    low-cut = λ k sel j l. rw (take-nil {A = Entry} k) refl;
    top-cut = λ k sel. rw (take-nil {A = Entry} k) (omega arith);
    kept = record { whole = H.whole; sounds = H.sounds; inv = rw (sym ed) inv'; under = rw (sym ed) (omega (arith, H.under)) };
    later = rw (sym ed) la;
    broken = λ k sel. rw (take-nil {A = Entry} k, e img) (crashed N M img d h H);
  }

  -- and nothing changes
  pub same : (c : Call) (t : Told) → is End t ≡ false → ((img' : List ℕ) → feed_cut N d c t img' h ≡ h) → feed c t h ≡ h → d ≡ note_desk c t (view N img).number d
      → ((p : ℕ) → (view N img).number p ≡ note_number c t (view N img).number d p) → Done N M img d h c (say t)
  same c t no_end e f ed en = said c t d no_end refl e (rw f (record { clock = omega arith; views = λ σ r l. refl })) (rw f H.inv) ed en

  -- a refusal of the listening room changes nothing
  refusing-listening : (c : Listening) (k : ℕ) → Done N M img d h (listen c) (refuse k)
  refusing-listening (Begin s) k = same (listen (Begin s)) (refusal k) refl (λ _. refl) refl refl (λ _. refl)
  refusing-listening (Read s r) k = same (listen (Read s r)) (refusal k) refl (λ _. refl) refl refl (λ _. refl)
  refusing-listening (Finish len s) k = same (listen (Finish len s)) (refusal k) refl (λ _. refl) refl refl (λ _. refl)
  refusing-listening (Find s n) k = same (listen (Find s n)) (refusal k) refl (λ _. refl) refl refl (λ _. refl)

  -- a refusal but 7 changes nothing
  pub refusing : (c : Call) (k : ℕ) → eqb k 7 ≡ false → Done N M img d h c (refuse k)
  refusing (begin s) k e = same (begin s) (refusal k) refl (λ _. refl) refl refl (λ _. refl)
  refusing (read s r) k e = same (read s r) (refusal k) refl (λ _. refl) refl refl (λ _. refl)
  refusing (write s r ws) k e = same (write s r ws) (refusal k) refl (λ _. refl) (rw e refl) (rw e refl) (λ _. refl)
  refusing (abandon s) k e = same (abandon s) (refusal k) refl (λ _. refl) refl refl (λ _. refl)
  refusing (finish len s) k e = same (finish len s) (refusal k) refl (λ _. refl) refl refl (λ _. refl)
  refusing (publish len s) k e = same (publish len s) (refusal k) refl (λ _. refl) refl refl (λ _. refl)
  refusing (group len set) k e = same (group len set) (refusal k) refl (λ _. refl) refl refl (λ _. refl)
  refusing (settle len s) k e = same (settle len s) (refusal k) refl (λ _. refl) refl refl (λ _. refl)
  refusing (reclaim len s) k e = same (reclaim len s) (refusal k) refl (λ _. refl) refl refl (λ _. refl)
  refusing (listen c) k e = refusing-listening c k

  -- past the checks 3, 4 and 5
  pub past_room : (c : Call) (len : ℕ) (y : Due) → Done N M img d h c y → Done N M img d h c (if_room len y)
  past_room c len y f = go (leb 48 len)
    where
      go : (b : Bool) → Done N M img d h c (cond b y (refuse 3))
      go true = f
      go false = refusing c 3 refl

  below : (c : Call) (m s k : ℕ) (y : Due) → eqb k 7 ≡ false → (s < m → Done N M img d h c y) → Done N M img d h c (cond (leb m s) (refuse k) y)
  below c m s k y e f = go (leb m s) (nleb→lt m s)
    where
      go : (b : Bool) → (T (not b) → s < m) → Done N M img d h c (cond b (refuse k) y)
      go true g = refusing c k e
      go false g = f (g tt)

  pub past-session : (c : Call) (s : ℕ) (y : Due) → (s < M → Done N M img d h c y) → Done N M img d h c (if_session M s y)
  past-session c s y f = below c M s 4 y refl f

  pub past-record : (c : Call) (r : ℕ) (y : Due) → (r < N → Done N M img d h c y) → Done N M img d h c (if_record N r y)
  past-record c r y f = below c N r 5 y refl f

  -- a session that becomes idle
  pub idles : (s b q : ℕ) (cs : List Copy) (h' : History) → d.session s ≡ active b q cs → s < M → Quiet s h h' → Inv N M (view N img) (with_session s idle d) h'
  idles s b q cs h' e l qu = quiet N M (view N img) d h h' s idle H.inv l (rw e tt) tt qu tt (λ u lu n r y z m k. m) (λ σ st. absurd st)

  -- by a finish without copies
  pub left-empty : (c : Call) (s b q : ℕ) → d.session s ≡ active b q [] → s < M → ((img' : List ℕ) → feed_cut N d c empty img' h ≡ h) → feed c empty h ≡ h
      → with_session s idle d ≡ note_desk c empty (view N img).number d → ((p : ℕ) → (view N img).number p ≡ note_number c empty (view N img).number d p)
      → Done N M img d h c (say empty)
  left-empty c s b q is l e f ed en =
      said c empty (with_session s idle d) refl refl e (rw f (record { clock = omega arith; views = λ σ u k. refl }))
      (rw f (idles s b q [] h is l (record { opening = refl; sealed = refl; drafts = λ u n. refl; starts = λ u n. refl }))) ed en

  pub emptied : (s : ℕ) → Quiet s h (drafted s [] h)
  emptied s = record { opening = refl; sealed = refl; drafts = λ u n. upd_other s [] h.draft u n; starts = λ u n. refl }
