-- Publish keeps the invariant, of one session or of a set.
use Prim.Native.Nat.{ℕ, suc, ◌+◌, ◌≤◌, ◌<◌}
use mathlib.Core.Path.{◌≡◌, refl, ◌∙◌, subst, sym}
use mathlib.Core.Bool.{Bool, true, false, cond, not}
use mathlib.Core.List.{List, []}
use native.Mathlib.Omega.{arith}
use lib.Dec.{T, eqb, leb, leb→le, nleb→lt}
use lib.ListN.{get_or}
use lib.Seq.{take-nil, get_or-set_same}
use Rattle.layout.specs.Crash.{crashed as cut}
use Rattle.layout.specs.Entries.{Entry, made}
use Rattle.layout.specs.Told.{ended_at}
use Rattle.desk.specs.Group.{member}
use Rattle.history.specs.Layout.{view}
use Rattle.history.specs.Call.{Call, publish, group}
use Rattle.history.specs.Cut.{feed_cut}
use Rattle.history.specs.Desk.{Desk}
use Rattle.history.specs.Due.{raise_stores, ends, due_of}
use Rattle.history.specs.History.{History, feed, ending}
use Rattle.history.specs.Ledger.{ticked, ended_all, note_desk, note_number}
use Rattle.history.proofs.Invariant.{Inv}
use Rattle.history.proofs.MovePublish.{publishing, before-end}
use Rattle.history.proofs.PublishDue.{Members, publish-due, group-due}
use Rattle.history.proofs.MoveRaise.{raise-numbers, raise-above, raise-holds, raise-crashed}
use Rattle.history.proofs.Slots.{made_one, cut-one}
use Rattle.history.proofs.Kept.{Holds, Later, Crashed, crashed, Done, refusing}

-- a call that, told the end, publishes the sessions that pass the test
record Publishes (N : ℕ) (img : List ℕ) (d : Desk) (h : History) (c : Call) (p : ℕ → Bool) : Type 0 where
  desk : note_desk c (ended_at (suc d.clock)) (view N img).number d ≡ ended_all p (suc d.clock) (ticked d)
  history : feed c (ended_at (suc d.clock)) h ≡ ending p (suc d.clock) h
  numbers : (q : ℕ) → note_number c (ended_at (suc d.clock)) (view N img).number d q ≡ (view N img).number q
  cuts : (img' : List ℕ) → feed_cut N d c (ended_at (suc d.clock)) img' h ≡ h

module _ (N M : ℕ) (img : List ℕ) (d : Desk) (h : History) (H : Holds N M img d h) where
  module _ (c : Call) (p : ℕ → Bool) (P : Publishes N img d h c p) (members : Members M d p) where
    -- the end, which the clock becomes
    abbrev end : ℕ
    end = suc d.clock

    abbrev next : Desk
    next = ended_all p end (ticked d)

    inv : Inv N M (view N img) next (ending p end h)
    inv = publishing N M (view N img) d h p H.inv members

    later : Later d h next (ending p end h)
    later = record { clock = omega arith; views = λ σ r k. before-end N M (view N img) d h p H.inv members σ r k }

    -- the ceiling is not raised
    quietly : end ≤ get_or img 3 0 → leb end (get_or img 3 0) ≡ true → Done N M img d h c (record { answer = ended_at end; entries = [] })
    quietly u t = record {
      kept = rw (P.desk, P.history) (record { whole = H.whole; sounds = H.sounds; inv = inv; under = u });
      later = rw (P.desk, P.history) later;
      marks = λ q. sym (P.numbers q);
      low = λ j lj. refl;
      top = rw t refl;
      low-cut = λ k sel j lj. rw (take-nil {A = Entry} k) refl;
      top-cut = λ k sel. rw (take-nil {A = Entry} k) (omega arith);
      broken = λ k sel. rw (take-nil {A = Entry} k, P.cuts img) (crashed N M img d h H);
    }

    -- it is raised
    raising : get_or img 3 0 < end → leb end (get_or img 3 0) ≡ false → Done N M img d h c (record { answer = ended_at end; entries = raise_stores end })
    raising u f = record {
      kept = rw (P.desk, P.history) (raise-holds N M (end + 1024) img _ (made_one 3 (end + 1024) img) next (ending p end h) H.whole H.sounds inv (omega (arith, stands)));
      later = rw (P.desk, P.history) later;
      marks = λ q. raise-numbers N M (end + 1024) img _ (made_one 3 (end + 1024) img) q ∙ sym (P.numbers q);
      low = λ j lj. (made_one 3 (end + 1024) img).others j (λ z. omega arith);
      top = rw f stands;
      low-cut = λ k sel j lj. (cut-one 3 (end + 1024) img k sel).others j (λ z. omega arith);
      top-cut = λ k sel. raise-above N M (end + 1024) img _ (cut-one 3 (end + 1024) img k sel) (omega (arith, u));
      broken = λ k sel. subst (Crashed N M (cut k sel (raise_stores end) img)) (sym (P.cuts (cut k sel (raise_stores end) img)))
          (raise-crashed N M (end + 1024) img _ (cut-one 3 (end + 1024) img k sel) h (crashed N M img d h H));
    }
      where
        stands : get_or (made (raise_stores end) img) 3 0 ≡ end + 1024
        stands = get_or-set_same img 3 (end + 1024) 0 (omega (arith, H.whole))

    ended : Done N M img d h c (ends d.clock (get_or img 3 0))
    ended = go (leb end (get_or img 3 0)) refl (leb→le end (get_or img 3 0)) (nleb→lt end (get_or img 3 0))
      where
        go : (b : Bool) → leb end (get_or img 3 0) ≡ b → (T b → end ≤ get_or img 3 0) → (T (not b) → get_or img 3 0 < end)
            → Done N M img d h c (record { answer = ended_at end; entries = cond b [] (raise_stores end) })
        go true e y z = quietly (y tt) e
        go false e y z = raising (z tt) e

  pub publish-done : (len s : ℕ) → Done N M img d h (publish len s) (due_of N M (view N img).number (get_or img 3 0) d h (publish len s))
  publish-done len s =
      publish-due N M (view N img).number (get_or img 3 0) d h (Done N M img d h (publish len s)) (refusing N M img d h H (publish len s)) len s
      (ended (publish len s) (λ u. eqb u s) (record { desk = refl; history = refl; numbers = λ _. refl; cuts = λ _. refl }))

  pub group-done : (len set : ℕ) → Done N M img d h (group len set) (due_of N M (view N img).number (get_or img 3 0) d h (group len set))
  group-done len set =
      group-due N M (view N img).number (get_or img 3 0) d h (Done N M img d h (group len set)) (refusing N M img d h H (group len set)) len set
      (ended (group len set) (λ u. member u set) (record { desk = refl; history = refl; numbers = λ _. refl; cuts = λ _. refl }))
