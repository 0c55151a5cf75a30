-- Publish does what is due: the clock goes on by one, and the ceiling is raised where it would pass it.
use Prim.Native.Nat.{ℕ, suc, ◌+◌, ◌<◌}
use mathlib.Core.Bool.{cond}
use mathlib.Core.Path.{◌≡◌, refl, sym, ap, ◌∙◌, fun_ext}
use mathlib.Core.List.{List}
use native.Mathlib.Numerals.{add-one}
use native.Mathlib.Omega.{arith}
use lib.Dec.{eqb}
use borrow.Author.Tests.{eqb-true}
use Rattle.layout.proofs.Says.{by-test}
use Rattle.layout.specs.Ceiling.{pass_entries}
use Rattle.layout.specs.Checks.{unless, answered}
use Rattle.layout.specs.Image.{ceiling_of}
use Rattle.desk.specs.Desk.{session_at, is_sealed, with_phase}
use Rattle.desk.specs.Publish.{publish_fault, publish_entries, publish_refused, published, publish_reply}
use Rattle.desk.specs.Told.{publish_told}
use Rattle.desk.specs.declared.state.Phase.{Phase}
use Rattle.desk.specs.declared.state.Phase.TheVariants.{Idle, Active, Sealed, Published}
use Rattle.desk.specs.declared.state.Session.{Session}
use Rattle.desk.specs.declared.state.Desk.{Desk}
use Rattle.desk.specs.declared.reply.StoringReply.{StoringReply}
use Rattle.history.specs.Call.{publish}
use Rattle.history.specs.Desk.{Session as Txn, Desk as Txns, upd, with_session}
use Rattle.history.specs.Due.{publishes, due_of}
use Rattle.history.specs.History.{History}
use Rattle.history.specs.Ledger.{ended_with, ticked, ended_all}
use Rattle.claims.proofs.Abstraction.{abs, copies_of, txn-of, abs-put}
use Rattle.claims.proofs.Causes.{tells-cause}
use Rattle.claims.proofs.Entering.{session-there}
use Rattle.claims.proofs.Simulation.{Sim, Ready}
use Rattle.claims.proofs.SimulateChecks.{Checked, Does, does-refuse, past-four}

-- an end for session s alone
one_ended : (s : ℕ) (x : Txn) (e : ℕ) (D : Txns) → ended_with e (D.session s) ≡ x → with_session s x D ≡ ended_all (λ u. eqb u s) e D
unfolding upd
one_ended s x e D q = ap (λ (f : ℕ → Txn). record { clock = D.clock; session = f }) (fun_ext here)
  where
    here : (u : ℕ) → cond (eqb u s) x (D.session u) ≡ cond (eqb u s) (ended_with e (D.session u)) (D.session u)
    here u = by-test (eqb u s) (λ y. rw (y, eqb-true u s y) (sym q)) (λ y. rw y refl)

abbrev publish-call : (img : List ℕ) (d : Desk) (f : ℕ → ℕ) (len s : ℕ) → Checked d f
publish-call img d f len s =
    record {
      call = publish len s;
      Gives = StoringReply ℕ;
      tells = λ (r : StoringReply ℕ). publish_told r.answer;
      left = λ (r : StoringReply ℕ). r.desk;
      refused = publish_refused d;
      done = published img d s;
      listed = pass_entries img (d.clock + 1);
      refuses = tells-cause;
      keeps = λ k. refl;
      notes = λ k. refl;
    }

module _ (N M : ℕ) (img : List ℕ) (d : Desk) (f : ℕ → ℕ) (len s : ℕ) (h : Ready N M img d) (l : s < M) where
  -- the entry of session s
  abbrev e : Session
  e = session_at d s

  by-phase : (p : Phase) → e.phase ≡ p
      → Does d f (publish-call img d f len s) (unless (is_sealed p) 6) (publishes d.clock (ceiling_of img) (txn-of p e.slot (copies_of e)))
  unfolding answered
  by-phase Idle i = does-refuse d f (publish-call img d f len s) 5 (omega arith)
  by-phase (Active b) i = does-refuse d f (publish-call img d f len s) 5 (omega arith)
  by-phase (Sealed n) i =
      record {
        answers = rw add-one;
        stored = rw add-one;
        desk =
            rw add-one
            (abs-put d (suc d.clock) d.n d.m s (with_phase e (Published (suc d.clock))) d.holders (session-there N M img d h s l)
            ∙ one_ended s _ (suc d.clock) (ticked (abs d)) (rw i refl));
      }
  by-phase (Published n) i = does-refuse d f (publish-call img d f len s) 5 (omega arith)

pub publish-sim : (N M : ℕ) (img : List ℕ) (d : Desk) (f : ℕ → ℕ) (k : History) (len s : ℕ) → Ready N M img d
    → Sim (publish len s) f d (publish_told (publish_reply img d len s).answer) (publish_entries img d len s) (publish_reply img d len s).desk
    (due_of N M f (ceiling_of img) (abs d) k (publish len s))
unfolding publish_reply publish_entries publish_fault
publish-sim N M img d f k len s h =
    past-four d f (publish-call img d f len s) N M img len s _ _ h (λ l. by-phase N M img d f len s h l (session_at d s).phase refl)
