-- Along any list of calls image and desk stay ready, the invariant holds, and the ledger's desk is the store's.
use Prim.Native.Nat.{ℕ, ◌+◌, ◌<◌}
use mathlib.Core.Path.{◌≡◌, refl, sym, ap, ◌∙◌, subst}
use mathlib.Core.Bool.{Bool, true, false, cond}
use mathlib.Core.List.{List, [], ◌∷◌}
use native.Mathlib.Omega.{arith}
use lib.ListN.{get_or}
use Rattle.layout.specs.Entries.{made, ends_fenced}
use Rattle.layout.specs.Image.{records_of, sessions_of, ceiling_of}
use Rattle.layout.specs.Told.{Told, ok, is_refusal}
use Rattle.recovery.specs.Open.{open_entries}
use Rattle.history.specs.Call.{Listening, Begin, Read, Finish, Find, Call, begin, read, write, abandon, finish, publish, group, settle, reclaim, listen}
use Rattle.history.specs.Desk.{Desk as Txns}
use Rattle.history.specs.Due.{Due, due_of, due}
use Rattle.history.specs.Layout.{view}
use Rattle.history.specs.Ledger.{note_desk, note}
use Rattle.history.specs.Looks.{no_looks, looks_in, due_looks}
use Rattle.history.proofs.Calls.{Held, due-done, due-held}
use Rattle.history.proofs.Cuts.{made-append, ends-append}
use Rattle.claims.specs.Rules.{store_rules}
use Rattle.claims.specs.Demands.{SameLooks}
use Rattle.claims.specs.Run.{World, opened, reply, step, run, stored, since_opening}
use Rattle.claims.proofs.Abstraction.{abs}
use Rattle.claims.proofs.Lists.{lists}
use Rattle.claims.proofs.Simulation.{Sim, Ready}
use Rattle.claims.proofs.SimulateDesk.{begin-sim, abandon-sim}
use Rattle.claims.proofs.SimulatePublish.{publish-sim}
use Rattle.claims.proofs.SimulateGroup.{group-sim}
use Rattle.claims.proofs.SimulateRead.{read-sim}
use Rattle.claims.proofs.SimulateWrite.{write-sim}
use Rattle.claims.proofs.SimulateFinish.{finish-sim}
use Rattle.claims.proofs.SimulateSettle.{settle-sim}
use Rattle.claims.proofs.SimulateReclaim.{reclaim-sim}
use Rattle.claims.proofs.SimulateListening.{listen-begin-sim, listen-read-sim, listen-finish-sim, find-told-sim, find-looks-sim}
use Rattle.claims.proofs.Opening.{opens-desk, opens-entries, opens-ready, opens-numbers, opens-ceiling, opens-holds, fresh-idle}
use Rattle.claims.proofs.ReadyKept.{whole_of, ready-kept}
use Rattle.claims.proofs.Recovering.{whole_again}

pub record Along (N M : ℕ) (w : World) : Type 0 where
  pub ready : Ready N M w.image w.desk
  pub held : Held N M w.image w.ledger
  pub linked : w.ledger.desk ≡ abs w.desk

-- ---- one call

module _ (N M : ℕ) (w : World) (a : Along N M w) where
  -- what is due, by the image's numbers and the store's desk
  abbrev due_here : Call → Due
  due_here c = due_of N M (view N w.image).number (ceiling_of w.image) (abs w.desk) w.ledger.history c

  due-here : (c : Call) → due N M w.ledger c ≡ due_here c
  unfolding due
  due-here c = rw (a.held.numbers, a.held.ceiling, a.linked) refl

  -- a call gives what is due
  abbrev Same : Call → Due → Type 0
  Same c y = Sim c (view N w.image).number w.desk (reply store_rules w c).told (reply store_rules w c).entries (reply store_rules w c).desk y

  listening-here : (c : Listening) → Same (listen c) (due_here (listen c))
  unfolding reply
  listening-here (Begin s) = listen-begin-sim N M w.image w.desk _ w.ledger.history a.ready s
  listening-here (Read s r) = listen-read-sim N M w.image w.desk _ w.ledger.history a.ready s (rw a.linked at a.held.holds) r
  listening-here (Finish len s) = listen-finish-sim N M w.image w.desk _ w.ledger.history a.ready s len
  listening-here (Find s k) = find-told-sim N M w.image w.desk _ w.ledger.history a.ready s (rw a.linked at a.held.holds) k

  same_here : (c : Call) → Same c (due_here c)
  unfolding reply
  same_here (begin s) = begin-sim N M w.image w.desk s _ w.ledger.history a.ready
  same_here (read s r) = read-sim N M w.image w.desk s r _ w.ledger.history a.ready (rw a.linked at a.held.holds)
  same_here (write s r ws) = write-sim N M w.image w.desk s r ws w.ledger.history a.ready
  same_here (abandon s) = abandon-sim N M w.image w.desk s _ w.ledger.history a.ready
  same_here (finish len s) = finish-sim N M w.image w.desk _ w.ledger.history len s a.ready (rw a.linked at a.held.holds)
  same_here (publish len s) = publish-sim N M w.image w.desk _ w.ledger.history len s a.ready
  same_here (group len set) = group-sim N M w.image w.desk _ w.ledger.history len set a.ready
  same_here (settle len s) = settle-sim N M w.image w.desk _ w.ledger.history len s a.ready
  same_here (reclaim len s) = reclaim-sim N M w.image w.desk w.ledger.history len s a.ready
  same_here (listen c) = listening-here c

  pub same : (c : Call) → Same c (due N M w.ledger c)
  same c = rw (due-here c) (same_here c)

  -- and looks at the records that are due
  abbrev SameLooksHere : Call → Type 0
  SameLooksHere c = SameLooks (reply store_rules w c).looks (cond (is_refusal (due_here c).answer) no_looks (looks_in N M (abs w.desk) w.ledger.history c))

  unlooked : (c : Call) → SameLooks no_looks (cond (is_refusal (due_here c).answer) no_looks no_looks)
  unlooked c = go (is_refusal (due_here c).answer)
    where
      go : (b : Bool) → SameLooks no_looks (cond b no_looks no_looks)
      go true = record { number = refl; gives = λ r l. refl }
      go false = record { number = refl; gives = λ r l. refl }

  looks-here : (c : Call) → SameLooksHere c
  unfolding reply
  looks-here (begin s) = unlooked (begin s)
  looks-here (read s r) = unlooked (read s r)
  looks-here (write s r ws) = unlooked (write s r ws)
  looks-here (abandon s) = unlooked (abandon s)
  looks-here (finish len s) = unlooked (finish len s)
  looks-here (publish len s) = unlooked (publish len s)
  looks-here (group len set) = unlooked (group len set)
  looks-here (settle len s) = unlooked (settle len s)
  looks-here (reclaim len s) = unlooked (reclaim len s)
  looks-here (listen (Begin s)) = unlooked (listen (Begin s))
  looks-here (listen (Read s r)) = unlooked (listen (Read s r))
  looks-here (listen (Finish len s)) = unlooked (listen (Finish len s))
  looks-here (listen (Find s k)) =
      find-looks-sim N M w.image w.desk (view N w.image).number w.ledger.history a.ready s (rw a.linked at a.held.holds) k

  pub same-looks : (c : Call) → SameLooks (reply store_rules w c).looks (due_looks N M w.ledger c)
  unfolding due_looks
  same-looks c =
      subst (λ (x : Txns). SameLooks (reply store_rules w c).looks (cond (is_refusal (due N M w.ledger c).answer) no_looks (looks_in N M x w.ledger.history c)))
      (sym a.linked) (rw (due-here c) (looks-here c))

  step-held : (c : Call) → Held N M (made (reply store_rules w c).entries w.image) (note c (reply store_rules w c).told w.ledger)
  step-held c = rw ((same c).stored, (same c).answers) (due-held N M w.image w.ledger a.held c)

  low : (c : Call) (j : ℕ) → j < 3 → get_or (made (reply store_rules w c).entries w.image) j 0 ≡ get_or w.image j 0
  low c j l = rw (same c).stored ((due-done N M w.image w.ledger a.held c).low j l)

  pub step-along : (c : Call) → Along N M (step store_rules w c)
  unfolding step note
  step-along c =
      record {
        ready =
            ready-kept N M w c _ a.ready
            (whole_again N M w.image _ (whole_of N M w.image w.desk a.ready) (low c) (step-held c).holds.whole)
            (omega (arith, ap (λ (d : Txns). d.clock) noted, (step-held c).holds.under));
        held = step-held c;
        linked = noted;
      }
    where
      noted : note_desk c (reply store_rules w c).told w.ledger.number w.ledger.desk ≡ abs (reply store_rules w c).desk
      noted =
          ap (λ (t : Told). note_desk c t w.ledger.number w.ledger.desk) (same c).answers
          ∙ ap (λ (f : ℕ → ℕ). note_desk c (due N M w.ledger c).answer f w.ledger.desk) a.held.numbers
          ∙ ap (λ (d : Txns). note_desk c (due N M w.ledger c).answer (view N w.image).number d) a.linked
          ∙ sym (same c).desk

-- ---- a list of calls

pub run_along : (N M : ℕ) (calls : List Call) (w : World) → Along N M w → Along N M (run store_rules calls w)
unfolding run
run_along N M [] w a = a
run_along N M (c ∷ cs) w a = run_along N M cs (step store_rules w c) (step-along N M w a c)

-- the image after it is the one before with all that they store made
pub stored-made : (calls : List Call) (w : World) → made (stored store_rules calls w) w.image ≡ (run store_rules calls w).image
unfolding run stored step
stored-made [] w = refl
stored-made (c ∷ cs) w = made-append (reply store_rules w c).entries _ w.image ∙ stored-made cs (step store_rules w c)

-- and all of it is fenced
pub call-fenced : (w : World) (c : Call) → ends_fenced (reply store_rules w c).entries ≡ true
unfolding reply
call-fenced w (begin s) = refl
call-fenced w (read s r) = refl
call-fenced w (write s r ws) = refl
call-fenced w (abandon s) = refl
call-fenced w (finish len s) = (lists.finish w.image w.desk len s).fenced
call-fenced w (publish len s) = (lists.publish w.image w.desk len s).fenced
call-fenced w (group len set) = (lists.group w.image w.desk len set).fenced
call-fenced w (settle len s) = (lists.settle w.image w.desk len s).fenced
call-fenced w (reclaim len s) = (lists.reclaim w.image w.desk len s).fenced
call-fenced w (listen (Begin s)) = refl
call-fenced w (listen (Read s r)) = refl
call-fenced w (listen (Finish len s)) = refl
call-fenced w (listen (Find s k)) = refl

pub stored-fenced : (calls : List Call) (w : World) → ends_fenced (stored store_rules calls w) ≡ true
unfolding stored
stored-fenced [] w = refl
stored-fenced (c ∷ cs) w = ends-append (reply store_rules w c).entries _ (call-fenced w c) (stored-fenced cs (step store_rules w c))

-- ---- the opening

pub opened-along : (img : List ℕ) (len : ℕ) → (store_rules.opens img len).told ≡ ok → Along (records_of img) (sessions_of img) (opened store_rules img len)
opened-along img len o =
    record {
      ready = rw (opens-desk img len o, opens-entries img len o) (opens-ready img len o);
      held = rw (opens-entries img len o) (record { holds = opens-holds img len o; numbers = opens-numbers img len o; ceiling = sym (opens-ceiling img len o) });
      linked = rw (opens-desk img len o, fresh-idle (ceiling_of img + 1) (records_of img) (sessions_of img)) refl;
    }

-- all since the opening is fenced, and is what stands in the image
pub opening-fenced : (img : List ℕ) (len : ℕ) (calls : List Call) → ends_fenced (since_opening store_rules img len calls) ≡ true
opening-fenced img len calls = ends-append (open_entries img len) _ (lists.opens img len).fenced (stored-fenced calls (opened store_rules img len))

pub opening-made : (img : List ℕ) (len : ℕ) (calls : List Call) → made (since_opening store_rules img len calls) img ≡ (run store_rules calls (opened store_rules img len)).image
opening-made img len calls = made-append (open_entries img len) _ img ∙ stored-made calls (opened store_rules img len)
