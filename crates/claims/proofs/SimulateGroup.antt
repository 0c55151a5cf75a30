-- Group publish does what is due.
use Prim.Native.Nat.{ℕ, ◌+◌, ◌<◌}
use mathlib.Core.Bool.{Bool, true, false, cond, not, ◌||◌, false≢true}
use mathlib.Core.Path.{◌≡◌, refl, sym, ap, ◌∙◌, fun_ext}
use mathlib.Core.List.{List}
use native.Mathlib.Decide.{dec_lt}
use native.Mathlib.Numerals.{add-one}
use native.Mathlib.Omega.{arith}
use lib.Dec.{ltb}
use borrow.Author.Tests.{eq-eqb, le-leb, lt-leb}
use Rattle.layout.specs.Below.{all_below, any_below}
use Rattle.layout.specs.Ceiling.{pass_entries}
use Rattle.layout.specs.Checks.{unless, first, answered, room_for}
use Rattle.layout.specs.Image.{records_of, sessions_of, ceiling_of}
use Rattle.layout.proofs.Says.{by-test}
use Rattle.desk.specs.Desk.{session_at, is_sealed}
use Rattle.desk.specs.Group.{member, store_fault, member_low, member_sealed, set_fault, group_fault, group_entries, grouped, group_reply}
use Rattle.desk.specs.Publish.{publish_refused}
use Rattle.desk.specs.Told.{publish_told}
use Rattle.desk.specs.declared.state.Phase.{Phase}
use Rattle.desk.specs.declared.state.Phase.TheVariants.{Idle, Active, Sealed, Published}
use Rattle.desk.specs.declared.state.Desk.{Desk}
use Rattle.desk.specs.declared.reply.StoringReply.{StoringReply}
use Rattle.desk.proofs.Facts.{says-coherent}
use Rattle.desk.proofs.GroupDesk.{loaded, grouped-at}
use Rattle.history.specs.Call.{group}
use Rattle.history.specs.Desk.{Copy, Session as Txn}
use Rattle.history.specs.Due.{refuse, is_sealed as is_sealed_txn, low_in, sealed_in, ends, groups, if_room, due_of}
use Rattle.history.specs.History.{History}
use Rattle.history.specs.Ledger.{ended_with, ended_all}
use Rattle.claims.proofs.Abstraction.{abs, pack, copies_of, txn-of}
use Rattle.claims.proofs.Causes.{tells-cause}
use Rattle.claims.proofs.Simulation.{Sim, Ready}
use Rattle.claims.proofs.SimulateChecks.{Checked, Does, does-refuse}

abbrev group-call : (img : List ℕ) (d : Desk) (f : ℕ → ℕ) (len set : ℕ) → Checked d f
group-call img d f len set =
    record {
      call = group len set;
      Gives = StoringReply ℕ;
      tells = λ (r : StoringReply ℕ). publish_told r.answer;
      left = λ (r : StoringReply ℕ). r.desk;
      refused = publish_refused d;
      done = grouped img d set;
      listed = pass_entries img (d.clock + 1);
      refuses = tells-cause;
      keeps = λ k. refl;
      notes = λ k. refl;
    }

sealed-same : (p : Phase) (q : ℕ) (cs : List Copy) → is_sealed_txn (txn-of p q cs) ≡ is_sealed p
sealed-same Idle q cs = refl
sealed-same (Active b) q cs = refl
sealed-same (Sealed n) q cs = refl
sealed-same (Published e) q cs = refl

ended_same : (p : Phase) (q : ℕ) (cs : List Copy) (e : ℕ) → is_sealed p ≡ true → txn-of (Published e) q cs ≡ ended_with e (txn-of p q cs)
ended_same Idle q cs e y = absurd (false≢true y)
ended_same (Active b) q cs e y = absurd (false≢true y)
ended_same (Sealed n) q cs e y = refl
ended_same (Published m) q cs e y = absurd (false≢true y)

same-desk : (x : Desk) (c : ℕ) (f : ℕ → Txn) → x.clock ≡ c → ((t : ℕ) → pack (session_at x t) ≡ f t) → abs x ≡ record { clock = c; session = f }
same-desk x c f e g =
    ap (λ (k : ℕ). record { clock = k; session = (abs x).session }) e ∙ ap (λ (s : ℕ → Txn). record { clock = c; session = s }) (fun_ext g)

module _ (N M : ℕ) (img : List ℕ) (d : Desk) (f : ℕ → ℕ) (len set : ℕ) (h : Ready N M img d) where
  -- the checks 1 and 2 pass
  store-fault : store_fault img d len ≡ unless (room_for len) 3
  unfolding store_fault first
  store-fault =
      rw (h.shaped, (says-coherent d).no h.coherent, eq-eqb d.n (records_of img) (h.n-same ∙ sym h.records), eq-eqb d.m (sessions_of img) (h.m-same ∙ sym h.sessions), le-leb d.clock (ceiling_of img) h.under)

  low_same : all_below 16 (member_low d set) ≡ all_below 16 (low_in M set)
  low_same = ap (λ (m : ℕ). all_below 16 (λ u. not (member u set) || ltb u m)) h.m-same

  sealed-here : all_below 16 (member_sealed d set) ≡ all_below 16 (sealed_in (abs d) set)
  sealed-here = ap (all_below 16) (fun_ext (λ u. ap (λ (b : Bool). not (member u set) || b) (sym (sealed-same (session_at d u).phase (session_at d u).slot (copies_of (session_at d u))))))

  -- the desk
  desk-here : set_fault d set ≡ 0 → abs (grouped img d set).desk ≡ ended_all (λ u. member u set) (d.clock + 1) (record { clock = d.clock + 1; session = (abs d).session })
  desk-here z =
      same-desk (grouped img d set).desk (d.clock + 1) _ refl
      (λ t. ap pack (grouped-at img d set (loaded d set z) t)
      ∙ by-test (member t set)
      (λ y. rw y (ended_same (session_at d t).phase (session_at d t).slot (copies_of (session_at d t)) (d.clock + 1) ((loaded d set z).sealed t y)))
      (λ y. rw y refl))

  does : Does d f (group-call img d f len set) (set_fault d set) (groups M (ceiling_of img) (abs d) set)
  unfolding set_fault first answered
  does =
      rw (← low_same, ← sealed-here)
      (go (any_below 16 (λ s. member s set)) refl (all_below 16 (member_low d set)) refl (all_below 16 (member_sealed d set)) refl)
    where
      go : (some : Bool) → any_below 16 (λ s. member s set) ≡ some → (low : Bool) → all_below 16 (member_low d set) ≡ low → (ready : Bool) → all_below 16 (member_sealed d set) ≡ ready
          → Does d f (group-call img d f len set) (first (unless some 19) (first (unless low 4) (unless ready 6)))
          (cond some (cond low (cond ready (ends d.clock (ceiling_of img)) (refuse 6)) (refuse 4)) (refuse 19))
      go false a low b ready c = does-refuse d f (group-call img d f len set) 18 (omega arith)
      go true a false b ready c = does-refuse d f (group-call img d f len set) 3 (omega arith)
      go true a true b false c = does-refuse d f (group-call img d f len set) 5 (omega arith)
      go true a true b true c =
          record {
            answers = rw add-one;
            stored = rw add-one;
            desk = desk-here (rw (a, b, c) refl) ∙ rw add-one refl;
          }

pub group-sim : (N M : ℕ) (img : List ℕ) (d : Desk) (f : ℕ → ℕ) (k : History) (len set : ℕ) → Ready N M img d
    → Sim (group len set) f d (publish_told (group_reply img d len set).answer) (group_entries img d len set) (group_reply img d len set).desk
    (due_of N M f (ceiling_of img) (abs d) k (group len set))
unfolding group_reply group_entries group_fault first
group-sim N M img d f k len set h = room (dec_lt len 48)
  where
    room : Dec (len < 48) → Does d f (group-call img d f len set) (first (store_fault img d len) (set_fault d set)) (if_room len (groups M (ceiling_of img) (abs d) set))
    room (yes l) = rw (store-fault N M img d f len set h, lt-leb 48 len l) (does-refuse d f (group-call img d f len set) 2 (omega arith))
    room (no n) = rw (store-fault N M img d f len set h, le-leb 48 len (omega arith)) (does N M img d f len set h)
