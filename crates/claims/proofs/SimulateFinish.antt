-- Finish gives what is due.
use Prim.Native.Nat.{ℕ, zero, suc, ◌<◌}
use mathlib.Core.Path.{◌≡◌, refl, sym, ap, ◌∙◌}
use mathlib.Core.Bool.{false, ◌||◌, cond}
use mathlib.Core.List.{List, [], ◌∷◌}
use native.Mathlib.Decide.{dec_lt}
use native.Mathlib.Omega.{arith}
use lib.Dec.{ltb, eqb}
use lib.ListN.{length, get_or}
use borrow.Author.Tests.{lt-ltb, le-ltb, le-leb, lt-leb, eq-eqb, ne_eqb}
use Rattle.std.specs.Prelude.{Option}
use Rattle.layout.specs.Checks.{unless, first, answered}
use Rattle.layout.specs.Image.{home_at, home_words, place_of, slot_at, ceiling_of}
use Rattle.desk.specs.Desk.{copied_rec, session_at, is_active, idle_session, with_phase}
use Rattle.desk.specs.Coherent.{limit}
use Rattle.desk.specs.declared.state.Phase.{Phase}
use Rattle.desk.specs.declared.state.Phase.TheVariants.{Idle, Active, Sealed, Published}
use Rattle.desk.specs.declared.state.Session.{Session}
use Rattle.desk.specs.declared.state.Desk.{Desk}
use Rattle.commit.specs.Finish.{finish_fault, finish_entries, seal_entries, finish_refused, finish_done, finish_reply}
use Rattle.desk.specs.declared.reply.StoringReply.{StoringReply}
use Rattle.commit.specs.Told.{finish_told}
use Rattle.history.specs.Call.{finish}
use Rattle.history.specs.Desk.{Copy, spot, words_at}
use Rattle.history.specs.Due.{finishes, seals_copies, due_of, finish_stores}
use Rattle.history.specs.History.{History, record_of}
use Rattle.history.specs.Layout.{view}
use Rattle.history.proofs.Copies.{Mem, at_mem}
use Rattle.history.proofs.HeldHome.{held-home}
use Rattle.history.proofs.Kept.{Holds}
use Rattle.claims.proofs.Abstraction.{txn-of, copies_of, length_front, abs, abs-put}
use Rattle.claims.proofs.Causes.{tells-cause}
use Rattle.claims.proofs.Simulation.{Sim, Ready}
use Rattle.claims.proofs.Entering.{session-there}
use Rattle.claims.proofs.SimulateChecks.{Checked, Does, does-refuse, past-four, fits, count-is}
use Rattle.claims.proofs.CopyEntries.{same-rec, log-copies}

-- finish past its checks, and where a check refuses
abbrev finish-call : List ℕ → (d : Desk) (f : ℕ → ℕ) → ℕ → ℕ → Checked d f
finish-call img d f len s =
    record {
      call = finish len s;
      Gives = StoringReply (Option ℕ);
      tells = λ r. finish_told r.answer;
      left = λ r. r.desk;
      refused = finish_refused d;
      done = finish_done img d s;
      listed = cond (eqb (session_at d s).count 0) [] (seal_entries img d s);
      refuses = tells-cause;
      keeps = λ k. refl;
      notes = λ k. refl;
    }

-- word j of a home record
home-word : (img : List ℕ) (r j : ℕ) → j < 4 → get_or (home_words img r) j 0 ≡ get_or img (spot r j) 0
home-word img r zero l = ap (λ i. get_or img i 0) (let e : home_at r ≡ spot r 0 = omega arith in e)
home-word img r (suc zero) l = refl
home-word img r (suc (suc zero)) l = refl
home-word img r (suc (suc (suc zero))) l = refl
home-word img r (suc (suc (suc (suc j)))) l = absurd (omega arith)

module _ (N M : ℕ) (img : List ℕ) (d : Desk) (f : ℕ → ℕ) (k : History) (len s : ℕ) (h : Ready N M img d) (H : Holds N M img (abs d) k) (l : s < M) where
  -- the entry of session s
  abbrev e : Session
  e = session_at d s

  -- of an active session's records the home record is the book's
  home-book : (b : ℕ) → e.phase ≡ Active b → (j w : ℕ) → j < e.count → w < 4 → get_or (home_words img (copied_rec e j)) w 0 ≡ get_or (record_of k (copied_rec e j)) w 0
  home-book b i j w m lw =
      let few = fits N M img d s h l in
      let there : j < length (copies_of e) = omega (arith, length_front e.count e.copies few) in
      let mem : Mem (copied_rec e j) (words_at (copies_of e) j) (copies_of e) = rw (← same-rec e few j m) at (at_mem (copies_of e) j there) in
      home-word img (copied_rec e j) w lw
      ∙ held-home N M (view N img) (abs d) k s b e.slot (copies_of e) H.inv l (rw i refl) (copied_rec e j) (words_at (copies_of e) j) mem w lw

  -- the log that is stored
  seal-entries : (b : ℕ) → e.phase ≡ Active b → seal_entries img d s ≡ finish_stores d.n k (place_of s e.slot) d.clock (copies_of e)
  seal-entries b i = log-copies e (fits N M img d s h l) (home_words img) (record_of k) (home-book b i) d.n (slot_at d.n (place_of s e.slot)) d.clock

  -- an active session, by its copies
  seals : (b : ℕ) → e.phase ≡ Active b → (cs : List Copy) → copies_of e ≡ cs
      → Does d f (finish-call img d f len s) (unless (eqb e.count 0 || ltb d.clock limit) 10) (seals_copies d.n k d.clock (place_of s e.slot) cs)
  unfolding answered
  seals b i [] z =
      rw (eq-eqb e.count 0 (sym (count-is N M img d s h l) ∙ ap length z))
      (record { answers = refl; stored = refl; desk = abs-put d d.clock d.n d.m s idle_session d.holders (session-there N M img d h s l) })
  seals b i (c ∷ cs) z = go (ne_eqb e.count 0 (λ n. omega (arith, count-is N M img d s h l, ap length z))) (dec_lt d.clock limit)
    where
      go : eqb e.count 0 ≡ false → Dec (d.clock < limit)
          → Does d f (finish-call img d f len s) (unless (eqb e.count 0 || ltb d.clock limit) 10) (seals_copies d.n k d.clock (place_of s e.slot) (c ∷ cs))
      go some (yes x) =
          rw (some, lt-ltb d.clock limit x, lt-leb limit d.clock x)
          (record {
            answers = refl;
            stored = rw z at (seal-entries b i);
            desk = rw i (abs-put d d.clock d.n d.m s (with_phase e (Sealed d.clock)) d.holders (session-there N M img d h s l));
          })
      go some (no n) = rw (some, le-ltb d.clock limit (omega arith), le-leb limit d.clock (omega arith)) (does-refuse d f (finish-call img d f len s) 9 (omega arith))

  -- by the session's phase
  by-phase : (p : Phase) → e.phase ≡ p
      → Does d f (finish-call img d f len s) (first (unless (is_active p) 6) (unless (eqb e.count 0 || ltb d.clock limit) 10))
      (finishes d.n k d.clock s (txn-of p e.slot (copies_of e)))
  unfolding first
  by-phase Idle i = does-refuse d f (finish-call img d f len s) 5 (omega arith)
  by-phase (Active b) i = seals b i (copies_of e) refl
  by-phase (Sealed n) i = does-refuse d f (finish-call img d f len s) 5 (omega arith)
  by-phase (Published n) i = does-refuse d f (finish-call img d f len s) 5 (omega arith)

pub finish-sim : (N M : ℕ) (img : List ℕ) (d : Desk) (f : ℕ → ℕ) (k : History) (len s : ℕ) → Ready N M img d → Holds N M img (abs d) k
    → Sim (finish len s) f d (finish_told (finish_reply img d len s).answer) (finish_entries img d len s) (finish_reply img d len s).desk
    (due_of N M f (ceiling_of img) (abs d) k (finish len s))
unfolding finish_reply finish_entries finish_fault
finish-sim N M img d f k len s h H =
    past-four d f (finish-call img d f len s) N M img len s _ _ h
    (λ l. rw (← h.n-same) (by-phase N M img d f k len s h H l (session_at d s).phase refl))
