-- Read gives what is due: the words that it finds are the history's.
use Prim.Native.Nat.{ℕ, zero, suc, ◌-◌, ◌<◌}
use mathlib.Core.Path.{◌≡◌, refl, sym, ap, ◌∙◌, subst}
use mathlib.Core.Bool.{Bool, true, false, cond, not, ◌&&◌}
use mathlib.Core.List.{List, []}
use native.Mathlib.Omega.{arith}
use lib.Dec.{leb, ltb, eqb}
use borrow.Author.Tests.{leb-false, ltb-true, ltb-false, ne_eqb}
use Rattle.layout.specs.Checks.{unless, first, answered}
use Rattle.layout.specs.Image.{home_words, ceiling_of}
use Rattle.layout.proofs.Says.{by-test}
use Rattle.desk.specs.Desk.{session_at, mark_at, copy_at, is_active, start_of}
use Rattle.desk.specs.declared.reply.Reply.{Reply}
use Rattle.desk.specs.declared.state.Phase.{Phase}
use Rattle.desk.specs.declared.state.Phase.TheVariants.{Idle, Active, Sealed, Published}
use Rattle.desk.specs.declared.state.Session.{Session}
use Rattle.desk.specs.declared.state.Desk.{Desk}
use Rattle.desk.proofs.Facts.{Copies}
use Rattle.snapshot.specs.Own.{own_place}
use Rattle.snapshot.specs.Read.{read_fault, shown_at, holder_entry, sight, read_gives, read_refused, read_done, read_reply}
use Rattle.snapshot.specs.declared.seeing.Sight.{Sight}
use Rattle.snapshot.specs.declared.seeing.Source.TheVariants.{Copy, Home}
use Rattle.snapshot.proofs.OwnPlace.{own-found}
use Rattle.snapshot.proofs.ReadLaws.{seen_done, sight-read}
use Rattle.layout.specs.Refusal.{cause}
use Rattle.layout.specs.Told.{Told, refusal, own}
use Rattle.snapshot.specs.Told.{read_told}
use Rattle.history.specs.Call.{read}
use Rattle.history.specs.Desk.{find, holder}
use Rattle.history.specs.Due.{Due, refuse, shown_by, reads_other, reads_own, reads, due_of}
use Rattle.history.specs.History.{History, view_at}
use Rattle.history.proofs.Copies.{find-fresh}
use Rattle.history.proofs.Invariant.{shown}
use Rattle.history.proofs.Kept.{Holds}
use Rattle.history.proofs.ReadDue.{shown_of, looked, read-due}
use Rattle.claims.proofs.Abstraction.{abs, copies_of, txn-of, own-none, find-own, marked}
use Rattle.claims.proofs.Simulation.{Sim, Ready}
use Rattle.claims.proofs.Entering.{image-check, record-check, session-small, holder-named, told}

module _ (N M : ℕ) (img : List ℕ) (d : Desk) (s r : ℕ) (f : ℕ → ℕ) (k : History) (h : Ready N M img d) (H : Holds N M img (abs d) k) where
  -- the reader's entry
  abbrev e : Session
  e = session_at d s

  -- what is read from a holder whose copy is shown, or is not
  abbrev gives : Session → Bool → Reply Sight
  gives o x = cond x (read_gives d (sight Copy (copy_at o (own_place o r)).words)) (read_gives d (sight Home (home_words img r)))

  -- what is due of a reply
  abbrev ReadSim : Reply Sight → Due → Type 0
  ReadSim x y = Sim (read s r) f d (read_told x.answer) [] x.desk y

  -- what a reply tells
  abbrev tells : Reply Sight → Told
  tells x = read_told x.answer

  -- a session that copies the record: its copy is read if it is published in time, else the home record
  by-holder : (t : ℕ) → t < 16 → Copies (session_at d t) r → (b : ℕ) (p : Phase)
      → tells (gives (session_at d t) (shown_at b p)) ≡ looked (find r (shown b (txn-of p (session_at d t).slot (copies_of (session_at d t))))) (home_words img r)
  by-holder t l c b Idle = refl
  by-holder t l c b (Active n) = refl
  by-holder t l c b (Sealed n) = refl
  by-holder t l c b (Published n) = go (leb n b)
    where
      go : (x : Bool) → tells (gives (session_at d t) x) ≡ looked (find r (cond x (copies_of (session_at d t)) [])) (home_words img r)
      go true = rw (find-own (session_at d t) r (h.copies-long t l) (own-found (session_at d t) r c)) refl
      go false = refl

  -- a record that the reader does not copy is read by its mark
  by-mark : r < N → (b n : ℕ) → mark_at d r ≡ n
      → tells (gives (holder_entry d r) (not (eqb n 0) && shown_at b (holder_entry d r).phase))
      ≡ looked (find r (shown_of b (abs d) (marked n))) (home_words img r)
  by-mark lr b zero m = refl
  by-mark lr b (suc t) m =
      let l : r < 256 = omega (arith, h.n-same, h.coherent.n-high) in
      let there : t < 16 = omega (arith, (h.coherent.marks r l).0.0) in
      let names : mark_at d r - 1 ≡ t = omega arith in
      rw (ne_eqb (suc t) 0 (λ z. omega arith), names)
      (by-holder t there (((h.coherent.marks r l).0.1 t there).0 (omega arith)) b (session_at d t).phase)

  -- the desk stays
  stays : (x : Bool) (o : Session) (y : Due) → tells (gives o x) ≡ y.answer → y.entries ≡ [] → ReadSim (gives o x) y
  stays true o y a n = record { answers = a; stored = sym n; desk = refl }
  stays false o y a n = record { answers = a; stored = sym n; desk = refl }

  -- an active session reads
  pub reads-active : s < M → r < N → (b : ℕ) → e.phase ≡ Active b
      → ReadSim (read_done img d s r) (reads_own (find r (copies_of e)) (reads_other (shown_by b (abs d) (holder M (abs d) r)) (view_at k b r)))
  reads-active l lr b i =
      let four = h.copies-long s (session-small N M img d h s l) in
      let other = reads_other (shown_by b (abs d) (holder M (abs d) r)) (view_at k b r) in
      by-test (ltb (own_place e r) 4)
      (λ y. rw (y, find-own e r four (ltb-true (own_place e r) 4 y)) (told (read s r) f d (own _) refl))
      (λ n.
      let none = ltb-false (own_place e r) 4 n in
      subst (λ (x : Reply Sight). ReadSim x (reads_own (find r (copies_of e)) other)) (sym (ap (read_gives d) (seen_done img d s r none) ∙ sight-read img d (start_of e.phase) r))
      (rw (find-fresh r (copies_of e) (own-none e r four none), i)
      (stays (not (eqb (mark_at d r) 0) && shown_at b (holder_entry d r).phase) (holder_entry d r) _
      (by-mark lr b (mark_at d r) refl ∙ (rw (← (holder-named N M img d h r lr)) (read-due N M img (abs d) k H b r s e.slot (copies_of e) l lr (rw i refl))))
      (quiet (shown_by b (abs d) (holder M (abs d) r)) (view_at k b r)))))
    where
      quiet : (x : Bool) (ws : List ℕ) → (reads_other x ws).entries ≡ []
      quiet true ws = refl
      quiet false ws = refl

  -- read gives the same words, and changes nothing
  pub read-sim : ReadSim (read_reply img d s r) (due_of N M f (ceiling_of img) (abs d) k (read s r))
  unfolding read_reply read_fault answered first cause
  read-sim = rw (image-check N M img d h s, record-check N M img d h r) (go (leb M s) (leb N r) (leb-false M s) (leb-false N r) e.phase refl)
    where
      go : (over past : Bool) → (over ≡ false → s < M) → (past ≡ false → r < N) → (p : Phase) → e.phase ≡ p
          → ReadSim (answered (first (cond over 4 0) (first (cond past 5 0) (unless (is_active p) 6))) (read_refused d) (read_done img d s r))
          (cond over (refuse 4) (cond past (refuse 5) (reads M (abs d) k r (txn-of p e.slot (copies_of e)))))
      go true past b c p i = told (read s r) f d (refusal 4) refl
      go false true b c p i = told (read s r) f d (refusal 5) refl
      go false false b c Idle i = told (read s r) f d (refusal 6) refl
      go false false b c (Active n) i = reads-active (b refl) (c refl) n i
      go false false b c (Sealed n) i = told (read s r) f d (refusal 6) refl
      go false false b c (Published n) i = told (read s r) f d (refusal 6) refl
