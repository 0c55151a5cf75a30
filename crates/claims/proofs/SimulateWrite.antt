-- Write does what the abstract call does.
use Prim.Native.Nat.{ℕ, zero, suc, ◌+◌, ◌-◌, ◌≤◌, ◌<◌}
use mathlib.Core.Path.{◌≡◌, refl, sym, ap, ◌∙◌}
use mathlib.Core.Bool.{Bool, true, false, cond}
use mathlib.Core.Option.{some}
use mathlib.Core.List.{List, [], ◌∷◌}
use native.Mathlib.Omega.{arith}
use native.Mathlib.Nat.{add-zero}
use native.Mathlib.Numerals.{add-one}
use lib.ListN.{length, set}
use lib.Dec.{leb, ltb, eqb}
use borrow.Author.Tests.{leb-false, ltb-true, ltb-false, le-leb, eq-eqb, ne_eqb}
use Rattle.std.specs.Prelude.{⊤, Ok}
use Rattle.layout.specs.Below.{lowest}
use Rattle.layout.specs.Checks.{unless, first, answered}
use Rattle.layout.proofs.Says.{by-test}
use Rattle.desk.specs.Desk.{session_at, mark_at, is_active, put_session}
use Rattle.desk.specs.declared.reply.Reply.{Reply}
use Rattle.desk.specs.declared.state.Phase.{Phase}
use Rattle.desk.specs.declared.state.Phase.TheVariants.{Idle, Active, Sealed, Published}
use Rattle.desk.specs.declared.state.Session.{Session}
use Rattle.desk.specs.declared.state.Desk.{Desk}
use Rattle.desk.proofs.Copied.{copies-four}
use Rattle.snapshot.specs.Own.{own_place}
use Rattle.snapshot.specs.Write.{slot_empty, empty_slot, copy_fault, owns_b, write_fault, write_says, write_refused, overwritten, extended, reserved, copied, write_done, write_reply}
use Rattle.layout.specs.Image.{place_of, ceiling_of}
use Rattle.layout.specs.Refusal.{cause}
use Rattle.layout.specs.Told.{refused, refusal, ok}
use Rattle.snapshot.specs.Told.{write_told}
use Rattle.history.specs.Call.{write}
use Rattle.history.specs.Desk.{Copy, find, put, active, with_session, holder}
use Rattle.history.specs.Due.{Due, say, refuse, adds, writes_held, writes_own, wrote, due_of}
use Rattle.history.specs.History.{History}
use Rattle.history.specs.Layout.{view}
use Rattle.history.specs.Ledger.{slot_now, note_desk}
use Rattle.history.proofs.Copies.{Fresh, find-fresh}
use Rattle.claims.proofs.Abstraction.{abs, copies_of, txn-of, front-set, front-put, length_front, own_first, own-none, find-own, marked}
use Rattle.claims.proofs.Simulation.{Sim, Ready}
use Rattle.claims.proofs.Entering.{refused-from, session-small, image-check, record-check, session-there, holder-named, told, entered, emptied}

-- the lowest empty one of two slots
empty-slot : (img : List ℕ) (n s : ℕ) → empty_slot img n s ≡ cond (slot_empty img n s 0) 0 (cond (slot_empty img n s 1) 1 2)
unfolding lowest
empty-slot img n s = go (slot_empty img n s 0) (slot_empty img n s 1)
  where
    go : (a b : Bool) → ◌≡◌ {A = ℕ} (cond (ltb (cond a 0 1) 1) (cond a 0 1) (cond b 1 2)) (cond a 0 (cond b 1 2))
    go true b = refl
    go false b = refl

-- a record that another session holds is refused by 7
fault-held : (mark count free : ℕ) → (mark ≡ 0 → ⊥) → copy_fault mark count free ≡ 7
unfolding copy_fault first
fault-held mark count free n = rw (ne_eqb mark 0 n)

-- a first copy by 9 where both slots are occupied
fault-first : (mark count free : ℕ) (a b : Bool) → mark ≡ 0 → count ≡ 0 → free ≡ cond a 0 (cond b 1 2) → copy_fault mark count free ≡ cond a 0 (cond b 0 9)
unfolding copy_fault first
fault-first mark count free a b m c u = rw (m, c, u) (go a b)
  where
    go : (a b : Bool) → unless (ltb (cond a 0 (cond b 1 2)) 2) 9 ≡ cond a 0 (cond b 0 9)
    go true b = refl
    go false true = refl
    go false false = refl

-- another copy by 8 where it is the fifth
fault-next : (mark count free : ℕ) → mark ≡ 0 → 1 ≤ count → copy_fault mark count free ≡ cond (leb 4 count) 8 0
unfolding copy_fault first
fault-next mark count free m c = rw (m, le-leb 1 count c, refused-from 4 count 8) (go (leb 4 count))
  where
    go : (b : Bool) → ◌≡◌ {A = ℕ} (first (cond b 8 0) 0) (cond b 8 0)
    go true = refl
    go false = refl

module _ (N M : ℕ) (img : List ℕ) (d : Desk) (s r : ℕ) (ws : List ℕ) (k : History) (h : Ready N M img d) where
  -- the writer's entry
  abbrev e : Session
  e = session_at d s

  -- the slots' numbers
  abbrev f : ℕ → ℕ
  f = (view N img).number

  -- what is due of a reply
  abbrev WriteSim : Reply ⊤ → Due → Type 0
  WriteSim x y = Sim (write s r ws) f d (write_told x.answer) [] x.desk y

  -- the slot that a first copy reserves
  abbrev free : ℕ
  free = empty_slot img d.n s

  -- a copy taken, or refused by k
  abbrev copying : ℕ → Reply ⊤
  copying k = answered k (write_refused d s r) (write_says (copied img d s r ws) (Ok tt))

  -- a slot is empty on both sides or on none
  empty-in : (q : ℕ) → slot_empty img d.n s q ≡ eqb (f (place_of s q)) 0
  empty-in q = rw (add-zero, h.n-same)

  module _ (l : s < M) (lr : r < N) (b : ℕ) (i : e.phase ≡ Active b) where
    -- the entry is there, with four places
    low : s < 16
    low = session-small N M img d h s l

    there : s < length d.sessions
    there = session-there N M img d h s l

    four : length e.copies ≡ 4
    four = h.copies-long s low

    -- its count is the number of its copies
    counted : (cs : List Copy) → copies_of e ≡ cs → e.count ≡ length cs
    counted cs c = sym (length_front e.count e.copies (omega (arith, four, copies-four d h.coherent s low))) ∙ ap length c

    -- the sessions where a copy is noted
    noted : (q : ℕ) → slot_now s f e.slot (copies_of e) ≡ q
        → note_desk (write s r ws) ok f (abs d) ≡ with_session s (active b q (put r ws (copies_of e))) (abs d)
    noted q u = rw (i, u) refl

    -- the own copy is overwritten
    overwrites : own_place e r < 4 → Sim (write s r ws) f d ok [] (put_session d s (overwritten e r ws)) (say ok)
    overwrites o =
        entered (write s r ws) f d ok s (overwritten e r ws) d.holders d.order _ there
        (rw (i, front-set r e.count (own_place e r) ws e.copies (own_first e r four o))) (noted e.slot (kept (copies_of e) (find-own e r four o)))
      where
        kept : {old : List ℕ} (cs : List Copy) → find r cs ≡ some old → slot_now s f e.slot cs ≡ e.slot
        kept [] z = let w : ◌≡◌ {A = ℕ} 0 1 = cc in absurd (omega arith)
        kept (c ∷ cs) z = refl

    -- a copy more is taken, in slot q
    copies : (q : ℕ) → reserved e.count free e.slot ≡ q → slot_now s f e.slot (copies_of e) ≡ q → e.count < 4 → Fresh r (copies_of e)
        → Sim (write s r ws) f d ok [] (copied img d s r ws) (say ok)
    copies q u n c z =
        entered (write s r ws) f d ok s (extended e r ws (reserved e.count free e.slot)) (set d.holders r (s + 1)) d.order _ there
        (rw (u, i, add-one, front-put r e.count ws e.copies (omega (arith, four)) z)) (noted q n)

    -- a record that is free is copied, where there is room
    adds-copy : mark_at d r ≡ 0 → Fresh r (copies_of e) → (cs : List Copy) → copies_of e ≡ cs
        → WriteSim (copying (copy_fault (mark_at d r) e.count free))
        (adds f s cs)
    unfolding answered write_refused cause
    adds-copy z z' [] c =
        rw (← empty-in 0, ← empty-in 1, fault-first (mark_at d r) e.count free (slot_empty img d.n s 0) (slot_empty img d.n s 1) z (counted [] c) (empty-slot img d.n s))
        (go (slot_empty img d.n s 0) (slot_empty img d.n s 1) (empty-slot img d.n s) (sym (empty-in 0)))
      where
        first-copy : (q : ℕ) → free ≡ q → slot_now s f e.slot [] ≡ q → Sim (write s r ws) f d ok [] (copied img d s r ws) (say ok)
        first-copy q u n =
            copies q (rw (eq-eqb e.count 0 (counted [] c)) u) (ap (slot_now s f e.slot) c ∙ n) (omega (arith, counted [] c)) z'

        go : (a₀ a₁ : Bool) → free ≡ cond a₀ 0 (cond a₁ 1 2) → eqb (f (place_of s 0)) 0 ≡ a₀
            → WriteSim (copying (cond a₀ 0 (cond a₁ 0 9))) (cond a₀ (say ok) (cond a₁ (say ok) (refuse 9)))
        go true a₁ u n = first-copy 0 u (rw n refl)
        go false true u n = first-copy 1 u (rw n refl)
        go false false u n = told (write s r ws) f d (refusal 9) refl
    adds-copy z z' (x ∷ cs) c = rw (fault-next (mark_at d r) e.count free z (omega (arith, counted (x ∷ cs) c)), ← counted (x ∷ cs) c) (go (leb 4 e.count) (leb-false 4 e.count))
      where
        go : (full : Bool) → (full ≡ false → e.count < 4) → WriteSim (copying (cond full 8 0)) (cond full (refuse 8) (say ok))
        go true n = told (write s r ws) f d (refusal 8) refl
        go false n =
            copies e.slot (rw (ne_eqb e.count 0 (λ y. omega (arith, counted (x ∷ cs) c)))) (ap (slot_now s f e.slot) c) (n refl) z'

    -- a record that is not copied: another session's, or free
    by-mark : Fresh r (copies_of e) → (n : ℕ) → mark_at d r ≡ n
        → WriteSim (copying (copy_fault (mark_at d r) e.count free))
        (writes_held f s (copies_of e) (marked n))
    unfolding answered write_refused cause
    by-mark z zero m = adds-copy m z (copies_of e) refl
    by-mark z (suc t) m =
        let names : mark_at d r - 1 ≡ t = omega arith in
        rw (fault-held (mark_at d r) e.count free (λ z. omega arith), names)
        (emptied (write s r ws) f d (refused 7 t) s there refl)

    -- an active session writes
    writes-active : WriteSim (answered (cond (owns_b d s r) 0 (copy_fault (mark_at d r) e.count free)) (write_refused d s r) (write_done img d s r ws))
        (writes_own (find r (copies_of e)) (writes_held f s (copies_of e) (holder M (abs d) r)))
    unfolding answered
    writes-active =
        by-test (ltb (own_place e r) 4)
        (λ y. let o = ltb-true (own_place e r) 4 y in rw (y, find-own e r four o) (overwrites o))
        (λ n.
        let z = own-none e r four (ltb-false (own_place e r) 4 n) in
        rw (n, find-fresh r (copies_of e) z, holder-named N M img d h r lr) (by-mark z (mark_at d r) refl))

  -- write gives the same answer, and the same copies or none
  pub write-sim : WriteSim (write_reply img d s r ws) (due_of N M f (ceiling_of img) (abs d) k (write s r ws))
  unfolding write_reply write_fault write_refused answered first cause
  write-sim = rw (image-check N M img d h s, record-check N M img d h r) (go (leb M s) (leb N r) (leb-false M s) (leb-false N r) e.phase refl)
    where
      go : (over past : Bool) → (over ≡ false → s < M) → (past ≡ false → r < N) → (p : Phase) → e.phase ≡ p
          → WriteSim
          (answered (first (cond over 4 0) (first (cond past 5 0) (first (unless (is_active p) 6) (cond (owns_b d s r) 0 (copy_fault (mark_at d r) e.count free)))))
          (write_refused d s r) (write_done img d s r ws))
          (cond over (refuse 4) (cond past (refuse 5) (wrote M f (abs d) s r (txn-of p e.slot (copies_of e)))))
      go true past b c p i = told (write s r ws) f d (refusal 4) refl
      go false true b c p i = told (write s r ws) f d (refusal 5) refl
      go false false b c Idle i = told (write s r ws) f d (refusal 6) refl
      go false false b c (Active n) i = writes-active (b refl) (c refl) n i
      go false false b c (Sealed n) i = told (write s r ws) f d (refusal 6) refl
      go false false b c (Published n) i = told (write s r ws) f d (refusal 6) refl
