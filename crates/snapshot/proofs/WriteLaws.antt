-- Write, case by case.
use Prim.Native.Nat.{ℕ, ◌-◌, ◌<◌, ◌≤◌}
use mathlib.Core.Bool.{Bool, true, false, ◌||◌, cond}
use mathlib.Core.Path.{◌≡◌, refl, sym, ap, ◌∙◌}
use mathlib.Core.List.{List}
use native.Mathlib.Omega.{arith}
use lib.Dec.{leb, ltb, eqb}
use borrow.Author.Tests.{lt-ltb, le-ltb, le-leb, ne_eqb, ltb-true}
use Rattle.std.specs.Prelude.{Ok, Err}
use Rattle.std.specs.Option.{ok_or}
use Rattle.layout.specs.Checks.{unless, first, answered}
use Rattle.layout.specs.Refusal.{answer_of, cause}
use Rattle.layout.specs.declared.refusal.Refusal.TheVariants.{OtherHolds, FifthRecord, SlotsFull}
use Rattle.layout.specs.Search.{within}
use Rattle.layout.proofs.Says.{by-test}
use Rattle.layout.proofs.ChecksLaws.{first-both, first-most, unless-zero, unless-most, first-assoc, answered-refused, answered-passed, answered-zero, answered-not}
use Rattle.desk.specs.Desk.{session_at, mark_at, is_active, put_session, dropped}
use Rattle.desk.specs.declared.state.Desk.{Desk}
use Rattle.desk.specs.Entering.{image_fault, record_fault}
use Rattle.desk.proofs.Entered.{entry-most}
use Rattle.snapshot.specs.Own.{own_place}
use Rattle.snapshot.specs.Write.{empty_slot, copy_fault, reserved, owns_b, write_fault, write_says, write_refused, overwritten, copied, write_done, write_reply}

-- the slot for one copy more of a record that is not held, by the copies that there are
pub slot-first : (free slot : ℕ) → answer_of (copy_fault 0 0 free) (reserved 0 free slot) ≡ ok_or (within 2 free) SlotsFull
unfolding copy_fault first answered cause
slot-first free slot = by-test (ltb free 2) (λ t. rw t refl) (λ f. rw f refl)

pub slot-same : (count free slot : ℕ) → 1 ≤ count → count ≤ 3 → answer_of (copy_fault 0 count free) (reserved count free slot) ≡ Ok slot
unfolding copy_fault first answered
slot-same count free slot l m = rw (lt-ltb count 4 (omega arith), le-leb 1 count l, ne_eqb count 0 (λ z. omega (arith, z))) refl

pub slot-none : (count free slot : ℕ) → 4 ≤ count → answer_of (copy_fault 0 count free) (reserved count free slot) ≡ Err FifthRecord
unfolding copy_fault first answered cause
slot-none count free slot l = rw (le-ltb count 4 l) refl

-- a record that is not held is not refused by 7
unheld : (count free : ℕ) → copy_fault 0 count free ≡ 7 → ⊥
unfolding copy_fault first
unheld count free e = go (ltb count 4) (leb 1 count || ltb free 2) e
  where
    go : (a b : Bool) → first (unless a 8) (unless b 9) ≡ 7 → ⊥
    go true true h = omega arith
    go true false h = omega arith
    go false b h = omega arith

-- not refused, there is a place for the copy
pub copy-room : (mark count free : ℕ) → copy_fault mark count free ≡ 0 → count < 4
unfolding copy_fault
copy-room mark count free e =
    let a = first-both (unless (eqb mark 0) 7) _ e in
    let b = first-both (unless (ltb count 4) 8) _ a.1 in
    ltb-true count 4 (unless-zero (ltb count 4) 7 b.0)

module _ (img : List ℕ) (d : Desk) (s r : ℕ) (ws : List ℕ) where
  -- 1 to 5 are below 7
  record-most : record_fault img d s r ≤ 5
  record-most =
      first-most 5 (image_fault img d true s) (unless (ltb r d.n) 5) (omega (arith, entry-most img d true s)) (unless-most 5 (ltb r d.n) 5 (omega arith))

  -- a refusal other than 7 leaves all as it was
  plain : (k : ℕ) → (k ≡ 7 → ⊥) → write_refused d s r k ≡ write_says d (Err (cause k))
  unfolding write_refused
  plain k n = rw (ne_eqb k 7 n)

  -- what is asked of a record that is copied, or is not
  abbrev rest : ℕ
  rest = cond (owns_b d s r) 0 (copy_fault (mark_at d r) (session_at d s).count (empty_slot img d.n s))

  by-record : write_reply img d s r ws ≡ answered (first (record_fault img d s r) (first (unless (is_active (session_at d s).phase) 6) rest)) (write_refused d s r) (write_done img d s r ws)
  unfolding write_reply write_fault
  by-record = rw first-assoc

  -- refused by 1, 2, 4 or 5
  pub write-refused : (k : ℕ) → k ≡ record_fault img d s r → (k ≡ 0 → ⊥) → write_reply img d s r ws ≡ write_says d (Err (cause k))
  write-refused k e n =
      by-record ∙ answered-refused _ _ (write_refused d s r) _ (λ z. n (e ∙ z)) ∙ ap (write_refused d s r) (sym e) ∙ plain k (λ q. omega (arith, q, e, record-most))

  module _ (z : record_fault img d s r ≡ 0) where
    -- refused by 6
    pub write-inactive : is_active (session_at d s).phase ≡ false → write_reply img d s r ws ≡ write_says d (Err (cause 6))
    unfolding answered first
    write-inactive f = by-record ∙ answered-passed _ _ (write_refused d s r) _ z ∙ rw f (plain 6 (λ q. omega (arith, q)))

    module _ (a : is_active (session_at d s).phase ≡ true) where
      active : write_reply img d s r ws ≡ answered rest (write_refused d s r) (write_done img d s r ws)
      unfolding first
      active = by-record ∙ answered-passed _ _ (write_refused d s r) _ z ∙ rw a

      pub write-own : own_place (session_at d s) r < 4 → write_reply img d s r ws ≡ write_says (put_session d s (overwritten (session_at d s) r ws)) (Ok tt)
      unfolding answered
      write-own l = active ∙ rw (lt-ltb _ _ l)

      module _ (n : 4 ≤ own_place (session_at d s) r) where
        other : write_reply img d s r ws
            ≡ answered (copy_fault (mark_at d r) (session_at d s).count (empty_slot img d.n s)) (write_refused d s r) (write_says (copied img d s r ws) (Ok tt))
        other = active ∙ rw (le-ltb _ _ n)

        -- refused by 7
        pub write-taken : (mark_at d r ≡ 0 → ⊥) → write_reply img d s r ws ≡ write_says (dropped d s) (Err (OtherHolds (mark_at d r - 1)))
        unfolding answered write_refused copy_fault first
        write-taken m = other ∙ rw (ne_eqb _ 0 m)

        module _ (m : mark_at d r ≡ 0) where
          -- refused by 8 or 9
          pub write-full : (copy_fault 0 (session_at d s).count (empty_slot img d.n s) ≡ 0 → ⊥)
              → write_reply img d s r ws ≡ write_says d (Err (cause (copy_fault 0 (session_at d s).count (empty_slot img d.n s))))
          write-full y = other ∙ rw (m, answered-not _ (write_refused d s r) (write_says (copied img d s r ws) (Ok tt)) y) (plain _ (unheld _ _))

          pub write-copied : copy_fault 0 (session_at d s).count (empty_slot img d.n s) ≡ 0 → write_reply img d s r ws ≡ write_says (copied img d s r ws) (Ok tt)
          write-copied y = other ∙ rw (m, answered-zero _ (write_refused d s r) (write_says (copied img d s r ws) (Ok tt)) y)
