-- Write of four words (document 01): active only. An own copy is overwritten. Otherwise the record is marked and copied. At the first copy
-- the lowest empty slot of the session is reserved. Checks 1, 2, 4, 5, 6, 7, 8, 9; 7 leaves the caller idle, its marks and copies
-- dropped, out of the list.
use Rattle.std.specs.Prelude.{ℕ, ◌+◌, ◌-◌, Bool, true, ◌||◌, cond, List, set, leb, ltb, eqb, ⊤, Ok, Err}
use Rattle.layout.specs.Below.{lowest}
use Rattle.layout.specs.Checks.{unless, first, answered}
use Rattle.layout.specs.Image.{place_of, persist_at}
use Rattle.layout.specs.Refusal.{Answer, cause}
use Rattle.layout.specs.declared.refusal.Refusal.TheVariants.{OtherHolds}
use Rattle.desk.specs.Desk.{session_at, mark_at, is_active, changed, put_session, dropped}
use Rattle.desk.specs.declared.state.Session.{Session}
use Rattle.desk.specs.declared.state.Desk.{Desk}
use Rattle.desk.specs.declared.reply.Reply.{Reply}
use Rattle.desk.specs.Entering.{image_fault}
use Rattle.snapshot.specs.Own.{own_place}
use Rattle.layout.specs.Told.{Told, refused, refusal, ok}

-- the session's slot q is empty; and the lowest of its two that is, 2 where both are occupied
abbrev pub slot_empty : List ℕ → ℕ → ℕ → ℕ → Bool
slot_empty img n s q = eqb (persist_at img n (place_of s q)) 0

abbrev pub empty_slot : List ℕ → ℕ → ℕ → ℕ
empty_slot img n s = lowest 2 (slot_empty img n s)

-- what is asked of a record that the session does not copy, so that a mark is another's: 7 another session holds it, 8 it is the fifth, 9
-- it is the first and both slots are occupied
unfoldable pub copy_fault : ℕ → ℕ → ℕ → ℕ
copy_fault mark count free = first (unless (eqb mark 0) 7) (first (unless (ltb count 4) 8) (unless (leb 1 count || ltb free 2) 9))

abbrev pub owns_b : Desk → ℕ → ℕ → Bool
owns_b d s r = ltb (own_place (session_at d s) r) 4

unfoldable pub write_fault : List ℕ → Desk → ℕ → ℕ → ℕ
write_fault img d s r =
    first (image_fault img d true s)
    (first (unless (ltb r d.n) 5)
    (first (unless (is_active (session_at d s).phase) 6)
    (cond (owns_b d s r) 0 (copy_fault (mark_at d r) (session_at d s).count (empty_slot img d.n s)))))

abbrev pub write_says : Desk → Answer ⊤ → Reply ⊤
write_says d a = record { answer = a; desk = d }

-- refusal 7 names the holder, and leaves the caller idle, its marks and copies dropped, out of the list
unfoldable pub write_refused : Desk → ℕ → ℕ → ℕ → Reply ⊤
write_refused d s r k = cond (eqb k 7) (write_says (dropped d s) (Err (OtherHolds (mark_at d r - 1)))) (write_says d (Err (cause k)))

-- the session with its own copy overwritten, in its place
abbrev pub overwritten : Session → ℕ → List ℕ → Session
overwritten e r ws =
    record { phase = e.phase; count = e.count; slot = e.slot; copies = set e.copies (own_place e r) (record { rec = r; words = ws }) }

-- the session with one copy more, behind the others
abbrev pub extended : Session → ℕ → List ℕ → ℕ → Session
extended e r ws slot =
    record { phase = e.phase; count = e.count + 1; slot = slot; copies = set e.copies e.count (record { rec = r; words = ws }) }

-- the slot that is reserved: at the first copy the lowest empty one, then the same
abbrev pub reserved : ℕ → ℕ → ℕ → ℕ
reserved count free slot = cond (eqb count 0) free slot

abbrev pub copied : List ℕ → Desk → ℕ → ℕ → List ℕ → Desk
copied img d s r ws =
    changed d s (extended (session_at d s) r ws (reserved (session_at d s).count (empty_slot img d.n s) (session_at d s).slot))
    d.clock (set d.holders r (s + 1)) d.order

abbrev pub write_done : List ℕ → Desk → ℕ → ℕ → List ℕ → Reply ⊤
write_done img d s r ws = write_says (cond (owns_b d s r) (put_session d s (overwritten (session_at d s) r ws)) (copied img d s r ws)) (Ok tt)

unfoldable pub write_reply : List ℕ → Desk → ℕ → ℕ → List ℕ → Reply ⊤
write_reply img d s r ws = answered (write_fault img d s r) (write_refused d s r) (write_done img d s r ws)

-- what it tells: 7 with the holder
unfoldable pub write_said : List ℕ → Desk → ℕ → ℕ → Told
write_said img d s r = answered (write_fault img d s r) (λ k. cond (eqb k 7) (refused 7 (mark_at d r - 1)) (refusal k)) ok
