-- The ledger: what a list of calls with what they tell says, with no image.
use Rattle.std.specs.Prelude.{ℕ, suc, ◌+◌, Bool, true, false, cond, not, ◌&&◌, List, [], ◌∷◌, eqb, leb}
use Rattle.std.proofs.Math.Option.{Option, none, some}
use Rattle.layout.specs.Image.{place_of}
use Rattle.layout.specs.Told.{Told, is, refused_by, value_of, Ok, Start, Empty, Sealed, End, Cleared}
use Rattle.desk.specs.Group.{member}
use Rattle.history.specs.Call.{Listening, Begin, Read, Finish, Find, Call, begin, read, write, abandon, finish, publish, group, settle, reclaim, listen}
use Rattle.history.specs.Desk.{Copy, put, Session, idle, active, sealed, published, Desk, upd, with_session}
use Rattle.history.specs.History.{History, feed}

-- the clock, which goes on by one with each end given, and what each session is doing; the persist number of each slot, 0 where it is
-- empty; the ceiling (document 02, Req 05); and the history
pub record Ledger : Type 0 where
  pub desk : Desk
  pub number : ℕ → ℕ
  pub ceiling : ℕ
  pub history : History

-- ---- the sessions

-- at the first copy the lowest empty slot of the session is reserved
abbrev pub slot_now : ℕ → (ℕ → ℕ) → ℕ → List Copy → ℕ
slot_now s f q [] = cond (eqb (f (place_of s 0)) 0) 0 1
slot_now s f q (c ∷ cs) = q

abbrev pub copying : ℕ → ℕ → List ℕ → (ℕ → ℕ) → Session → Session
copying s r ws f idle = idle
copying s r ws f (active b q cs) = active b (slot_now s f q cs) (put r ws cs)
copying s r ws f (sealed n q cs) = sealed n q cs
copying s r ws f (published e q cs) = published e q cs

abbrev pub sealed_with : ℕ → Session → Session
sealed_with n idle = idle
sealed_with n (active b q cs) = sealed n q cs
sealed_with n (sealed m q cs) = sealed m q cs
sealed_with n (published e q cs) = published e q cs

abbrev pub ended_with : ℕ → Session → Session
ended_with e idle = idle
ended_with e (active b q cs) = active b q cs
ended_with e (sealed n q cs) = published e q cs
ended_with e (published f q cs) = published f q cs

-- the clock goes on by one
abbrev pub ticked : Desk → Desk
ticked d = record { clock = suc d.clock; session = d.session }

-- an end for each session that passes the test
abbrev pub ended_all : (ℕ → Bool) → ℕ → Desk → Desk
ended_all p e d = record { clock = d.clock; session = λ u. cond (p u) (ended_with e (d.session u)) (d.session u) }

-- begin with a start: the session is active with it
abbrev pub note_begin : ℕ → Told → Desk → Desk
note_begin s t d = cond (is Start t) (with_session s (active (value_of t) 0 []) d) d

-- of the listening room's calls
abbrev pub note_listening : Listening → Told → Desk → Desk
note_listening (Begin s) t d = note_begin s t d
note_listening (Read s r) t d = d
note_listening (Finish len s) t d = cond (is Empty t) (with_session s idle d) d
note_listening (Find s k) t d = d

-- the clock and the sessions after a call, by what it tells; f has the slots' numbers
abbrev pub note_desk : Call → Told → (ℕ → ℕ) → Desk → Desk
note_desk (begin s) t f d = note_begin s t d
note_desk (read s r) t f d = d
note_desk (write s r ws) t f d =
    cond (is Ok t) (with_session s (copying s r ws f (d.session s)) d) (cond (refused_by 7 t) (with_session s idle d) d)
note_desk (abandon s) t f d = cond (is Ok t) (with_session s idle d) d
note_desk (finish len s) t f d =
    cond (is Sealed t) (with_session s (sealed_with (value_of t) (d.session s)) d) (cond (is Empty t) (with_session s idle d) d)
note_desk (publish len s) t f d = cond (is End t) (ended_all (λ u. eqb u s) (value_of t) (ticked d)) d
note_desk (group len set) t f d = cond (is End t) (ended_all (λ u. member u set) (value_of t) (ticked d)) d
note_desk (settle len s) t f d = cond (is Ok t) (with_session s idle d) d
note_desk (reclaim len s) t f d = d
note_desk (listen c) t f d = note_listening c t d

-- ---- the slots

-- the slot that the session has reserved
abbrev pub slot_of : Session → ℕ
slot_of idle = 0
slot_of (active b q cs) = q
slot_of (sealed n q cs) = q
slot_of (published e q cs) = q

-- slot q is not that of a sealed or published transaction
abbrev pub free : ℕ → Session → Bool
free q idle = true
free q (active b p cs) = true
free q (sealed n p cs) = not (eqb q p)
free q (published e p cs) = not (eqb q p)

-- of two slots, by whether each is in question: the one with the smaller number, the lower among equals
abbrev pub choice : ℕ → ℕ → Bool → Bool → Option ℕ
choice m n false false = none
choice m n false true = some 1
choice m n true false = some 0
choice m n true true = cond (leb m n) (some 0) (some 1)

-- the slot that reclaim takes: occupied, and not that of a sealed or published transaction
abbrev pub candidate : (ℕ → ℕ) → ℕ → Session → Option ℕ
candidate f s x =
    choice (f (place_of s 0)) (f (place_of s 1))
    (not (eqb (f (place_of s 0)) 0) && free 0 x) (not (eqb (f (place_of s 1)) 0) && free 1 x)

abbrev pub emptied : ℕ → Option ℕ → (ℕ → ℕ) → ℕ → ℕ
emptied s none f = f
emptied s (some q) f = upd (place_of s q) 0 f

-- the slots' numbers after a call: a slot is occupied from sealed on, and empty again from cleared on
abbrev pub note_number : Call → Told → (ℕ → ℕ) → Desk → ℕ → ℕ
note_number (begin s) t f d = f
note_number (read s r) t f d = f
note_number (write s r ws) t f d = f
note_number (abandon s) t f d = f
note_number (finish len s) t f d = cond (is Sealed t) (upd (place_of s (slot_of (d.session s))) (value_of t) f) f
note_number (publish len s) t f d = f
note_number (group len set) t f d = f
note_number (settle len s) t f d = f
note_number (reclaim len s) t f d = cond (is Cleared t) (emptied s (candidate f s (d.session s)) f) f
note_number (listen c) t f d = f

-- ---- the ceiling

-- with the clock at c it stays if the clock does not pass it, else it is 1,024 above the clock
abbrev pub raised : ℕ → ℕ → ℕ
raised c w = cond (leb c w) w (c + 1024)

-- after a call: an end that is given may raise it
abbrev pub note_ceiling : Told → ℕ → ℕ
note_ceiling t w = cond (is End t) (raised (value_of t) w) w

-- ---- the ledger after a call

unfoldable pub note : Call → Told → Ledger → Ledger
note c t L =
    record {
      desk = note_desk c t L.number L.desk;
      number = note_number c t L.number L.desk;
      ceiling = note_ceiling t L.ceiling;
      history = feed c t L.history;
    }
