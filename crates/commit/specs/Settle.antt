-- Settle (document 01, and document 02's Req 01): published only. If an active session has a start below this end, the answer is "wait" with
-- the one that has the smallest start, and among equal starts the lowest session; no stores. Otherwise the copies go home and a fence
-- follows: 4c + 1 entries. Marks and copies are dropped; the session is idle; the slot stays occupied. The definition
-- looks at every session; the code at the front of the list alone (document 02, Req 09; `Front` in proofs/). Checks 1, 2, 3, 4, 6.
use Rattle.std.specs.Prelude.{ℕ, Bool, not, cond, List, [], ◌∷◌, ◌++◌, eqb, ltb, Option, Some, None, Ok, Err}
use Rattle.layout.specs.Checks.{unless, first, answered}
use Rattle.layout.specs.Entries.{Entry, fence, stores}
use Rattle.layout.specs.Homes.{homes_writes}
use Rattle.layout.specs.Oldest.{oldest_of}
use Rattle.layout.specs.declared.oldest.Oldest.{Oldest}
use Rattle.journal.specs.Lengths.{settle_length}
use Rattle.desk.specs.Desk.{copied_rec, copied_words, session_at, is_published, idle_session, changed, rest_marks}
use Rattle.desk.specs.declared.state.Phase.{Phase}
use Rattle.desk.specs.declared.state.Phase.TheVariants.{Idle, Active, Sealed, Published}
use Rattle.desk.specs.declared.state.Desk.{Desk}
use Rattle.desk.specs.Entering.{image_fault}
use Rattle.layout.specs.Checks.{room_for}
use Rattle.desk.specs.declared.reply.StoringReply.{StoringReply}
use Rattle.layout.specs.Refusal.{cause}
use Rattle.layout.specs.Told.{Told, refusal, ok, wait}

unfoldable pub settle_fault : List ℕ → Desk → ℕ → ℕ → ℕ
settle_fault img d len s = first (image_fault img d (room_for len) s) (unless (is_published (session_at d s).phase) 6)

-- the end number of a published session
abbrev pub end_of : Phase → ℕ
end_of Idle = 0
end_of (Active b) = 0
end_of (Sealed p) = 0
end_of (Published e) = e

-- the start of a session that is in the way of this end: active, with a start below it. 0 for any other; a start is at least 1
abbrev pub start_below : ℕ → Phase → ℕ
start_below end Idle = 0
start_below end (Active b) = cond (ltb b end) b 0
start_below end (Sealed p) = 0
start_below end (Published e) = 0

-- the starts of the sessions in the way of session s, 0 for the others
abbrev pub starts_for : Desk → ℕ → ℕ → ℕ
starts_for d s t = start_below (end_of (session_at d s).phase) (session_at d t).phase

-- the reader that session s waits for: of those in the way the one with the smallest start, among equal starts the lowest; its number is the
-- start, 0 where no session is in the way, and its place the session
unfoldable pub oldest_reader : Desk → ℕ → Oldest
oldest_reader d s = oldest_of (starts_for d s) 16

-- the session in the way of this end that has the smallest start, among equal starts the lowest, if there is one
abbrev pub reader_below : Desk → ℕ → Option ℕ
reader_below d end =
    let oldest = oldest_of (λ t. start_below end (session_at d t).phase) 16 in
    cond (eqb oldest.number 0) None (Some oldest.place)

-- the copies go home, and a fence
abbrev pub go_home_entries : Desk → ℕ → List Entry
go_home_entries d s =
    stores (homes_writes (copied_rec (session_at d s)) (copied_words (session_at d s)) (session_at d s).count) ++ (fence ∷ [])

-- a session is in the way
abbrev pub waits_b : Desk → ℕ → Bool
waits_b d s = not (eqb (oldest_reader d s).number 0)

unfoldable pub settle_entries : List ℕ → Desk → ℕ → ℕ → List Entry
settle_entries img d len s = answered (settle_fault img d len s) (λ k. []) (cond (waits_b d s) [] (go_home_entries d s))

abbrev pub settle_refused : Desk → ℕ → StoringReply (Option ℕ)
settle_refused d k = record { answer = Err (cause k); entries = 0; desk = d }

-- session s is idle, its marks and copies are dropped; it was not among the active ones
abbrev pub sent_home : Desk → ℕ → Desk
sent_home d s = changed d s idle_session d.clock (rest_marks d s) d.order

-- the number of entries is the table's, by the number of copies
abbrev pub settle_done : Desk → ℕ → StoringReply (Option ℕ)
settle_done d s =
    cond (waits_b d s)
    (record { answer = Ok (Some (oldest_reader d s).place); entries = 0; desk = d })
    (record { answer = Ok None; entries = settle_length (session_at d s).count; desk = sent_home d s })

unfoldable pub settle_reply : List ℕ → Desk → ℕ → ℕ → StoringReply (Option ℕ)
settle_reply img d len s = answered (settle_fault img d len s) (settle_refused d) (settle_done d s)

-- what it tells: the session that it waits for, or ok
unfoldable pub settle_said : List ℕ → Desk → ℕ → ℕ → Told
settle_said img d len s =
    answered (settle_fault img d len s) refusal (cond (waits_b d s) (wait (oldest_reader d s).place) ok)
