-- What the code goes by: each copy's mark is struck out of a copy of the holders, each place in use out of a copy of the list, and nothing
-- may be left.
use Rattle.std.specs.Prelude.{ℕ, zero, suc, ◌+◌, Bool, true, false, not, ◌&&◌, ◌||◌, cond, List, get_or, set, replicate, leb, ltb, eqb}
use Rattle.layout.specs.Below.{all_below, count_below}
use Rattle.desk.specs.Desk.{no_session, copy_at, session_at, is_idle, is_active, start_of, active_count}
use Rattle.desk.specs.Coherent.{sealed_at, count_ok, number_ok, slot_ok, zero_copy_b, limit}
use Rattle.desk.specs.declared.state.Phase.{Phase}
use Rattle.desk.specs.declared.state.RecordCopy.{RecordCopy}
use Rattle.desk.specs.declared.state.Session.{Session}
use Rattle.desk.specs.declared.state.Desk.{Desk}

-- place j, in use, with a record that can be marked
abbrev pub strikable : ℕ → ℕ → ℕ → RecordCopy → Bool
strikable n count j c = ltb j count && (ltb c.rec n && ltb c.rec 256)

-- the holders with that mark struck out
unfoldable pub struck : List ℕ → ℕ → ℕ → ℕ → RecordCopy → List ℕ
struck h n count j c = cond (strikable n count j c) (set h c.rec 0) h

-- place j passes: in use, its record is below n and has the mark, not struck yet; else it is zero
unfoldable pub place_passes : List ℕ → ℕ → ℕ → ℕ → RecordCopy → ℕ → Bool
place_passes h n count j c mark =
    cond (ltb j count) ((ltb c.rec n && ltb c.rec 256) && eqb (get_or h c.rec 0) mark) (zero_copy_b c)

-- the holders after the places below j of a session
unfoldable pub struck_places : List ℕ → ℕ → Session → ℕ → List ℕ
struck_places h n e zero = h
struck_places h n e (suc j) = struck (struck_places h n e j) n e.count j (copy_at e j)

-- place j of a session, the places below it struck
abbrev pub place_passes_at : List ℕ → ℕ → Session → ℕ → ℕ → Bool
place_passes_at h n e mark j = place_passes (struck_places h n e j) n e.count j (copy_at e j) mark

-- a session passes, its own rules and its places
unfoldable pub session_passes : List ℕ → ℕ → ℕ → Session → ℕ → Bool
session_passes h clock n e mark =
    count_ok e.phase e.count && number_ok e.phase clock && slot_ok e.count e.slot
    && place_passes_at h n e mark 0 && place_passes_at h n e mark 1 && place_passes_at h n e mark 2 && place_passes_at h n e mark 3

-- entry s passes: an idle one by itself, another if it is below M
unfoldable pub entry_passes : List ℕ → ℕ → ℕ → ℕ → ℕ → Session → Bool
entry_passes h clock n m s e = cond (is_idle e.phase) true (session_passes h clock n e (s + 1) && ltb s m)

-- the holders after an entry
unfoldable pub struck_entry : List ℕ → ℕ → Session → List ℕ
struck_entry h n e = cond (is_idle e.phase) h (struck_places h n e 4)

-- the holders with the copies of the sessions below s struck out
unfoldable pub struck_below : Desk → ℕ → List ℕ
struck_below d zero = d.holders
struck_below d (suc s) = struck_entry (struck_below d s) d.n (session_at d s)

-- entry s of the desk, the entries below it struck
abbrev pub entry_passes_at : Desk → ℕ → Bool
entry_passes_at d s = entry_passes (struck_below d s) d.clock d.n d.m s (session_at d s)

-- a session as an idle one is left
abbrev pub quiet : Session → Bool
quiet e =
    eqb e.count 0 && eqb e.slot 0 && zero_copy_b (copy_at e 0) && zero_copy_b (copy_at e 1) && zero_copy_b (copy_at e 2)
    && zero_copy_b (copy_at e 3)

-- where it is idle, it is quiet
abbrev pub quiet_b : Session → Bool
quiet_b e = not (is_idle e.phase) || quiet e

-- an idle entry of the desk is quiet
abbrev pub quiet_at : Desk → ℕ → Bool
quiet_at d s = quiet_b (session_at d s)

-- place k is 0: no mark is left there, or no session
abbrev pub zero_at : List ℕ → ℕ → Bool
zero_at h k = eqb (get_or h k 0) 0

-- the clock, N and M by themselves
abbrev pub sizes_pass : Desk → Bool
sizes_pass d =
    leb 1 d.clock && leb d.clock (limit + 16) && (leb 1 d.n && leb d.n 256) && (leb 1 d.m && leb d.m 16)

-- the list of active sessions: those that its places below j have are noted
unfoldable pub noted_below : List ℕ → ℕ → List Bool
noted_below o zero = replicate 16 false
noted_below o (suc j) = set (noted_below o j) (get_or o j 0) true

-- and the places below j are struck out
unfoldable pub blank_below : List ℕ → ℕ → List ℕ
blank_below o zero = o
blank_below o (suc j) = set (blank_below o j) j 0

-- the phase of the session that place j has
abbrev pub phase_listed : List Session → List ℕ → ℕ → Phase
phase_listed es o j = (get_or es (get_or o j 0) no_session).phase

-- the start of the place before j, 0 at the front
unfoldable pub start_before : List Session → List ℕ → ℕ → ℕ
start_before es o zero = 0
start_before es o (suc j) = start_of (phase_listed es o j)

-- place j of the list passes: its session is not noted yet, is active, and its start does not fall
abbrev pub list_passes : List Session → List ℕ → ℕ → Bool
list_passes es o j =
    ltb (get_or o j 0) 16 && (not (get_or (noted_below o j) (get_or o j 0) false)
    && (is_active (phase_listed es o j) && leb (start_before es o j) (start_of (phase_listed es o j))))

-- the code's test: as many places of the list pass as sessions are active, and nothing is left of the holders and of the list
unfoldable pub coherent_by_striking : Desk → Bool
coherent_by_striking d =
    sizes_pass d && (all_below 16 (quiet_at d) && (all_below 16 (entry_passes_at d)
    && (leb (d.clock + count_below 16 (sealed_at d)) (limit + 16) && (all_below (active_count d) (list_passes d.sessions d.order)
    && (all_below 256 (zero_at (struck_below d 16)) && all_below 16 (zero_at (blank_below d.order (active_count d))))))))
