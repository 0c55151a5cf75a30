-- Coherence (document 01, "The desk"), one small test for each of its rules.
use Rattle.std.specs.Prelude.{ℕ, ◌+◌, ◌^◌, Bool, true, not, ◌&&◌, ◌||◌, cond, get_or, leb, ltb, eqb, Option, Some, None}
use Rattle.std.specs.Bool.{beq}
use Rattle.layout.specs.Below.{all_below, any_below, count_below}
use Rattle.desk.specs.Desk.{copy_at, session_at, mark_at, order_at, is_idle, is_sealed, start_at, active_at, active_count}
use Rattle.desk.specs.declared.state.Phase.{Phase}
use Rattle.desk.specs.declared.state.Phase.TheVariants.{Idle, Active, Sealed, Published}
use Rattle.desk.specs.declared.state.RecordCopy.{RecordCopy}
use Rattle.desk.specs.declared.state.Session.{Session}
use Rattle.desk.specs.declared.state.Desk.{Desk}

-- L: a finish with copies is refused from this clock on
abbrev pub limit : ℕ
limit = 2 ^ 62

-- an idle session has no copies; an active one has 0 to 4; a sealed or published one has 1 to 4
abbrev pub count_ok : Phase → ℕ → Bool
count_ok Idle c = eqb c 0
count_ok (Active b) c = leb c 4
count_ok (Sealed p) c = leb 1 c && leb c 4
count_ok (Published e) c = leb 1 c && leb c 4

-- start and persist numbers are 1 to the clock; end numbers are 2 to the clock
abbrev pub number_ok : Phase → ℕ → Bool
number_ok Idle clock = true
number_ok (Active b) clock = leb 1 b && leb b clock
number_ok (Sealed p) clock = leb 1 p && leb p clock
number_ok (Published e) clock = leb 2 e && leb e clock

-- slots are 0 or 1, and 0 where there are no copies
abbrev pub slot_ok : ℕ → ℕ → Bool
slot_ok count slot = leb slot 1 && (leb 1 count || eqb slot 0)

-- unused copy places are zero
abbrev pub zero_copy_b : RecordCopy → Bool
zero_copy_b c =
    eqb c.rec 0 && eqb (get_or c.words 0 0) 0 && eqb (get_or c.words 1 0) 0 && eqb (get_or c.words 2 0) 0 && eqb
    (get_or c.words 3 0) 0

-- copied records are below N and differ within a session: no place before j has the record of place j
abbrev pub fresh_place : Session → ℕ → ℕ → Bool
fresh_place e j i = not (eqb (copy_at e i).rec (copy_at e j).rec)

unfoldable pub fresh_b : Session → ℕ → Bool
fresh_b e j = all_below j (fresh_place e j)

abbrev pub place_ok : Session → ℕ → ℕ → Bool
place_ok e n j = cond (ltb j e.count) (ltb (copy_at e j).rec n && fresh_b e j) (zero_copy_b (copy_at e j))

unfoldable pub places_ok : Session → ℕ → Bool
places_ok e n = all_below 4 (place_ok e n)

unfoldable pub session_ok : ℕ → ℕ → Session → Bool
session_ok clock n e = count_ok e.phase e.count && number_ok e.phase clock && slot_ok e.count e.slot && places_ok e n

-- entries from M up are idle
abbrev pub entry_ok : Desk → ℕ → Bool
entry_ok d s = session_ok d.clock d.n (session_at d s) && (ltb s d.m || is_idle (session_at d s).phase)

-- the session copies the record r
abbrev pub place_has : Session → ℕ → ℕ → Bool
place_has e r j = ltb j e.count && eqb (copy_at e j).rec r

unfoldable pub copies_b : Session → ℕ → Bool
copies_b e r = any_below 4 (place_has e r)

-- a record is marked for a session when that session copies it, otherwise unmarked; marks from N up are none
abbrev pub mark_ok : Desk → ℕ → Bool
mark_ok d r =
    leb (mark_at d r) 16
    && all_below 16 (λ s. beq (eqb (mark_at d r) (s + 1)) (copies_b (session_at d s) r))
    && (ltb r d.n || eqb (mark_at d r) 0)

abbrev pub sealed_at : Desk → ℕ → Bool
sealed_at d s = is_sealed (session_at d s).phase

-- the clock is at least 1, and with the number of sealed sessions added at most L + 16; N and M are in range
abbrev pub sizes_ok : Desk → Bool
sizes_ok d =
    leb 1 d.clock
    && leb (d.clock + count_below 16 (sealed_at d)) (limit + 16)
    && (leb 1 d.n && leb d.n 256)
    && (leb 1 d.m && leb d.m 16)

-- ---- the list of active sessions (document 02, Req 09)

-- place j is in use: the first ones are, as many as there are active sessions
abbrev pub used_b : Desk → ℕ → Bool
used_b d j = ltb j (active_count d)

-- a place in use has a session, and an active one
abbrev pub holds_b : Desk → ℕ → Bool
holds_b d j = not (used_b d j) || (ltb (order_at d j) 16 && active_at d (order_at d j))

-- which stands at no place before it
abbrev pub once_b : Desk → ℕ → Bool
once_b d j = not (used_b d j) || all_below j (λ i. not (eqb (order_at d i) (order_at d j)))

-- and has no session before it with a larger start
abbrev pub rises_b : Desk → ℕ → Bool
rises_b d j = not (used_b d j) || all_below j (λ i. leb (start_at d (order_at d i)) (start_at d (order_at d j)))

-- any other place is 0
abbrev pub unused_ok : Desk → ℕ → Bool
unused_ok d j = used_b d j || eqb (order_at d j) 0

abbrev pub list_ok : Desk → Bool
list_ok d = all_below 16 (holds_b d) && all_below 16 (once_b d) && all_below 16 (rises_b d) && all_below 16 (unused_ok d)

-- a coherent desk
unfoldable pub coherent_b : Desk → Bool
coherent_b d = sizes_ok d && (all_below 16 (entry_ok d) && (all_below 256 (mark_ok d) && list_ok d))

-- how many sessions of a coherent desk are active; none of any other desk
unfoldable pub census_of : Desk → Option ℕ
census_of d = cond (coherent_b d) (Some (active_count d)) None
