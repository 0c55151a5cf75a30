-- The parts of a desk, and the desk with one part changed.
use Rattle.std.specs.Prelude.{ℕ, zero, suc, ◌<◌, ◌≤◌, ◌≡◌, Bool, true, false, cond, List, [], ◌∷◌, ◌++◌, eqb, get_or, set, replicate}
use Rattle.layout.specs.Below.{count_below}
use Rattle.desk.specs.declared.state.Phase.{Phase}
use Rattle.desk.specs.declared.state.Phase.TheVariants.{Idle, Active, Sealed, Published}
use Rattle.desk.specs.declared.state.RecordCopy.{RecordCopy}
use Rattle.desk.specs.declared.state.Session.{Session}
use Rattle.desk.specs.declared.state.Desk.{Desk}

-- what is read past the end of an array: the logic's own default values
abbrev pub no_copy : RecordCopy
no_copy = record { rec = 0; words = [] }

abbrev pub no_session : Session
no_session = record { phase = Idle; count = 0; slot = 0; copies = [] }

-- copy place j of a session
abbrev pub copy_at : Session → ℕ → RecordCopy
copy_at e j = get_or e.copies j no_copy

-- the record number and the words of copy place j
abbrev pub copied_rec : Session → ℕ → ℕ
copied_rec e j = (copy_at e j).rec

abbrev pub copied_words : Session → ℕ → List ℕ
copied_words e j = (copy_at e j).words

-- session entry s
abbrev pub session_at : Desk → ℕ → Session
session_at d s = get_or d.sessions s no_session

-- the holder mark of record r: 0 none, s + 1 session s
abbrev pub mark_at : Desk → ℕ → ℕ
mark_at d r = get_or d.holders r 0

-- place j of the list of active sessions
abbrev pub order_at : Desk → ℕ → ℕ
order_at d j = get_or d.order j 0

abbrev pub is_idle : Phase → Bool
is_idle Idle = true
is_idle (Active b) = false
is_idle (Sealed p) = false
is_idle (Published e) = false

abbrev pub is_active : Phase → Bool
is_active Idle = false
is_active (Active b) = true
is_active (Sealed p) = false
is_active (Published e) = false

abbrev pub is_sealed : Phase → Bool
is_sealed Idle = false
is_sealed (Active b) = false
is_sealed (Sealed p) = true
is_sealed (Published e) = false

abbrev pub is_published : Phase → Bool
is_published Idle = false
is_published (Active b) = false
is_published (Sealed p) = false
is_published (Published e) = true

-- the start of an active session, 0 of any other
abbrev pub start_of : Phase → ℕ
start_of Idle = 0
start_of (Active b) = b
start_of (Sealed p) = 0
start_of (Published e) = 0

abbrev pub start_at : Desk → ℕ → ℕ
start_at d s = start_of (session_at d s).phase

-- session s is active, and how many are
abbrev pub active_at : Desk → ℕ → Bool
active_at d s = is_active (session_at d s).phase

abbrev pub active_count : Desk → ℕ
active_count d = count_below 16 (active_at d)

-- a copy place that is not used, and an idle session
abbrev pub zero_copy : RecordCopy
zero_copy = record { rec = 0; words = replicate 4 0 }

abbrev pub idle_session : Session
idle_session = record { phase = Idle; count = 0; slot = 0; copies = replicate 4 zero_copy }

-- a session entry in another phase, with its copies and its slot
abbrev pub with_phase : Session → Phase → Session
with_phase e p = record { phase = p; count = e.count; slot = e.slot; copies = e.copies }

-- the desk with another entry for session s, another clock, other marks and another list of active sessions: what every call on one session
-- leaves that changes the desk
abbrev pub changed : Desk → ℕ → Session → ℕ → List ℕ → List ℕ → Desk
changed d s e clock marks order =
    record { clock = clock; n = d.n; m = d.m; holders = marks; sessions = set d.sessions s e; order = order }

-- another entry alone
abbrev pub put_session : Desk → ℕ → Session → Desk
put_session d s e = changed d s e d.clock d.holders d.order

-- the list with session s added behind the active sessions
abbrev pub joined : Desk → ℕ → List ℕ
joined d s = set d.order (active_count d) s

-- a list without session s: those behind it move up, and the last place is not used
unfoldable pub without : ℕ → List ℕ → List ℕ
without s [] = []
without s (x ∷ xs) = cond (eqb x s) (xs ++ (0 ∷ [])) (x ∷ without s xs)

-- session s stands at place p of a list, at no other of the first k, and past these there is nothing
pub record ListedAt (order : List ℕ) (s k p : ℕ) : Type 0 where
  pub inside : p < k
  pub here : get_or order p 0 ≡ s
  pub alone : (i : ℕ) → i < k → get_or order i 0 ≡ s → i ≡ p
  pub unused : (i : ℕ) → k ≤ i → i < 16 → get_or order i 0 ≡ 0

-- another entry for session s and other marks; the session is active no more and goes out of the list
abbrev pub end_session : Desk → ℕ → Session → List ℕ → Desk
end_session d s e marks = changed d s e d.clock marks (without s d.order)

-- the holder marks with those of the first k copies taken away
unfoldable pub unmarked : List ℕ → List RecordCopy → ℕ → List ℕ
unmarked h cs zero = h
unmarked h cs (suc k) = set (unmarked h cs k) (get_or cs k no_copy).rec 0

-- the holder marks without those of session s
abbrev pub rest_marks : Desk → ℕ → List ℕ
rest_marks d s = unmarked d.holders (session_at d s).copies (session_at d s).count

-- session s, which was active, becomes idle; its marks and copies are dropped
abbrev pub dropped : Desk → ℕ → Desk
dropped d s = end_session d s idle_session (rest_marks d s)
