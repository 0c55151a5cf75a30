-- What is due by the rules of documents 01 and 02: from the ledger alone, what a call tells and the entries that it stores, in a store of N records and
-- M sessions.
use Rattle.std.specs.Prelude.{ℕ, zero, suc, ◌+◌, ◌*◌, Bool, true, false, cond, not, ◌&&◌, ◌||◌, List, [], ◌∷◌, ◌++◌, length, get_or, eqb, leb, ltb}
use Rattle.std.proofs.Math.Option.{Option, none, some}
use Rattle.layout.specs.Below.{all_below, any_below}
use Rattle.layout.specs.Entries.{Entry, store, fence, stores, shift}
use Rattle.layout.specs.Image.{place_of, slot_at}
use Rattle.layout.specs.Told.{Told, refused, refusal, ok, start, own, copied, home, empty, sealed_at, ended_at, wait, nothing, held, cleared, found_at}
use Rattle.desk.specs.Coherent.{limit}
use Rattle.desk.specs.Group.{member}
use Rattle.journal.specs.Log.{log_entries}
use Rattle.history.specs.Call.{Listening, Begin, Read, Finish, Find, Call, begin, read, write, abandon, finish, publish, group, settle, reclaim, listen}
use Rattle.history.specs.Desk.{Copy, find, rec_at, words_at, writes, Session, idle, active, sealed, published, Desk, first_of, holder, awaited}
use Rattle.history.specs.History.{History, record_of, view_at}
use Rattle.history.specs.Ledger.{Ledger, candidate}

pub record Due : Type 0 where
  pub answer : Told
  pub entries : List Entry

-- told, with nothing stored
abbrev pub say : Told → Due
say t = record { answer = t; entries = [] }

abbrev pub refuse : ℕ → Due
refuse k = say (refusal k)

-- begin: idle becomes active; start is the clock
abbrev pub begins : ℕ → Session → Due
begins clock idle = say (start clock)
begins clock (active b q cs) = refuse 6
begins clock (sealed n q cs) = refuse 6
begins clock (published e q cs) = refuse 6

-- four words of a list: a record as it stands at home
abbrev pub four_words : List ℕ → List ℕ
four_words ws = get_or ws 0 0 ∷ get_or ws 1 0 ∷ get_or ws 2 0 ∷ get_or ws 3 0 ∷ []

-- published, with an end at most this start
abbrev pub shown_to : ℕ → Session → Bool
shown_to b idle = false
shown_to b (active c q cs) = false
shown_to b (sealed n q cs) = false
shown_to b (published e q cs) = leb e b

abbrev pub shown_by : ℕ → Desk → Option ℕ → Bool
shown_by b d none = false
shown_by b d (some t) = shown_to b (d.session t)

-- a read that is not own gives the history's view at the reader's start: from the holder's copy or from the home record
abbrev pub reads_other : Bool → List ℕ → Due
reads_other true ws = say (copied ws)
reads_other false ws = say (home (four_words ws))

abbrev pub reads_own : Option (List ℕ) → Due → Due
reads_own none other = other
reads_own (some ws) other = say (own ws)

abbrev pub reads : ℕ → Desk → History → ℕ → Session → Due
reads M d h r idle = refuse 6
reads M d h r (active b q cs) = reads_own (find r cs) (reads_other (shown_by b d (holder M d r)) (view_at h b r))
reads M d h r (sealed n q cs) = refuse 6
reads M d h r (published e q cs) = refuse 6

-- the first copy: 9 where both slots are occupied
abbrev pub reserves : (ℕ → ℕ) → ℕ → Due
reserves f s = cond (eqb (f (place_of s 0)) 0) (say ok) (cond (eqb (f (place_of s 1)) 0) (say ok) (refuse 9))

-- 8 the fifth record
abbrev pub adds : (ℕ → ℕ) → ℕ → List Copy → Due
adds f s [] = reserves f s
adds f s (c ∷ cs) = cond (leb 4 (length (c ∷ cs))) (refuse 8) (say ok)

-- 7 exactly when another transaction holds the record
abbrev pub writes_held : (ℕ → ℕ) → ℕ → List Copy → Option ℕ → Due
writes_held f s cs (some t) = say (refused 7 t)
writes_held f s cs none = adds f s cs

-- an own copy is overwritten
abbrev pub writes_own : Option (List ℕ) → Due → Due
writes_own none other = other
writes_own (some old) other = say ok

abbrev pub wrote : ℕ → (ℕ → ℕ) → Desk → ℕ → ℕ → Session → Due
wrote M f d s r idle = refuse 6
wrote M f d s r (active b q cs) = writes_own (find r cs) (writes_held f s cs (holder M d r))
wrote M f d s r (sealed n q cs) = refuse 6
wrote M f d s r (published e q cs) = refuse 6

abbrev pub abandons : Session → Due
abandons idle = refuse 6
abandons (active b q cs) = say ok
abandons (sealed n q cs) = refuse 6
abandons (published e q cs) = refuse 6

-- the log of the copies, in the slot at place p. Its form, and what the short one lists, hang on the words that differ from the home
-- records (document 02, Req 08). Nobody but this session holds the records, and it is not sealed yet, so their home records are the book's.
abbrev pub finish_stores : ℕ → History → ℕ → ℕ → List Copy → List Entry
finish_stores N h p n cs = shift (slot_at N p) (log_entries N (record_of h) n (rec_at cs) (words_at cs) (length cs))

-- empty, 10, or sealed with the clock
abbrev pub seals_copies : ℕ → History → ℕ → ℕ → List Copy → Due
seals_copies N h clock p [] = say empty
seals_copies N h clock p (c ∷ cs) =
    cond (leb limit clock) (refuse 10) (record { answer = sealed_at clock; entries = finish_stores N h p clock (c ∷ cs) })

abbrev pub finishes : ℕ → History → ℕ → ℕ → Session → Due
finishes N h clock s idle = refuse 6
finishes N h clock s (active b q cs) = seals_copies N h clock (place_of s q) cs
finishes N h clock s (sealed n q cs) = refuse 6
finishes N h clock s (published e q cs) = refuse 6

-- header word 3 is stored as 1,024 above the clock c, and a fence follows (document 02, Req 05)
abbrev pub raise_stores : ℕ → List Entry
raise_stores c = store 3 (c + 1024) ∷ fence ∷ []

-- only where the clock c passes the ceiling w
abbrev pub pass_stores : ℕ → ℕ → List Entry
pass_stores c w = cond (leb c w) [] (raise_stores c)

-- end is clock + 1
abbrev pub ends : ℕ → ℕ → Due
ends clock w = record { answer = ended_at (suc clock); entries = pass_stores (suc clock) w }

abbrev pub publishes : ℕ → ℕ → Session → Due
publishes clock w idle = refuse 6
publishes clock w (active b q cs) = refuse 6
publishes clock w (sealed n q cs) = ends clock w
publishes clock w (published e q cs) = refuse 6

abbrev pub is_sealed : Session → Bool
is_sealed idle = false
is_sealed (active b q cs) = false
is_sealed (sealed n q cs) = true
is_sealed (published e q cs) = false

-- a session that is a member of the set is below M, and is sealed
abbrev pub low_in : ℕ → ℕ → ℕ → Bool
low_in M set u = not (member u set) || ltb u M

abbrev pub sealed_in : Desk → ℕ → ℕ → Bool
sealed_in d set u = not (member u set) || is_sealed (d.session u)

-- published together: 19 the empty set, 4 a member at or above M, 6 a member that is not sealed (document 02, Req 06)
abbrev pub groups : ℕ → ℕ → Desk → ℕ → Due
groups M w d set =
    cond (any_below 16 (λ u. member u set))
    (cond (all_below 16 (low_in M set)) (cond (all_below 16 (sealed_in d set)) (ends d.clock w) (refuse 6)) (refuse 4)) (refuse 19)

-- wait with the active session that has the smallest start below the end, among equal starts the lowest; otherwise the copies go home and a
-- fence follows
abbrev pub settle_stores : List Copy → List Entry
settle_stores cs = stores (writes cs) ++ fence ∷ []

abbrev pub waits : List Copy → Option ℕ → Due
waits cs (some t) = say (wait t)
waits cs none = record { answer = ok; entries = settle_stores cs }

abbrev pub settles : ℕ → Desk → Session → Due
settles M d idle = refuse 6
settles M d (active b q cs) = refuse 6
settles M d (sealed n q cs) = refuse 6
settles M d (published e q cs) = waits cs (awaited M d e)

-- the smallest persist number of the first k slots, 0 where all are empty
abbrev pub lesser : ℕ → ℕ → ℕ
lesser m n = cond (eqb n 0) m (cond (eqb m 0) n (cond (leb m n) m n))

unfoldable pub smallest : (ℕ → ℕ) → ℕ → ℕ
smallest f zero = 0
smallest f (suc k) = lesser (smallest f k) (f k)

abbrev pub clear_stores : ℕ → ℕ → List Entry
clear_stores N p = store (slot_at N p) 0 ∷ fence ∷ []

-- none, held with the smallest number of the image, or cleared with the number that the slot had
abbrev pub clears : ℕ → (ℕ → ℕ) → ℕ → ℕ → Due
clears N f p least = cond (ltb least (f p)) (say (held least)) (record { answer = cleared (f p); entries = clear_stores N p })

abbrev pub reclaims : ℕ → ℕ → (ℕ → ℕ) → ℕ → Option ℕ → Due
reclaims N M f s none = say nothing
reclaims N M f s (some q) = clears N f (place_of s q) (smallest f (2 * M))

-- 3 trace under 48 words, 4 session at or above M, 5 record at or above N
abbrev pub if_room : ℕ → Due → Due
if_room len y = cond (leb 48 len) y (refuse 3)

abbrev pub if_session : ℕ → ℕ → Due → Due
if_session M s y = cond (leb M s) (refuse 4) y

abbrev pub if_record : ℕ → ℕ → Due → Due
if_record N r y = cond (leb N r) (refuse 5) y

-- ---- the listening room (document 02, Req 03)

-- 15 shelf number out of range, asked before all others
abbrev pub if_shelf : ℕ → Due → Due
if_shelf k y = cond (leb 1 k && leb k 999999) y (refuse 15)

-- 18 the session holds copies, asked behind 6
abbrev pub if_no_copies : List Copy → Due → Due
if_no_copies [] y = y
if_no_copies (c ∷ cs) y = refuse 18

-- read: a session without copies reads the history's view at its start
abbrev pub hears : ℕ → Desk → History → ℕ → Session → Due
hears M d h r idle = refuse 6
hears M d h r (active b q cs) = if_no_copies cs (reads_other (shown_by b d (holder M d r)) (view_at h b r))
hears M d h r (sealed n q cs) = refuse 6
hears M d h r (published e q cs) = refuse 6

-- finish: without copies, "empty"
abbrev pub leaves : Session → Due
leaves idle = refuse 6
leaves (active b q cs) = if_no_copies cs (say empty)
leaves (sealed n q cs) = refuse 6
leaves (published e q cs) = refuse 6

-- find: the first record whose word 0, as the history's view at the start b has it, is k, or "none"
abbrev pub shelved_at : History → ℕ → ℕ → ℕ → Bool
shelved_at h b k r = eqb (get_or (view_at h b r) 0 0) k

abbrev pub first_shelved : ℕ → History → ℕ → ℕ → Option ℕ
first_shelved N h b k = first_of (shelved_at h b k) N

abbrev pub finds : Option ℕ → Due
finds none = say nothing
finds (some r) = say (found_at r)

abbrev pub searches : ℕ → History → ℕ → Session → Due
searches N h k idle = refuse 6
searches N h k (active b q cs) = if_no_copies cs (finds (first_shelved N h b k))
searches N h k (sealed n q cs) = refuse 6
searches N h k (published e q cs) = refuse 6

abbrev pub due_listening : ℕ → ℕ → Desk → History → Listening → Due
due_listening N M d h (Begin s) = if_session M s (begins d.clock (d.session s))
due_listening N M d h (Read s r) = if_session M s (if_record N r (hears M d h r (d.session s)))
due_listening N M d h (Finish len s) = if_room len (if_session M s (leaves (d.session s)))
due_listening N M d h (Find s k) = if_shelf k (if_session M s (searches N h k (d.session s)))

-- ---- all calls

-- of the slots' numbers, the ceiling, the desk and the history
abbrev pub due_of : ℕ → ℕ → (ℕ → ℕ) → ℕ → Desk → History → Call → Due
due_of N M f w d h (begin s) = if_session M s (begins d.clock (d.session s))
due_of N M f w d h (read s r) = if_session M s (if_record N r (reads M d h r (d.session s)))
due_of N M f w d h (write s r ws) = if_session M s (if_record N r (wrote M f d s r (d.session s)))
due_of N M f w d h (abandon s) = if_session M s (abandons (d.session s))
due_of N M f w d h (finish len s) = if_room len (if_session M s (finishes N h d.clock s (d.session s)))
due_of N M f w d h (publish len s) = if_room len (if_session M s (publishes d.clock w (d.session s)))
due_of N M f w d h (group len set) = if_room len (groups M w d set)
due_of N M f w d h (settle len s) = if_room len (if_session M s (settles M d (d.session s)))
due_of N M f w d h (reclaim len s) = if_room len (if_session M s (reclaims N M f s (candidate f s (d.session s))))
due_of N M f w d h (listen c) = due_listening N M d h c

unfoldable pub due : ℕ → ℕ → Ledger → Call → Due
due N M L c = due_of N M L.number L.ceiling L.desk L.history c
