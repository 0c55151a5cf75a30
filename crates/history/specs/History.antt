-- The history (document 01: the book), fed each call with what it tells. It never looks at an image or a desk.
use Rattle.std.specs.Prelude.{ℕ, Bool, true, false, cond, not, ◌&&◌, ◌||◌, List, [], ◌∷◌, ◌++◌, eqb, leb}
use Rattle.std.proofs.Math.Option.{Option, none, some}
use Rattle.layout.specs.Told.{Told, is, refused_by, value_of, Ok, Start, Sealed, End}
use Rattle.desk.specs.Group.{member}
use Rattle.history.specs.Call.{Listening, Begin, Read, Finish, Find, Call, begin, read, write, abandon, finish, publish, group, settle, reclaim, listen}
use Rattle.history.specs.Desk.{Copy, find, put, upd}

-- an entry of the list: its session, what it wrote, and its end once it is published
pub record Seal : Type 0 where
  pub session : ℕ
  pub draft : List Copy
  pub end : Option ℕ

-- the opening records, the list of entries in sealing order, each session's draft and its noted start
pub record History : Type 0 where
  pub opening : ℕ → List ℕ
  pub sealed : List Seal
  pub draft : ℕ → List Copy
  pub start : ℕ → ℕ

-- the history with the session's draft empty and its start noted
abbrev pub started : ℕ → ℕ → History → History
started s b h = record { opening = h.opening; sealed = h.sealed; draft = upd s [] h.draft; start = upd s b h.start }

-- the session's draft is now this
abbrev pub drafted : ℕ → List Copy → History → History
drafted s cs h = record { opening = h.opening; sealed = h.sealed; draft = upd s cs h.draft; start = h.start }

-- an entry that has no end yet
abbrev pub entry_of : ℕ → List Copy → Seal
entry_of s cs = record { session = s; draft = cs; end = none }

-- finish sealed puts the draft last in the list, as an entry of that session
abbrev pub sealing : ℕ → History → History
sealing s h =
    record { opening = h.opening; sealed = h.sealed ++ (entry_of s (h.draft s) ∷ []); draft = h.draft; start = h.start }

-- an entry of the session stands in the list
abbrev pub entered : ℕ → List Seal → Bool
entered s [] = false
entered s (x ∷ xs) = eqb x.session s || entered s xs

-- the entry with this end
abbrev pub with_end : ℕ → Seal → Seal
with_end e x = record { session = x.session; draft = x.draft; end = some e }

-- an end is given to the last entry of each session that passes the test
abbrev pub ended : (ℕ → Bool) → ℕ → List Seal → List Seal
ended p e [] = []
ended p e (x ∷ xs) = cond (p x.session && not (entered x.session xs)) (with_end e x) x ∷ ended p e xs

abbrev pub ending : (ℕ → Bool) → ℕ → History → History
ending p e h = record { opening = h.opening; sealed = ended p e h.sealed; draft = h.draft; start = h.start }

-- begin with a start notes it and empties the session's draft
abbrev pub feed_begin : ℕ → Told → History → History
feed_begin s t h = cond (is Start t) (started s (value_of t) h) h

-- of the listening room's calls
abbrev pub feed_listening : Listening → Told → History → History
feed_listening (Begin s) t h = feed_begin s t h
feed_listening (Read s r) t h = h
feed_listening (Finish len s) t h = h
feed_listening (Find s k) t h = h

-- write ok sets the record's words in the draft; abandon ok and refusal 7 empty the draft; publish gives its end to the session's last
-- entry, a group to that of each member; any other answer changes nothing
abbrev pub feed : Call → Told → History → History
feed (begin s) t h = feed_begin s t h
feed (read s r) t h = h
feed (write s r ws) t h = cond (is Ok t) (drafted s (put r ws (h.draft s)) h) (cond (refused_by 7 t) (drafted s [] h) h)
feed (abandon s) t h = cond (is Ok t) (drafted s [] h) h
feed (finish len s) t h = cond (is Sealed t) (sealing s h) h
feed (publish len s) t h = cond (is End t) (ending (λ u. eqb u s) (value_of t) h) h
feed (group len set) t h = cond (is End t) (ending (λ u. member u set) (value_of t) h) h
feed (settle len s) t h = h
feed (reclaim len s) t h = h
feed (listen c) t h = feed_listening c t h

-- the words of an entry that has the record, else those before it
abbrev pub over : Option (List ℕ) → List ℕ → List ℕ
over none ws = ws
over (some new) ws = new

-- record r with the list applied in order
abbrev pub applied : List Seal → ℕ → List ℕ → List ℕ
applied [] r ws = ws
applied (x ∷ xs) r ws = applied xs r (over (find r x.draft) ws)

-- the book's records: the opening ones with the list applied in order
abbrev pub record_of : History → ℕ → List ℕ
record_of h r = applied h.sealed r (h.opening r)

-- an end up to σ
abbrev pub seen : ℕ → Option ℕ → Bool
seen σ none = false
seen σ (some e) = leb e σ

abbrev pub pick : Bool → ℕ → List Copy → Option (List ℕ)
pick true r cs = find r cs
pick false r cs = none

-- record r with those entries applied that have an end up to σ
abbrev pub applied_by : ℕ → List Seal → ℕ → List ℕ → List ℕ
applied_by σ [] r ws = ws
applied_by σ (x ∷ xs) r ws = applied_by σ xs r (over (pick (seen σ x.end) r x.draft) ws)

-- what a reader with the start σ sees of record r: the words of the last entry that has the record and an end up to σ; if there is none,
-- the opening words
abbrev pub view_at : History → ℕ → ℕ → List ℕ
view_at h σ r = applied_by σ h.sealed r (h.opening r)
