-- The first checks of a session call (document 01, "What is turned away"), lowest number first.
use Rattle.std.specs.Prelude.{ℕ, Bool, true, ◌&&◌, List, leb, ltb, eqb}
use Rattle.layout.specs.Checks.{unless, first}
use Rattle.layout.specs.Image.{records_of, sessions_of, ceiling_of, shaped_b}
use Rattle.desk.specs.Coherent.{coherent_b}
use Rattle.desk.specs.declared.state.Desk.{Desk}

-- of a call without an image, on a desk with M sessions: 2 it is not coherent, 4 the session is at or above M
unfoldable pub session_fault : Bool → ℕ → ℕ → ℕ
session_fault coherent m s = first (unless coherent 2) (unless (ltb s m) 4)

abbrev pub desk_fault : Desk → ℕ → ℕ
desk_fault d s = session_fault (coherent_b d) d.m s

-- N and M are the header's, and the clock is at most the ceiling (document 02, Req 05)
abbrev pub agrees_b : List ℕ → ℕ → ℕ → ℕ → Bool
agrees_b img clock n m = eqb n (records_of img) && eqb m (sessions_of img) && leb clock (ceiling_of img)

-- of a call with an image, on a desk with this clock, N and M: 1 the image's length or header is wrong, 2 the desk is not coherent, by itself
-- or with the image, 3 the trace is too short (`room` is true of a call that takes none), 4 the session is at or above M
unfoldable pub entry_fault : List ℕ → Bool → ℕ → ℕ → ℕ → Bool → ℕ → ℕ
entry_fault img coherent clock n m room s =
    first (unless (shaped_b img) 1) (first (unless (coherent && agrees_b img clock n m) 2) (first (unless room 3) (unless (ltb s m) 4)))

abbrev pub image_fault : List ℕ → Desk → Bool → ℕ → ℕ
image_fault img d room s = entry_fault img (coherent_b d) d.clock d.n d.m room s

-- of a call with an image and a record, and no trace: then 5, the record is at or above N
abbrev pub record_entry_fault : List ℕ → Bool → ℕ → ℕ → ℕ → ℕ → ℕ → ℕ
record_entry_fault img coherent clock n m s r = first (entry_fault img coherent clock n m true s) (unless (ltb r n) 5)

abbrev pub record_fault : List ℕ → Desk → ℕ → ℕ → ℕ
record_fault img d s r = record_entry_fault img (coherent_b d) d.clock d.n d.m s r
