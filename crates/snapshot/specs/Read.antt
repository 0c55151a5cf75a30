-- Read (document 01): active only. Own copy if there is one. Otherwise, if the holder is published with end at most this start, the
-- holder's copy. Otherwise the home record. Checks 1, 2, 4, 5, 6.
use Rattle.std.specs.Prelude.{ℕ, ◌-◌, Bool, true, false, ◌&&◌, not, cond, List, leb, ltb, eqb, Ok, Err}
use Rattle.layout.specs.Checks.{unless, first, answered}
use Rattle.layout.specs.Image.{home_words}
use Rattle.layout.specs.Refusal.{cause}
use Rattle.desk.specs.Desk.{session_at, mark_at, copy_at, is_active, start_of}
use Rattle.desk.specs.declared.state.Phase.{Phase}
use Rattle.desk.specs.declared.state.Phase.TheVariants.{Idle, Active, Sealed, Published}
use Rattle.desk.specs.declared.state.Session.{Session}
use Rattle.desk.specs.declared.state.Desk.{Desk}
use Rattle.desk.specs.declared.reply.Reply.{Reply}
use Rattle.desk.specs.Entering.{image_fault}
use Rattle.snapshot.specs.Own.{own_place}
use Rattle.snapshot.specs.declared.seeing.Source.{Source}
use Rattle.snapshot.specs.declared.seeing.Source.TheVariants.{Own, Copy, Home}
use Rattle.snapshot.specs.declared.seeing.Sight.{Sight}
use Rattle.layout.specs.Told.{Told, refusal, own, copied, home}

unfoldable pub read_fault : List ℕ → Desk → ℕ → ℕ → ℕ
read_fault img d s r = first (image_fault img d true s) (first (unless (ltb r d.n) 5) (unless (is_active (session_at d s).phase) 6))

-- published, with end at most this start
abbrev pub shown_at : ℕ → Phase → Bool
shown_at start Idle = false
shown_at start (Active b) = false
shown_at start (Sealed p) = false
shown_at start (Published e) = leb e start

-- the session entry that the mark of record r names
abbrev pub holder_entry : Desk → ℕ → Session
holder_entry d r = session_at d (mark_at d r - 1)

-- record r is held, and its holder's copy is shown to a reader with this start
abbrev pub copy_shown : Desk → ℕ → ℕ → Bool
copy_shown d start r = not (eqb (mark_at d r) 0) && shown_at start (holder_entry d r).phase

-- the words, and whose they are
abbrev pub sight : Source → List ℕ → Sight
sight from ws = record { source = from; words = ws }

-- what a reader with this start sees of record r, which it does not copy: by the record's mark and holder, and by the desk
unfoldable pub sight_of : List ℕ → ℕ → ℕ → ℕ → Session → Sight
sight_of img start r mark holder =
    cond (not (eqb mark 0) && shown_at start holder.phase) (sight Copy (copy_at holder (own_place holder r)).words) (sight Home (home_words img r))

abbrev pub sight_at : List ℕ → Desk → ℕ → ℕ → Sight
sight_at img d start r = sight_of img start r (mark_at d r) (holder_entry d r)

-- what session s sees of it: its own copy if it has one
abbrev pub session_sight : List ℕ → Desk → ℕ → ℕ → Sight
session_sight img d s r =
    cond (ltb (own_place (session_at d s) r) 4)
    (sight Own (copy_at (session_at d s) (own_place (session_at d s) r)).words)
    (sight_at img d (start_of (session_at d s).phase) r)

abbrev pub read_gives : Desk → Sight → Reply Sight
read_gives d x = record { answer = Ok x; desk = d }

abbrev pub read_refused : Desk → ℕ → Reply Sight
read_refused d k = record { answer = Err (cause k); desk = d }

abbrev pub read_done : List ℕ → Desk → ℕ → ℕ → Reply Sight
read_done img d s r = read_gives d (session_sight img d s r)

unfoldable pub read_reply : List ℕ → Desk → ℕ → ℕ → Reply Sight
read_reply img d s r = answered (read_fault img d s r) (read_refused d) (read_done img d s r)

-- what it tells: the words, and whose they are
abbrev pub done_said : List ℕ → Desk → ℕ → ℕ → Told
done_said img d s r =
    cond (ltb (own_place (session_at d s) r) 4)
    (own (copy_at (session_at d s) (own_place (session_at d s) r)).words)
    (cond (copy_shown d (start_of (session_at d s).phase) r)
    (copied (copy_at (holder_entry d r) (own_place (holder_entry d r) r)).words)
    (home (home_words img r)))

unfoldable pub read_said : List ℕ → Desk → ℕ → ℕ → Told
read_said img d s r = answered (read_fault img d s r) refusal (done_said img d s r)
