-- Finish (document 01): active only. A session without copies becomes idle and is told "empty", and nothing is stored. Else it is sealed,
-- with the clock as persist number. Of c copies, k words of which differ from their home records, the log is a short one when 2k is less
-- than 5c (document 02, Req 08): 16 + k and the pairs, a fence, the persist number, a fence, 2k + 4 entries. Else it is a full one: the
-- count and the copies, then the same, 5c + 4 entries. Sealed or empty, it leaves the list of active sessions (Req 09). Checks 1, 2, 3, 4,
-- 6, 10.
use Rattle.std.specs.Prelude.{ℕ, ◌||◌, cond, List, [], ltb, eqb, length, Option, Some, None, Ok, Err}
use Rattle.layout.specs.Checks.{unless, first, answered}
use Rattle.layout.specs.Entries.{Entry, Write, shift}
use Rattle.journal.specs.Changes.{changes_below}
use Rattle.journal.specs.Lengths.{seal_length}
use Rattle.journal.specs.Log.{log_entries}
use Rattle.layout.specs.Image.{home_words, place_of, slot_at}
use Rattle.desk.specs.Desk.{copied_rec, copied_words, session_at, is_active, idle_session, with_phase, end_session}
use Rattle.desk.specs.Coherent.{limit}
use Rattle.desk.specs.declared.state.Phase.TheVariants.{Sealed}
use Rattle.desk.specs.declared.state.Desk.{Desk}
use Rattle.desk.specs.Entering.{image_fault}
use Rattle.layout.specs.Checks.{room_for}
use Rattle.desk.specs.declared.reply.StoringReply.{StoringReply}
use Rattle.layout.specs.Refusal.{cause}
use Rattle.layout.specs.Told.{Told, refusal, empty, sealed_at}

-- `len` is the length of the trace; 10 is asked with copies only
unfoldable pub finish_fault : List ℕ → Desk → ℕ → ℕ → ℕ
finish_fault img d len s =
    first (image_fault img d (room_for len) s)
    (first (unless (is_active (session_at d s).phase) 6) (unless (eqb (session_at d s).count 0 || ltb d.clock limit) 10))

-- the words of the session's copies that differ from their home records, in ascending index
abbrev pub changed_words : List ℕ → Desk → ℕ → List Write
changed_words img d s =
    changes_below (home_words img) (copied_rec (session_at d s)) (copied_words (session_at d s)) (session_at d s).count d.n

-- the log of session s, in the slot reserved for it
abbrev pub seal_entries : List ℕ → Desk → ℕ → List Entry
seal_entries img d s =
    shift (slot_at d.n (place_of s (session_at d s).slot))
    (log_entries d.n (home_words img) d.clock (copied_rec (session_at d s)) (copied_words (session_at d s)) (session_at d s).count)

unfoldable pub finish_entries : List ℕ → Desk → ℕ → ℕ → List Entry
finish_entries img d len s =
    answered (finish_fault img d len s) (λ k. []) (cond (eqb (session_at d s).count 0) [] (seal_entries img d s))

abbrev pub finish_refused : Desk → ℕ → StoringReply (Option ℕ)
finish_refused d k = record { answer = Err (cause k); entries = 0; desk = d }

-- the number of entries is that of the form, by the number of copies and of the words that differ
abbrev pub finish_done : List ℕ → Desk → ℕ → StoringReply (Option ℕ)
finish_done img d s =
    cond (eqb (session_at d s).count 0)
    (record { answer = Ok None; entries = 0; desk = end_session d s idle_session d.holders })
    (record {
      answer = Ok (Some d.clock);
      entries = seal_length (length (changed_words img d s)) (session_at d s).count;
      desk = end_session d s (with_phase (session_at d s) (Sealed d.clock)) d.holders;
    })

unfoldable pub finish_reply : List ℕ → Desk → ℕ → ℕ → StoringReply (Option ℕ)
finish_reply img d len s = answered (finish_fault img d len s) (finish_refused d) (finish_done img d s)

-- what it tells: empty, or the persist number
unfoldable pub finish_said : List ℕ → Desk → ℕ → ℕ → Told
finish_said img d len s = answered (finish_fault img d len s) refusal (cond (eqb (session_at d s).count 0) empty (sealed_at d.clock))
