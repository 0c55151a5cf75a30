-- Recover, on an image alone (document 01): "clean" where no slot is occupied. Else the log with the smallest persist number is replayed,
-- of equal ones that at the lowest place: what it denotes goes home, a fence, its persist number becomes 0, a fence; 4c + 3 entries of a
-- full log, k + 3 of a short one (document 02, Req 08). "replayed" tells the number. Checks 1, 3, 12 with the lowest such place, 13.
use Rattle.std.specs.Prelude.{ℕ, ◌*◌, Bool, not, cond, List, [], ◌∷◌, ◌++◌, eqb, Option, Some, None, ⊤, Ok, Err}
use Rattle.layout.specs.Below.{any_below, lowest}
use Rattle.layout.specs.Checks.{unless, first, answered}
use Rattle.layout.specs.Entries.{Entry, store, fence, stores}
use Rattle.layout.specs.Image.{records_of, sessions_of, shaped_b, slot_at, slot_word, persist_at}
use Rattle.journal.specs.Lengths.{replay_length}
use Rattle.journal.specs.Log.{Slot, denoted, unsound_b, tied_b}
use Rattle.layout.specs.Oldest.{oldest_of}
use Rattle.layout.specs.Refusal.{Answer, cause}
use Rattle.layout.specs.declared.refusal.Refusal.{Refusal}
use Rattle.layout.specs.declared.refusal.Refusal.TheVariants.{LogUnsound}
use Rattle.layout.specs.declared.oldest.Oldest.{Oldest}
use Rattle.layout.specs.Checks.{room_for}
use Rattle.recovery.specs.declared.recovering.RecoverReply.{RecoverReply}
use Rattle.layout.specs.Told.{Told, refused, refusal, clean, replayed}

-- the slots of the image, and the words of the one at place p
abbrev pub slots_of : List ℕ → ℕ
slots_of img = 2 * sessions_of img

abbrev pub log_at : List ℕ → ℕ → Slot
log_at img p = slot_word img (records_of img) p

-- the lowest place of an occupied slot that is not sound; all slots' number where there is none
unfoldable pub unsound_place : List ℕ → ℕ
unsound_place img = lowest (slots_of img) (λ p. unsound_b (records_of img) (log_at img p))

-- two occupied slots have equal persist numbers and a record in common
unfoldable pub tied_below : List ℕ → ℕ → Bool
tied_below img p = any_below p (λ q. tied_b (log_at img p) (log_at img q))

unfoldable pub ties_b : List ℕ → Bool
ties_b img = any_below (slots_of img) (tied_below img)

unfoldable pub recover_fault : List ℕ → ℕ → ℕ
recover_fault img len =
    first (unless (shaped_b img) 1)
    (first (unless (room_for len) 3) (first (unless (eqb (unsound_place img) (slots_of img)) 12) (unless (not (ties_b img)) 13)))

-- why it is refused: 12 with the lowest such place
abbrev pub recover_cause : List ℕ → ℕ → Refusal
recover_cause img k = cond (eqb k 12) (LogUnsound (unsound_place img)) (cause k)

-- the answer of the checks
abbrev pub logs_answer : List ℕ → ℕ → Answer ⊤
logs_answer img len = answered (recover_fault img len) (λ k. Err (recover_cause img k)) (Ok tt)

-- the log that is taken
unfoldable pub first_log : List ℕ → Oldest
first_log img = oldest_of (persist_at img (records_of img)) (slots_of img)

abbrev pub clean_b : List ℕ → Bool
clean_b img = eqb (first_log img).number 0

-- the log at place p is replayed and its slot emptied
abbrev pub replay_entries : List ℕ → ℕ → List Entry
replay_entries img p = stores (denoted (log_at img p)) ++ (fence ∷ store (slot_at (records_of img) p) 0 ∷ fence ∷ [])

unfoldable pub recover_entries : List ℕ → ℕ → List Entry
recover_entries img len = answered (recover_fault img len) (λ k. []) (cond (clean_b img) [] (replay_entries img (first_log img).place))

unfoldable pub recover_refused : List ℕ → ℕ → RecoverReply
recover_refused img k =
    cond (eqb k 12) (record { answer = Err (LogUnsound (unsound_place img)); entries = 0 }) (record { answer = Err (cause k); entries = 0 })

-- the number of entries is that of the log's form
abbrev pub recover_done : List ℕ → RecoverReply
recover_done img =
    cond (clean_b img)
    (record { answer = Ok None; entries = 0 })
    (record { answer = Ok (Some (first_log img).number); entries = replay_length (log_at img (first_log img).place) })

unfoldable pub recover_reply : List ℕ → ℕ → RecoverReply
recover_reply img len = answered (recover_fault img len) (recover_refused img) (recover_done img)

-- the reply by its answer with the number of entries, or its refusal
abbrev pub recovered_by : RecoverReply → Answer (Option ℕ × ℕ)
recovered_by r = with_entries r.answer r.entries
  where
    with_entries : Answer (Option ℕ) → ℕ → Answer (Option ℕ × ℕ)
    with_entries (Ok x) n = Ok (x, n)
    with_entries (Err e) n = Err e

-- what it tells: 12 with the lowest such place; clean, or replayed with the number
unfoldable pub recover_said : List ℕ → ℕ → Told
recover_said img len =
    answered (recover_fault img len) (λ k. cond (eqb k 12) (refused 12 (unsound_place img)) (refusal k))
    (cond (clean_b img) clean (replayed (first_log img).number))
