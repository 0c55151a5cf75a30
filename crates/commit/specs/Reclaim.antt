-- Reclaim (document 01): any phase. It looks at this session's occupied slots, leaving out the slot of a sealed or published transaction.
-- No slot left: "none". Otherwise it takes the one with the smallest persist number, lower slot first. If any slot of the image has a
-- smaller non-zero number the answer is "held" with the smallest. Otherwise it stores 0 there and a fence: 2 entries, "cleared" with the
-- number it had. Checks 1, 2, 3, 4.
use Rattle.std.specs.Prelude.{ℕ, ◌*◌, Bool, ◌&&◌, ◌||◌, cond, List, [], ◌∷◌, length, ltb, eqb, Ok, Err}
use Rattle.layout.specs.Checks.{answered}
use Rattle.layout.specs.Entries.{Entry, store, fence}
use Rattle.layout.specs.Image.{place_of, slot_at, persist_at}
use Rattle.layout.specs.Oldest.{oldest_of}
use Rattle.layout.specs.declared.oldest.Oldest.{Oldest}
use Rattle.desk.specs.Desk.{session_at, is_sealed, is_published}
use Rattle.desk.specs.declared.state.Session.{Session}
use Rattle.desk.specs.declared.state.Desk.{Desk}
use Rattle.desk.specs.Entering.{image_fault}
use Rattle.layout.specs.Checks.{room_for}
use Rattle.desk.specs.declared.reply.StoringReply.{StoringReply}
use Rattle.layout.specs.Refusal.{cause}
use Rattle.commit.specs.declared.reclaiming.Reclaimed.{Reclaimed}
use Rattle.commit.specs.declared.reclaiming.Reclaimed.TheVariants.{Nothing, Held, Cleared}
use Rattle.layout.specs.Told.{Told, refusal, nothing, held, cleared}

unfoldable pub reclaim_fault : List ℕ → Desk → ℕ → ℕ → ℕ
reclaim_fault img d len s = image_fault img d (room_for len) s

-- slot q is that of the session's sealed or published transaction
abbrev pub in_use : Session → ℕ → Bool
in_use e q = (is_sealed e.phase || is_published e.phase) && eqb q e.slot

-- the persist number of the session's slot q; 0 where it is left out
abbrev pub settled_number : List ℕ → Desk → ℕ → ℕ → ℕ
settled_number img d s q = cond (in_use (session_at d s) q) 0 (persist_at img d.n (place_of s q))

-- the older of the session's two slots; its place is 0 or 1
abbrev pub chosen : List ℕ → Desk → ℕ → Oldest
chosen img d s = oldest_of (settled_number img d s) 2

-- the oldest log of the image
abbrev pub oldest_log : List ℕ → Desk → Oldest
oldest_log img d = oldest_of (persist_at img d.n) (2 * d.m)

-- no slot left
abbrev pub none_left : List ℕ → Desk → ℕ → Bool
none_left img d s = eqb (chosen img d s).number 0

-- some slot of the image has a smaller non-zero number
abbrev pub held_b : List ℕ → Desk → ℕ → Bool
held_b img d s = ltb (oldest_log img d).number (chosen img d s).number

abbrev pub clear_entries : List ℕ → Desk → ℕ → List Entry
clear_entries img d s = store (slot_at d.n (place_of s (chosen img d s).place)) 0 ∷ fence ∷ []

unfoldable pub reclaim_entries : List ℕ → Desk → ℕ → ℕ → List Entry
reclaim_entries img d len s =
    answered (reclaim_fault img d len s) (λ k. []) (cond (none_left img d s) [] (cond (held_b img d s) [] (clear_entries img d s)))

abbrev pub reclaim_refused : Desk → ℕ → StoringReply Reclaimed
reclaim_refused d k = record { answer = Err (cause k); entries = 0; desk = d }

abbrev pub reclaim_done : List ℕ → Desk → ℕ → StoringReply Reclaimed
reclaim_done img d s =
    cond (none_left img d s)
    (record { answer = Ok Nothing; entries = 0; desk = d })
    (cond (held_b img d s)
    (record { answer = Ok (Held (oldest_log img d).number); entries = 0; desk = d })
    (record { answer = Ok (Cleared (chosen img d s).number); entries = length (clear_entries img d s); desk = d }))

unfoldable pub reclaim_reply : List ℕ → Desk → ℕ → ℕ → StoringReply Reclaimed
reclaim_reply img d len s = answered (reclaim_fault img d len s) (reclaim_refused d) (reclaim_done img d s)

-- what it tells: none, held with the smallest number, or cleared with the number that the slot had
unfoldable pub reclaim_said : List ℕ → Desk → ℕ → ℕ → Told
reclaim_said img d len s =
    answered (reclaim_fault img d len s) refusal
    (cond (none_left img d s) nothing
    (cond (held_b img d s) (held (oldest_log img d).number) (cleared (chosen img d s).number)))
