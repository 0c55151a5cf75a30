-- Find (document 02, Req 03): the search goes from record 0 up and stops at the first match; its answer is the number of the first record
-- of the full snapshot whose word 0 is the shelf number, or "none". Checks 15, before the store's, then 1, 2, 4, 6, 18.
use Rattle.std.specs.Prelude.{ℕ, ◌+◌, Bool, true, cond, List, eqb, ltb, get_or, Option, Ok, Err}
use Rattle.layout.specs.Below.{lowest}
use Rattle.layout.specs.Checks.{unless, first, answered}
use Rattle.layout.specs.Refusal.{Answer, cause}
use Rattle.layout.specs.Search.{within}
use Rattle.layout.specs.Told.{Told, refusal, nothing, found_at}
use Rattle.desk.specs.declared.state.Desk.{Desk}
use Rattle.desk.specs.declared.reply.Reply.{Reply}
use Rattle.snapshot.specs.Read.{sight_at, session_sight, done_said}
use Rattle.reels.specs.Reel.{shelf_b}
use Rattle.listening.specs.Listener.{listener_fault}

unfoldable pub find_fault : List ℕ → Desk → ℕ → ℕ → ℕ
find_fault img d s k = first (unless (shelf_b k) 15) (listener_fault img d true s)

-- word 0 of record r, as the session reads it, is the number
abbrev pub matches : List ℕ → Desk → ℕ → ℕ → ℕ → Bool
matches img d s k r = eqb (get_or (session_sight img d s r).words 0 0) k

-- the same as a reader with this start sees it that holds no copies
abbrev pub seen_matches : List ℕ → Desk → ℕ → ℕ → ℕ → Bool
seen_matches img d start k r = eqb (get_or (sight_at img d start r).words 0 0) k

-- the first match, N where there is none
unfoldable pub first_match : List ℕ → Desk → ℕ → ℕ → ℕ
first_match img d s k = lowest d.n (matches img d s k)

abbrev pub find_gives : Desk → Answer (Option ℕ) → Reply (Option ℕ)
find_gives d a = record { answer = a; desk = d }

abbrev pub find_refused : Desk → ℕ → Reply (Option ℕ)
find_refused d k = find_gives d (Err (cause k))

abbrev pub find_done : List ℕ → Desk → ℕ → ℕ → Reply (Option ℕ)
find_done img d s k = find_gives d (Ok (within d.n (first_match img d s k)))

unfoldable pub find_reply : List ℕ → Desk → ℕ → ℕ → Reply (Option ℕ)
find_reply img d s k = answered (find_fault img d s k) (find_refused d) (find_done img d s k)

-- what it tells: the record, or "none"
unfoldable pub find_said : List ℕ → Desk → ℕ → ℕ → Told
find_said img d s k =
    answered (find_fault img d s k) refusal (cond (ltb (first_match img d s k) d.n) (found_at (first_match img d s k)) nothing)

-- how many records it looks at, from record 0 up, past its checks; each gives what a read of it tells
unfoldable pub looked_at : List ℕ → Desk → ℕ → ℕ → ℕ
looked_at img d s k = cond (ltb (first_match img d s k) d.n) (first_match img d s k + 1) d.n

abbrev pub look_gives : List ℕ → Desk → ℕ → ℕ → Told
look_gives img d s r = done_said img d s r
