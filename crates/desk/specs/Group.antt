-- Group publish (document 02, Req 06): the sealed sessions of a 16-bit set get the same end; the clock and the ceiling move as for a single
-- publish. Checks 1, 2, 3, 19, 4, 6; of a set that is refused nobody is published.
use Rattle.std.specs.Prelude.{ℕ, zero, suc, ◌+◌, ◌^◌, ◌/◌, ◌%◌, Bool, not, ◌&&◌, ◌||◌, cond, List, ltb, eqb, get_or, set as put}
use Rattle.layout.specs.Below.{all_below, any_below}
use Rattle.layout.specs.Checks.{unless, first, answered, room_for}
use Rattle.layout.specs.Entries.{Entry}
use Rattle.layout.specs.Image.{shaped_b}
use Rattle.layout.specs.Told.{Told}
use Rattle.desk.specs.Coherent.{coherent_b}
use Rattle.desk.specs.Desk.{no_session, session_at, is_sealed, with_phase}
use Rattle.desk.specs.Entering.{agrees_b}
use Rattle.desk.specs.Publish.{end_entries, publish_refused, ends, end_said}
use Rattle.desk.specs.declared.state.Phase.TheVariants.{Published}
use Rattle.desk.specs.declared.state.Session.{Session}
use Rattle.desk.specs.declared.state.Desk.{Desk}
use Rattle.desk.specs.declared.reply.StoringReply.{StoringReply}

-- session s is in the set: bit s, which is worth 2 to the s. There are sixteen.
unfoldable pub member : ℕ → ℕ → Bool
member s set = ltb s 16 && eqb ((set / 2 ^ s) % 2) 1

-- of a call that takes no session: 1, 2 and 3
unfoldable pub store_fault : List ℕ → Desk → ℕ → ℕ
store_fault img d len =
    first (unless (shaped_b img) 1) (first (unless (coherent_b d && agrees_b img d.clock d.n d.m) 2) (unless (room_for len) 3))

-- a session that is a member is below M, and is sealed
abbrev pub member_low : Desk → ℕ → ℕ → Bool
member_low d set s = not (member s set) || ltb s d.m

abbrev pub member_sealed : Desk → ℕ → ℕ → Bool
member_sealed d set s = not (member s set) || is_sealed (session_at d s).phase

-- 19 no members, 4 a member at or above M, 6 a member that is not sealed
unfoldable pub set_fault : Desk → ℕ → ℕ
set_fault d set =
    first (unless (any_below 16 (λ s. member s set)) 19) (first (unless (all_below 16 (member_low d set)) 4) (unless (all_below 16 (member_sealed d set)) 6))

-- `len` is the length of the trace
unfoldable pub group_fault : List ℕ → Desk → ℕ → ℕ → ℕ
group_fault img d len set = first (store_fault img d len) (set_fault d set)

unfoldable pub group_entries : List ℕ → Desk → ℕ → ℕ → List Entry
group_entries img d len set = end_entries (group_fault img d len set) img d

-- the sessions, with the members below s published with the end e
unfoldable pub published_below : List Session → ℕ → ℕ → ℕ → List Session
published_below xs set e zero = xs
published_below xs set e (suc s) =
    let ys = published_below xs set e s in cond (member s set) (put ys s (with_phase (get_or ys s no_session) (Published e))) ys

-- all members published, with the copies that they had
abbrev pub grouped : List ℕ → Desk → ℕ → StoringReply ℕ
grouped img d set = ends img d (published_below d.sessions set (d.clock + 1) 16)

unfoldable pub group_reply : List ℕ → Desk → ℕ → ℕ → StoringReply ℕ
group_reply img d len set = answered (group_fault img d len set) (publish_refused d) (grouped img d set)

unfoldable pub group_said : List ℕ → Desk → ℕ → ℕ → Told
group_said img d len set = end_said (group_fault img d len set) d
