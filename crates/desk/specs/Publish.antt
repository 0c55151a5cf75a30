-- Publish (document 01, and document 02's Req 05): sealed only. End is clock + 1 and the clock becomes that. Where the new clock would pass the
-- ceiling it is raised: two entries, else none. Checks 1, 2, 3, 4, 6.
use Rattle.std.specs.Prelude.{ℕ, ◌+◌, List, [], length, set, Ok, Err}
use Rattle.layout.specs.Ceiling.{pass_entries}
use Rattle.layout.specs.Checks.{unless, first, answered, room_for}
use Rattle.layout.specs.Entries.{Entry}
use Rattle.layout.specs.Refusal.{cause}
use Rattle.desk.specs.Desk.{session_at, is_sealed, with_phase}
use Rattle.desk.specs.Entering.{image_fault}
use Rattle.desk.specs.declared.state.Phase.TheVariants.{Published}
use Rattle.desk.specs.declared.state.Session.{Session}
use Rattle.desk.specs.declared.state.Desk.{Desk}
use Rattle.desk.specs.declared.reply.StoringReply.{StoringReply}
use Rattle.layout.specs.Told.{Told, refusal, ended_at}

-- ---- publishing, of one session and of a set (Group.antt): by the number that refuses it, 0 where none does, and by the sessions that it leaves

abbrev pub end_entries : ℕ → List ℕ → Desk → List Entry
end_entries fault img d = answered fault (λ k. []) (pass_entries img (d.clock + 1))

abbrev pub publish_refused : Desk → ℕ → StoringReply ℕ
publish_refused d k = record { answer = Err (cause k); entries = 0; desk = d }

abbrev pub ends : List ℕ → Desk → List Session → StoringReply ℕ
ends img d after =
    record {
      answer = Ok (d.clock + 1);
      entries = length (pass_entries img (d.clock + 1));
      desk = record { clock = d.clock + 1; n = d.n; m = d.m; holders = d.holders; sessions = after; order = d.order };
    }

-- what it tells: the end
abbrev pub end_said : ℕ → Desk → Told
end_said fault d = answered fault refusal (ended_at (d.clock + 1))

-- ---- one session

-- `len` is the length of the trace
unfoldable pub publish_fault : List ℕ → Desk → ℕ → ℕ → ℕ
publish_fault img d len s = first (image_fault img d (room_for len) s) (unless (is_sealed (session_at d s).phase) 6)

unfoldable pub publish_entries : List ℕ → Desk → ℕ → ℕ → List Entry
publish_entries img d len s = end_entries (publish_fault img d len s) img d

-- the session is published, with the copies that it had
abbrev pub published : List ℕ → Desk → ℕ → StoringReply ℕ
published img d s = ends img d (set d.sessions s (with_phase (session_at d s) (Published (d.clock + 1))))

unfoldable pub publish_reply : List ℕ → Desk → ℕ → ℕ → StoringReply ℕ
publish_reply img d len s = answered (publish_fault img d len s) (publish_refused d) (published img d s)

unfoldable pub publish_said : List ℕ → Desk → ℕ → ℕ → Told
publish_said img d len s = end_said (publish_fault img d len s) d
