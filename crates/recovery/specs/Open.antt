-- Open (document 01, and document 02's Req 05): all slots empty; it gives a desk whose clock is the ceiling + 1, all idle, and raises the
-- ceiling above that clock. Checks 1, 3, 11 and then 10, which asks for a ceiling below L; refused, it gives a desk with clock, N and M 0, all
-- idle, unmarked, nobody listed.
use Rattle.std.specs.Prelude.{ℕ, ◌+◌, ◌*◌, not, List, [], ltb, length, replicate, ⊤, Ok, Err}
use Rattle.layout.specs.Ceiling.{raise_entries}
use Rattle.layout.specs.Checks.{unless, first, answered, room_for}
use Rattle.layout.specs.Entries.{Entry}
use Rattle.layout.specs.Refusal.{cause}
use Rattle.layout.specs.Image.{records_of, sessions_of, ceiling_of, shaped_b, occupied_b}
use Rattle.desk.specs.Coherent.{limit}
use Rattle.desk.specs.Desk.{idle_session}
use Rattle.desk.specs.declared.state.Desk.{Desk}
use Rattle.desk.specs.declared.reply.StoringReply.{StoringReply}
use Rattle.layout.specs.Told.{Told, refusal, ok}

abbrev pub fresh_desk : ℕ → ℕ → ℕ → Desk
fresh_desk clock n m =
    record { clock = clock; n = n; m = m; holders = replicate 256 0; sessions = replicate 16 idle_session; order = replicate 16 0 }

-- `len` is the length of the trace
unfoldable pub open_fault : List ℕ → ℕ → ℕ
open_fault img len =
    first (unless (shaped_b img) 1)
    (first (unless (room_for len) 3)
    (first (unless (not (occupied_b img (records_of img) (2 * sessions_of img))) 11) (unless (ltb (ceiling_of img) limit) 10)))

unfoldable pub open_entries : List ℕ → ℕ → List Entry
open_entries img len = answered (open_fault img len) (λ k. []) (raise_entries (ceiling_of img + 1))

abbrev pub open_refused : ℕ → StoringReply ⊤
open_refused k = record { answer = Err (cause k); entries = 0; desk = fresh_desk 0 0 0 }

abbrev pub opened : List ℕ → StoringReply ⊤
opened img =
    record {
      answer = Ok tt;
      entries = length (raise_entries (ceiling_of img + 1));
      desk = fresh_desk (ceiling_of img + 1) (records_of img) (sessions_of img);
    }

unfoldable pub open_reply : List ℕ → ℕ → StoringReply ⊤
open_reply img len = answered (open_fault img len) open_refused (opened img)

-- what it tells
unfoldable pub open_said : List ℕ → ℕ → Told
open_said img len = answered (open_fault img len) refusal ok
