-- Begin (document 01): idle becomes active; start is the clock. In the list the session stands last (document 02, Req 09). Checks 2, 4, 6.
use Rattle.std.specs.Prelude.{ℕ, Ok, Err}
use Rattle.layout.specs.Checks.{unless, first, answered}
use Rattle.layout.specs.Refusal.{cause}
use Rattle.desk.specs.Desk.{session_at, is_idle, with_phase, changed, joined}
use Rattle.desk.specs.Entering.{desk_fault}
use Rattle.desk.specs.declared.state.Phase.TheVariants.{Active}
use Rattle.desk.specs.declared.state.Desk.{Desk}
use Rattle.desk.specs.declared.reply.Reply.{Reply}
use Rattle.layout.specs.Told.{Told, refusal, start}

unfoldable pub begin_fault : Desk → ℕ → ℕ
begin_fault d s = first (desk_fault d s) (unless (is_idle (session_at d s).phase) 6)

abbrev pub begin_refused : Desk → ℕ → Reply ℕ
begin_refused d k = record { answer = Err (cause k); desk = d }

abbrev pub begun : Desk → ℕ → Reply ℕ
begun d s =
    record {
      answer = Ok d.clock;
      desk = changed d s (with_phase (session_at d s) (Active d.clock)) d.clock d.holders (joined d s);
    }

unfoldable pub begin_reply : Desk → ℕ → Reply ℕ
begin_reply d s = answered (begin_fault d s) (begin_refused d) (begun d s)

-- what it tells: the start
unfoldable pub begin_said : Desk → ℕ → Told
begin_said d s = answered (begin_fault d s) refusal (start d.clock)
