-- Abandon (document 01): active only; marks and copies are dropped, the session is idle and out of the list (document 02, Req 09). Checks 2,
-- 4, 6.
use Rattle.std.specs.Prelude.{ℕ, ⊤, Ok, Err}
use Rattle.layout.specs.Checks.{unless, first, answered}
use Rattle.layout.specs.Refusal.{cause}
use Rattle.desk.specs.Desk.{session_at, is_active, dropped}
use Rattle.desk.specs.Entering.{desk_fault}
use Rattle.desk.specs.declared.state.Desk.{Desk}
use Rattle.desk.specs.declared.reply.Reply.{Reply}
use Rattle.layout.specs.Told.{Told, refusal, ok}

unfoldable pub abandon_fault : Desk → ℕ → ℕ
abandon_fault d s = first (desk_fault d s) (unless (is_active (session_at d s).phase) 6)

abbrev pub abandon_refused : Desk → ℕ → Reply ⊤
abandon_refused d k = record { answer = Err (cause k); desk = d }

abbrev pub abandoned : Desk → ℕ → Reply ⊤
abandoned d s = record { answer = Ok tt; desk = dropped d s }

unfoldable pub abandon_reply : Desk → ℕ → Reply ⊤
abandon_reply d s = answered (abandon_fault d s) (abandon_refused d) (abandoned d s)

-- what it tells
unfoldable pub abandon_said : Desk → ℕ → Told
abandon_said d s = answered (abandon_fault d s) refusal ok
