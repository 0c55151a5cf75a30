-- Finish in the listening room (document 02, Req 03): the store's finish; a session that holds copies is refused by 18, so that it answers
-- "empty" and stores nothing. Checks 1, 2, 3, 4, 6, 18.
use Rattle.std.specs.Prelude.{ℕ, List, Option}
use Rattle.layout.specs.Checks.{room_for, answered}
use Rattle.layout.specs.Told.{Told, refusal, empty}
use Rattle.desk.specs.declared.state.Desk.{Desk}
use Rattle.commit.specs.Finish.{finish_refused, finish_done}
use Rattle.desk.specs.declared.reply.StoringReply.{StoringReply}
use Rattle.listening.specs.Listener.{listener_fault}

unfoldable pub listen_finish_reply : List ℕ → Desk → ℕ → ℕ → StoringReply (Option ℕ)
listen_finish_reply img d len s = answered (listener_fault img d (room_for len) s) (finish_refused d) (finish_done img d s)

-- what it tells
unfoldable pub listen_finish_said : List ℕ → Desk → ℕ → ℕ → Told
listen_finish_said img d len s = answered (listener_fault img d (room_for len) s) refusal empty
