-- Read in the listening room (document 02, Req 03): the store's read; a session that holds copies is refused by 18. Checks 1, 2, 4, 5, 6, 18.
use Rattle.std.specs.Prelude.{ℕ, List}
use Rattle.layout.specs.Checks.{unless, first, answered}
use Rattle.layout.specs.Told.{Told, refusal}
use Rattle.desk.specs.declared.state.Desk.{Desk}
use Rattle.snapshot.specs.Read.{read_fault, read_refused, read_done, done_said}
use Rattle.desk.specs.declared.reply.Reply.{Reply}
use Rattle.snapshot.specs.declared.seeing.Sight.{Sight}
use Rattle.listening.specs.Listener.{no_copies}

unfoldable pub listen_read_fault : List ℕ → Desk → ℕ → ℕ → ℕ
listen_read_fault img d s r = first (read_fault img d s r) (unless (no_copies d s) 18)

unfoldable pub listen_read_reply : List ℕ → Desk → ℕ → ℕ → Reply Sight
listen_read_reply img d s r = answered (listen_read_fault img d s r) (read_refused d) (read_done img d s r)

-- what it tells
unfoldable pub listen_read_said : List ℕ → Desk → ℕ → ℕ → Told
listen_read_said img d s r = answered (listen_read_fault img d s r) refusal (done_said img d s r)
