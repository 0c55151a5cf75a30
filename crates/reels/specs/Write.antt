-- Write through the store (document 02, Req 02 and 07): 15, 16 and 17 before any check of the store, with everything left as it was; then
-- the store's write of the four words.
use Rattle.std.specs.Prelude.{ℕ, cond, List, ⊤, Err}
use Rattle.layout.specs.Refusal.{cause}
use Rattle.layout.specs.Told.{Told, refusal}
use Rattle.desk.specs.declared.state.Desk.{Desk}
use Rattle.desk.specs.declared.reply.Reply.{Reply}
use Rattle.snapshot.specs.Write.{write_says, write_reply, write_said}
use Rattle.reels.specs.Reel.{words_of, pack_fault, packable_b}
use Rattle.reels.specs.declared.reel.Reel.{Reel}

unfoldable pub write_reel_reply : List ℕ → Desk → ℕ → ℕ → Reel → Reply ⊤
write_reel_reply img d s r reel = cond (packable_b reel) (write_reply img d s r (words_of reel)) (write_says d (Err (cause (pack_fault reel))))

-- what it tells
unfoldable pub write_reel_said : List ℕ → Desk → ℕ → ℕ → Reel → Told
write_reel_said img d s r reel = cond (packable_b reel) (write_said img d s r) (refusal (pack_fault reel))
