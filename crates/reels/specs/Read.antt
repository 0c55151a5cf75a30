-- Read through the store (document 02, Req 02): the store's read with its checks; then what the words unpack to. Own, copy or home is told
-- as the store told it, of a bad record too.
use Rattle.std.specs.Prelude.{ℕ, List, [], Ok, Err}
use Rattle.std.proofs.Math.Option.{Option, none, some}
use Rattle.layout.specs.Refusal.{Answer}
use Rattle.layout.specs.Told.{Told, Result, tells, refused as store_refused, result}
use Rattle.desk.specs.declared.state.Desk.{Desk}
use Rattle.desk.specs.declared.reply.Reply.{Reply}
use Rattle.snapshot.specs.Read.{read_reply, read_said}
use Rattle.snapshot.specs.Told.{words_from}
use Rattle.snapshot.specs.declared.seeing.Source.{Source}
use Rattle.snapshot.specs.declared.seeing.Sight.{Sight}
use Rattle.reels.specs.Told.{ReelTold, refused}
use Rattle.reels.specs.Unpack.{unpack_reply, words_said}
use Rattle.reels.specs.declared.unpacking.Contents.{Contents}
use Rattle.reels.specs.declared.reading.ReadReelReply.{ReadReelReply}

-- what the words that the store read unpack to, and whose they are; or its refusal
abbrev pub content_of : Answer Sight → Answer Contents
content_of (Err r) = Err r
content_of (Ok x) = unpack_reply x.words

abbrev pub source_of : Answer Sight → Answer Source
source_of (Err r) = Err r
source_of (Ok x) = Ok x.source

abbrev pub reel_read : Reply Sight → ReadReelReply
reel_read x = record { answer = content_of x.answer; source = source_of x.answer; desk = x.desk }

unfoldable pub read_reel_reply : List ℕ → Desk → ℕ → ℕ → ReadReelReply
read_reel_reply img d s r = reel_read (read_reply img d s r)

-- what it tells of what the store's read tells: its refusal, or what the words tell
abbrev pub reel_said : Told → ReelTold
reel_said (store_refused k v) = refused k
reel_said (result x n ws) = words_said ws

unfoldable pub read_reel_said : List ℕ → Desk → ℕ → ℕ → ReelTold
read_reel_said img d s r = reel_said (read_said img d s r)

-- own, copy or home
abbrev pub source_told : Told → Option Result
source_told (store_refused k v) = none
source_told (result x n ws) = some x

-- of the source in the reply, without the words
abbrev pub from_told : Answer Source → Told
from_told = tells (λ from. words_from from [])
