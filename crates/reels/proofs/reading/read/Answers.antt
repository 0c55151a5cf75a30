use mathlib.Core.Path.{refl}
use Rattle.std.specs.Prelude.{Ok}
use Rattle.reels.specs.Read.{read_reel_reply, read_reel_said}
use Rattle.reels.proofs.Unpacked.{content-told, source-told}
use Rattle.reels.proofs.reading.read.Goals as goal

pub returns-in-Ok : goal.returns-in-Ok
unfolding read_reel_reply read_reel_said
returns-in-Ok c =
    let w = c.read-answer.ensures in
    let x = Ok c.in-Ok.sight in
    record {
      reply = rw (c.unpack.ensures.reply, ← w.reply, c.in-Ok.is) refl;
      told = rw (c.unpack.ensures.reply, ← w.told, c.in-Ok.is) (content-told x);
      source = rw (← w.told, c.in-Ok.is) (source-told x);
    }

pub returns-in-Err : goal.returns-in-Err
unfolding read_reel_reply read_reel_said
returns-in-Err c = let w = c.read-answer.ensures in record { reply = rw (← w.reply, c.in-Err.is) refl; told = rw (← w.told, c.in-Err.is) refl; source = rw (← w.told, c.in-Err.is) refl }
