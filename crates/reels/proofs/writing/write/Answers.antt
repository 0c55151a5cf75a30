use mathlib.Core.Path.{refl, sym, ◌∙◌}
use Rattle.reels.specs.Write.{write_reel_reply, write_reel_said}
use Rattle.reels.proofs.Unpacked.{packs, packing-told}
use Rattle.reels.proofs.writing.write.Goals as goal

pub returns-in-Ok : goal.returns-in-Ok
unfolding write_reel_reply write_reel_said
returns-in-Ok c =
    let p = packs c.args.reel _ (sym c.in-Ok.is ∙ c.pack.ensures.reply) in
    let w = c.write.ensures in
    record { reply = rw p.0 (rw p.1 at w.reply); told = rw p.0 w.told }

pub returns-in-Err : goal.returns-in-Err
unfolding write_reel_reply write_reel_said
returns-in-Err c =
    let p = packs c.args.reel _ (sym c.in-Err.is ∙ c.pack.ensures.reply) in
    let t = packing-told c.args.reel p.0 in
    record { reply = rw (p.0, p.1) refl; told = rw (p.0, p.1, t.0, t.1) refl }
