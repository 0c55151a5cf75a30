use Rattle.std.proofs.Common.{refl, ◌∙◌, add-one}
use Rattle.layout.specs.Image.{persist_at}
use Rattle.layout.specs.Oldest.{oldest_of}
use Rattle.layout.proofs.OldestLaws.{oldest-seen}
use Rattle.journal.proofs.scan.oldest_log.Goals as goal

pub loop-i-init : goal.loop-i-init
unfolding oldest_of
loop-i-init c = refl

pub loop-i-preserved : goal.loop-i-preserved
loop-i-preserved c =
    c.older-best.ensures
    ∙ rw (c.slot_word.ensures, c.loop-i.invariant, add-one c.loop-i.i) (oldest-seen (persist_at c.args.image.now c.args.n) c.loop-i.i)
