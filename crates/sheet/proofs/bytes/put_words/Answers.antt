use mathlib.Core.Path.{refl, ◌∙◌}
use native.Mathlib.Omega.{arith}
use lib.ListN.{length-set}
use Rattle.sheet.proofs.Words.{words-none, words-stored}
use Rattle.sheet.proofs.bytes.put_words.Goals as goal

pub loop-i-init : goal.loop-i-init
loop-i-init c = record { size = refl; so_far = words-none _ _ }

pub loop-i-preserved : goal.loop-i-preserved
loop-i-preserved c = record {
  size = length-set c.loop-i.image c.loop-i.i c.word.result ∙ c.loop-i.invariant.size;
  so_far = rw (c.word.ensures, c.loop-i.invariant.so_far) (words-stored _ _ _ (omega (arith, c.requires)));
}
