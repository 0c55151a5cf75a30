use mathlib.Core.List.{◌++◌}
use mathlib.Core.Path.{◌≡◌}
use lib.ListN.{length, drop}
use Rattle.sheet.specs.Bytes.{words_in}
use Rattle.sheet.proofs.bytes.put_words.Given as goal

abbrev pub invariant-loop-i : goal.invariant-loop-i
invariant-loop-i l = record {
  size : length l.image ≡ length l.initial.image;
  so_far : l.image ≡ words_in l.i l.bytes ++ drop l.i l.initial.image;
}
