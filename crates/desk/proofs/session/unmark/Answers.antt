use mathlib.Core.Path.{◌≡◌, refl}
use native.Mathlib.Numerals.{add-one}
use native.Mathlib.Omega.{arith}
use Rattle.std.proofs.Common.{rules, length}
use Rattle.std.proofs.lemmas.List.{length-take}
use Rattle.std.proofs.lemmas.List.{get_or-take}
use Rattle.desk.specs.Desk.{no_copy, unmarked}
use Rattle.desk.proofs.session.unmark.Goals as goal

pub loop-copy-init : goal.loop-copy-init
unfolding unmarked
loop-copy-init c = refl

pub loop-copy-preserved : goal.loop-copy-preserved
unfolding unmarked
loop-copy-preserved c = rw (add-one, get_or-take c.args.count c.args.copies c.loop-copy.copy-index no_copy (omega (arith, length-take c.args.count c.args.copies)), c.loop-copy.invariant) refl

pub returns : goal.returns
returns c = let e : c.loop-copy.copy-index ≡ c.args.count = let n : length c.args.copies ≡ 4 = search rules in omega (arith, n, c.requires.0, length-take c.args.count c.args.copies) in rw e at c.loop-copy.invariant
