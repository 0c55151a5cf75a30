use Rattle.std.proofs.Common.{rules, tests}
use Rattle.std.proofs.lemmas.Iterator.{YieldsList-from_slice, YieldsList-from_take}
use Rattle.std.proofs.lemmas.Iterator.Search.{position_from_yields_List}
use mathlib.Core.Path.{◌≡◌, ◌∙◌}
use lib.Dec.{eqb}
use lib.ListN.{take, length}
use Rattle.std.specs.List.{position}
use Rattle.snapshot.proofs.OwnPlace.{own-position}
use Rattle.snapshot.proofs.copies.own_place.Goals as goal

pub returns : goal.returns
returns c =
    let e = c.args.e in
    let four : length e.copies ≡ 4 = search rules in
    let found : c.position.result ≡ position (λ x. eqb x.rec c.args.rec) (take e.count e.copies) =
    position_from_yields_List (λ x. eqb x.rec c.args.rec) _ _ c.position.result c.position.ensures.ran (YieldsList-from_take e.count (YieldsList-from_slice e.copies cc) cc) (λ x b q k. search (rules, tests)) in
    found ∙ own-position e c.args.rec four
