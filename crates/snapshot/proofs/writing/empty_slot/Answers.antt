use Rattle.std.proofs.Common.{rules}
use Rattle.std.proofs.iter.runs.Sources.{ranges}
use mathlib.Core.Path.{◌≡◌, ◌∙◌}
use Rattle.std.specs.List.{find, range_with_len}
use Rattle.snapshot.specs.Write.{slot_empty}
use Rattle.snapshot.proofs.Searches.{find-lowest}
use Rattle.snapshot.proofs.writing.empty_slot.Goals as goal

pub returns : goal.returns
returns c =
    let a = c.args in
    let found : c.find.result ≡ find (slot_empty a.image.now a.n a.session) (range_with_len 0 2) = search (rules, ranges) in
    found ∙ find-lowest (slot_empty a.image.now a.n a.session) 2
