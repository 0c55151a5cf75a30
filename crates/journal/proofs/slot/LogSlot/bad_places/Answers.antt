use Rattle.std.proofs.Common.{refl, rules, tests}
use Rattle.journal.specs.Log.{bad_place}
use Rattle.journal.specs.Slots.{slot_of}
use Rattle.journal.proofs.AnyLaws.{any_by}
use Rattle.journal.proofs.slot.LogSlot.bad_places.Goals as goal

pub returns : goal.returns
returns c = let s = c.args.self.now in any_by (bad_place s.n (slot_of s)) 4 c.any.ensures.ran refl (λ x b q k. search (rules, tests))
