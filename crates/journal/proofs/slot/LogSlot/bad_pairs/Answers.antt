use Rattle.std.proofs.Common.{refl, rules, tests}
use Rattle.journal.specs.Log.{bad_pair}
use Rattle.journal.specs.Slots.{slot_of}
use Rattle.journal.proofs.AnyLaws.{any_by}
use Rattle.journal.proofs.slot.LogSlot.bad_pairs.Goals as goal

pub returns : goal.returns
returns c = let s = c.args.self.now in any_by (bad_pair s.n (slot_of s)) 9 c.any.ensures.ran refl (λ x b q k. search (rules, tests))
