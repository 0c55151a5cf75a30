use Rattle.std.proofs.Common.{eqb, refl, rules, tests}
use Rattle.journal.specs.Log.{rec_of}
use Rattle.journal.specs.Slots.{slot_of}
use Rattle.journal.proofs.AnyLaws.{any_by}
use Rattle.journal.proofs.slot.LogSlot.repeats.Goals as goal

pub returns : goal.returns
returns c =
    let f = slot_of c.args.self.now in
    any_by (λ i. eqb (rec_of f i) (rec_of f c.args.j)) c.args.j c.any.ensures.ran refl (λ x b q k. search (rules, tests))
