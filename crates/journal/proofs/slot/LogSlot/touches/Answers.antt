use Rattle.std.proofs.Common.{◌∙◌, ap, refl, rules, tests}
use Rattle.layout.specs.Below.{any_below}
use Rattle.journal.specs.Log.{place_touches}
use Rattle.journal.specs.Slots.{slot_of}
use Rattle.journal.proofs.AnyLaws.{any_by}
use Rattle.journal.proofs.slot.LogSlot.touches.Goals as goal

pub returns : goal.returns
returns c =
    let p = place_touches (slot_of c.args.self.now) c.args.rec in
    any_by p _ c.any.ensures.ran refl (λ x b q k. search (rules, tests)) ∙ ap (λ n. any_below n p) c.places.ensures
