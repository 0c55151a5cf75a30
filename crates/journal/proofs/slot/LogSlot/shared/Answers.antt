use Rattle.std.proofs.Common.{◌∙◌, ap, refl, rules, tests}
use Rattle.layout.specs.Below.{any_below}
use Rattle.journal.specs.Log.{place_shared, shared_b}
use Rattle.journal.specs.Slots.{slot_of}
use Rattle.journal.proofs.AnyLaws.{any_by}
use Rattle.journal.proofs.slot.LogSlot.shared.Goals as goal

pub returns : goal.returns
unfolding shared_b
returns c =
    let p = place_shared (slot_of c.args.self.now) (slot_of c.args.other.now) in
    any_by p _ c.any.ensures.ran refl (λ x b q k. search (rules, tests)) ∙ ap (λ n. any_below n p) c.places.ensures
