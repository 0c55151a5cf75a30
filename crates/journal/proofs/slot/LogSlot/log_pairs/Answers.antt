use Rattle.std.proofs.Common.{rules, tests}
use Rattle.journal.specs.Log.{index_of, word_of}
use Rattle.journal.specs.Slots.{slot_of}
use Rattle.journal.proofs.FilledLaws.{filled_by}
use Rattle.journal.proofs.slot.LogSlot.log_pairs.Goals as goal

pub returns : goal.returns
returns c j l =
    let f = slot_of c.args.self.now in
    filled_by (λ i. (index_of f i, word_of f i)) c.from_fn.ensures.items (λ x b q k. search (rules, tests)) j (0, 0) l
