-- The words of a log slot, by their place in it.
use Rattle.layout.specs.Image.{slot_word}
use Rattle.journal.specs.declared.slot.LogSlot.{LogSlot}
use Rattle.journal.specs.Log.{Slot}

abbrev pub slot_of : LogSlot → Slot
slot_of s = slot_word s.image.now s.n s.place
