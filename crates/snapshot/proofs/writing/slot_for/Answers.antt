use mathlib.Core.Path.{sym}
use native.Mathlib.Omega.{arith}
use Rattle.snapshot.proofs.WriteLaws.{slot-first, slot-same, slot-none}
use Rattle.snapshot.proofs.writing.slot_for.Goals as goal

pub returns-in-0 : goal.returns-in-0
returns-in-0 c = rw (c.ok_or.ensures.value, c.empty_slot.ensures, c.in-0.is) (sym (slot-first _ c.args.e.slot))

pub returns-in-1-to-3 : goal.returns-in-1-to-3
returns-in-1-to-3 c = sym (slot-same c.args.e.count _ c.args.e.slot (omega arith) (omega arith))

pub returns-in_default : goal.returns-in_default
returns-in_default c = sym (slot-none c.args.e.count _ c.args.e.slot (omega arith))
