use mathlib.Core.Bool.{Bool, true, false, cond}
use mathlib.Core.Path.{◌≡◌, refl, sym, ◌∙◌}
use Prim.Native.Nat.{◌≤◌}
use mir.Val.{bool_byte}
use native.Mathlib.Omega.{arith}
use Rattle.desk.proofs.Walk.{walk-starts, walk-turns, walk-fails, walk_ends, few}
use Rattle.desk.proofs.state.Desk.strike_copies.Goals as goal

byte-is : (b : Bool) → bool_byte b ≡ cond b 1 0
byte-is true = refl
byte-is false = refl

byte-most : (b : Bool) → bool_byte b ≤ 1
byte-most true = omega arith
byte-most false = omega arith

pub loop-s-init : goal.loop-s-init
loop-s-init c = walk-starts c.args.self.now

pub returns-then-not-strike_as : goal.returns-then-not-strike_as
returns-then-not-strike_as c = walk-fails c.loop-s.invariant c.loop-s-test.true (sym c.strike_as.ensures.0 ∙ c.if-not-strike_as.true)

pub overflow_add-struck : goal.overflow_add-struck
overflow_add-struck c = omega (arith, few c.loop-s.invariant, c.from.ensures, byte-most c.is_active.result)

pub overflow_add-struck-in-loop-s : goal.overflow_add-struck-in-loop-s
overflow_add-struck-in-loop-s c = omega (arith, few c.loop-s.invariant, c.from-in-loop-s.ensures, byte-most c.is_sealed.result)

pub loop-s-preserved : goal.loop-s-preserved
loop-s-preserved c =
    rw (c.strike_as.ensures.1, c.from.ensures, c.from-in-loop-s.ensures, byte-is c.is_active.result, byte-is c.is_sealed.result, c.is_active.ensures, c.is_sealed.ensures)
    (walk-turns c.loop-s.invariant (sym c.strike_as.ensures.0 ∙ c.if-not-strike_as.false))

pub returns : goal.returns
returns c = walk_ends c.loop-s.invariant (omega arith)
