use Prim.Native.Nat.{◌-◌, ◌<◌}
use mathlib.Core.Bool.{false}
use mathlib.Core.Logic.{⊎_elim}
use mathlib.Core.Path.{refl}
use native.Mathlib.Omega.{arith}
use lib.ListN.{length}
use Rattle.walk.proofs.WalkLaws.{bad-by, recovered-by, laid-out-by, nothing_heard, heard_written}
use Rattle.walk.proofs.turning.other_turn.Goals as goal

pub returns-in-Fill-clause-other_turn : goal.returns-in-Fill-clause-other_turn
returns-in-Fill-clause-other_turn c =
    let a = c.args in
    let p = c.requires in
    let room : a.s.have - a.s.at < length a.input.now = omega (arith, rw c.in-Fill.is at p.2, p.0.longest) in
    rw c.in-Fill.is (record { input = c.refill-came.new.buf; came = c.refill-came.result; failed = false }, (room, c.refill-came.ensures), refl, rw c.filled.ensures.value)

pub returns-in-Recover-clause-other_turn : goal.returns-in-Recover-clause-other_turn
returns-in-Recover-clause-other_turn c =
    let a = c.args in
    let w = c.resume.ensures in
    rw c.in-Recover.is (nothing_heard a.input.now, refl, refl, recovered-by (length a.trace.now) (record { memory = a.image.now; output = a.output.now; state = a.s }) w.puts_line w.image_after)

pub returns-in-Lay-clause-other_turn : goal.returns-in-Lay-clause-other_turn
returns-in-Lay-clause-other_turn c =
    let a = c.args in
    let w = c.lay_out.ensures in
    rw c.in-Lay.is (nothing_heard a.input.now, refl, refl, laid-out-by _ _ (record { memory = a.image.now; output = a.output.now; state = a.s }) w.puts_line w.image_after)

pub returns-in-Bad-clause-other_turn : goal.returns-in-Bad-clause-other_turn
returns-in-Bad-clause-other_turn c =
    let a = c.args in
    rw c.in-Bad.is (nothing_heard a.input.now, refl, refl, bad-by (record { memory = a.image.now; output = a.output.now; state = a.s }) c.bad.ensures.puts_line)

pub returns-in-End-clause-other_turn : goal.returns-in-End-clause-other_turn
returns-in-End-clause-other_turn c = rw c.in-End.is (nothing_heard c.args.input.now, refl, refl, rw c.stopped.ensures.value)

pub returns-in-Flush-clause-other_turn : goal.returns-in-Flush-clause-other_turn
returns-in-Flush-clause-other_turn c =
    let f = c.flush.ensures.flushed in
    rw c.in-Flush.is (heard_written c.args.input.now f.0, refl, refl, rw f.1)

pub returns-in-Fail-clause-other_turn : goal.returns-in-Fail-clause-other_turn
returns-in-Fail-clause-other_turn c =
    let f = c.fail.ensures.output_after in
    rw c.in-Fail.is (nothing_heard c.args.input.now, refl, refl, rw (f.0, f.1))

pub returns-in-Open-clause-other_turn : goal.returns-in-Open-clause-other_turn
returns-in-Open-clause-other_turn c =
    ⊎_elim
    (λ e. rw e (nothing_heard c.args.input.now, refl, refl, refl))
    (λ e. rw e.1 (nothing_heard c.args.input.now, refl, refl, refl))
    c.in-Open.is
