use mathlib.Core.Path.{ap}
use lib.ListN.{length}
use borrow.Author.Tests.{lt-ltb, le-ltb}
use Rattle.std.specs.Prelude.{⊤}
use Rattle.desk.specs.declared.reply.StoringReply.{StoringReply}
use Rattle.steps.specs.declared.applying.Applied.{Applied}
use Rattle.walk.specs.Walk.{scene_of, in_state}
use Rattle.walk.proofs.WalkLaws.{called-by}
use Rattle.walk.proofs.OneTurnLaws.{written-turn, opened-turn, called-turn}
use Rattle.walk.proofs.turning.take_turn.Goals as goal

pub returns-then-output-s-lt256-clause-one_turn : goal.returns-then-output-s-lt256-clause-one_turn
returns-then-output-s-lt256-clause-one_turn c =
    let a = c.args in
    written-turn (length a.trace.now) (scene_of a.input.now a.image.now a.output.now a.desk a.s) (lt-ltb _ _ c.if-output-s-lt256.true) c.flush.ensures.flushed

pub returns-in-Open-clause-one_turn : goal.returns-in-Open-clause-one_turn
returns-in-Open-clause-one_turn c =
    let a = c.args in
    let o = c.open.ensures in
    opened-turn (length a.trace.now) (scene_of a.input.now a.image.now a.output.now a.desk a.s) (le-ltb _ _ c.if-output-s-lt256.false)
    c.next_turn-turn.ensures.value c.in-Open.is (ap (λ (x : StoringReply ⊤). x.desk) o.reply) o.image c.opened.ensures.value

pub returns-in-Call-clause-one_turn : goal.returns-in-Call-clause-one_turn
returns-in-Call-clause-one_turn c =
    let a = c.args in
    let m = c.make-a.ensures in
    let w = scene_of a.input.now a.image.now a.output.now a.desk a.s in
    called-turn (length a.trace.now) w (le-ltb _ _ c.if-output-s-lt256.false) c.next_turn-turn.ensures.value _ c.in-Call.is
    (called-by (length a.trace.now) a.desk _ (in_state w.work c.next_turn-turn.result.state) m.reply m.image c.tell.ensures.puts_line)
    (ap (λ (x : Applied). x.desk) m.reply)
