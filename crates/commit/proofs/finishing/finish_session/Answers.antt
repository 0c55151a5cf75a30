use mathlib.Core.Path.{◌≡◌, refl}
use lib.ListN.{length}
use Rattle.std.proofs.lemmas.Result.{err_from_is_err_and}
use Rattle.layout.specs.Checks.{room_for}
use Rattle.layout.proofs.AnswerLaws.{refused-by, given-by}
use Rattle.layout.proofs.Stored.{stored-none}
use Rattle.desk.specs.Desk.{active_count}
use Rattle.desk.specs.Entering.{image_fault}
use Rattle.commit.proofs.FinishLaws.{seal_fault, finish-refused, finish-shut, finish-empty, finish-sealed}
use Rattle.commit.proofs.finishing.finish_session.Goals as goal
use Rattle.commit.proofs.finishing.finish_session.Goals.{In_ok-entered, In_ok-check_seal}

pub returns-in_err-entered : goal.returns-in_err-entered
returns-in_err-entered c =
    let a = c.args in
    let p = err_from_is_err_and c.from_residual.result c.from_residual.ensures.1 in
    let f = refused-by _ (active_count a.desk.now) c.in_err-entered.ensures.answer in
    let g = finish-refused a.image.now a.desk.now (length a.trace.now) a.session _ refl f.0 in
    let s = stored-none _ _ _ g.lists in
    record { given = rw (p.1, p.2, f.1, g.reply) refl; desk = rw g.reply refl; image = s.0; trace = s.1 }

-- 1 to 4 have passed
passed : (c : In_ok-entered) → let a = c.args in image_fault a.image.now a.desk.now (room_for (length a.trace.now)) a.session ≡ 0
passed c = (given-by _ (active_count c.args.desk.now) c.in_ok-entered.ensures.answer).0

pub returns-in_err-check_seal : goal.returns-in_err-check_seal
returns-in_err-check_seal c =
    let a = c.args in
    let p = err_from_is_err_and c.from_residual-in_err-check_seal.result c.from_residual-in_err-check_seal.ensures.1 in
    let f = refused-by (seal_fault a.desk.now a.session) tt c.in_err-check_seal.ensures in
    let g = finish-shut _ _ _ _ (passed (goal.at.returns-in_err-check_seal c).In_ok-entered) _ refl f.0 in
    let s = stored-none _ _ _ g.lists in
    record { given = rw (p.1, p.2, f.1, g.reply) refl; desk = rw g.reply refl; image = s.0; trace = s.1 }

-- 6 and 10 have passed
unshut : (c : In_ok-check_seal) → seal_fault c.args.desk.now c.args.session ≡ 0
unshut c = (given-by (seal_fault c.args.desk.now c.args.session) tt c.in_ok-check_seal.ensures).0

pub returns-then-count-eq0 : goal.returns-then-count-eq0
returns-then-count-eq0 c =
    let at = goal.at.returns-then-count-eq0 c in
    let g = finish-empty _ _ _ _ (passed at.In_ok-entered) (unshut at.In_ok-check_seal) c.if-count-eq0.true in
    let s = stored-none _ _ _ g.lists in
    record { given = rw g.reply refl; desk = rw (g.reply, c.idle.ensures, c.leave-desk.ensures) refl; image = s.0; trace = s.1 }

pub seal-entries-requires : goal.seal-entries-requires
seal-entries-requires c = passed (goal.at.seal-entries-requires c).In_ok-entered

pub returns : goal.returns
returns c =
    let at = goal.at.returns c in
    let g = finish-sealed _ _ _ _ (passed at.In_ok-entered) (unshut at.In_ok-check_seal) c.if-count-eq0.false in
    let w = c.seal-entries.ensures in
    record {
      given = rw (g.reply, w.count) refl;
      desk = rw (g.reply, c.leave-desk-2.ensures) refl;
      image = rw g.lists w.image;
      trace = rw g.lists w.trace;
    }
