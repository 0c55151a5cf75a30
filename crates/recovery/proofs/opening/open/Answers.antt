use mathlib.Core.Path.{◌≡◌, refl, sym, ◌∙◌}
use native.Mathlib.Omega.{arith}
use lib.ListN.{length}
use Rattle.layout.proofs.AnswerLaws.{refused-by, given-by}
use Rattle.layout.proofs.Stored.{stored-none}
use Rattle.recovery.specs.Open.{open_fault}
use Rattle.recovery.proofs.OpenLaws.{Openable, openable, open-refused, open-opens}
use Rattle.recovery.proofs.ToldLaws.{open-told}
use Rattle.recovery.proofs.opening.open.Goals as goal
use Rattle.recovery.proofs.opening.open.Goals.{In_default}

pub returns-in-Err : goal.returns-in-Err
returns-in-Err c =
    let a = c.args in
    let h = refused-by (open_fault a.image.now (length a.trace.now)) tt (sym c.in-Err.is ∙ c.check_opening.ensures) in
    let g = open-refused a.image.now (length a.trace.now) _ refl h.0 in
    let s = stored-none _ _ _ g.lists in
    let t = open-told a.image.now (length a.trace.now) in
    record { reply = rw (c.fresh.ensures, h.1) (sym g.replies); image = s.0; trace = s.1; told = rw h.1 (rw g.replies at t) }

-- the checks have passed
passed : (c : In_default) → open_fault c.args.image.now (length c.args.trace.now) ≡ 0
passed c = (given-by (open_fault c.args.image.now (length c.args.trace.now)) tt (sym c.in_default.is ∙ c.check_opening.ensures)).0

facts : (c : In_default) → Openable c.args.image.now (length c.args.trace.now)
facts c = openable _ _ (passed c)

pub overflow_add-clock : goal.overflow_add-clock
overflow_add-clock c = omega (arith, c.word-clock.ensures, (facts (goal.at.overflow_add-clock c).In_default).below)

pub raise-entries-requires : goal.raise-entries-requires
raise-entries-requires c =
    let f = facts (goal.at.raise-entries-requires c).In_default in
    omega (arith, c.word-clock.ensures, f.below, f.room, f.shaped.size)

pub returns : goal.returns
returns c =
    let a = c.args in
    let g = open-opens _ _ (passed (goal.at.returns c).In_default) in
    let w = c.raise-entries.ensures in
    let e = c.word-clock.ensures in
    let t = open-told a.image.now (length a.trace.now) in
    record {
      reply = rw (c.fresh-2.ensures, c.word-m.ensures, c.word-n.ensures, w.count, e) (sym g.replies);
      image = rw g.lists (rw e at w.image);
      trace = rw g.lists (rw e at w.trace);
      told = rw g.replies at t;
    }
