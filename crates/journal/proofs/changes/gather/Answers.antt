use Rattle.std.proofs.Common.{◌*◌, ◌≤◌, ◌<◌, ◌∙◌, sym, length, arith, rules}
use borrow.Author.Tests.{ltb-true}
use Rattle.layout.specs.Image.{home_words}
use Rattle.journal.specs.Changes.{changes_below}
use Rattle.journal.specs.Copies.{rec_in, words_in}
use Rattle.journal.proofs.WalkLaws.{next-found, next-none, walk-next, found_all, found-many}
use Rattle.journal.proofs.changes.gather.Goals as goal

pub loop-floor-init : goal.loop-floor-init
unfolding changes_below
loop-floor-init c = (search rules, search rules, search rules)

pub returns-in_default : goal.returns-in_default
returns-in_default c =
    found_all (home_words c.args.image.now) (rec_in c.args.copies.now) (words_in c.args.copies.now) (length c.args.copies.now) c.loop-floor.floor c.args.n c.loop-floor.invariant.0 c.loop-floor.invariant.1 c.loop-floor.invariant.2 (next-none c.args.copies.now c.loop-floor.floor c.in_default.ensures)

pub note_record-requires : goal.note_record-requires
note_record-requires c =
    let f = next-found c.args.copies.now c.loop-floor.floor c.in-Some.c c.in-Some.ensures.0 c.in-Some.ensures.1 in
    let b : c.in-Some.c.rec < c.args.n = omega (arith, f.2, c.requires.by_index.0 f.0 f.3.used) in
    let s : 2 * length c.loop-floor.changes < 5 * length c.args.copies.now = ltb-true _ _ (sym c.fit.ensures ∙ c.if-fit.true) in
    (omega (arith, s, c.requires.count_bound), omega (arith, b, c.requires.count_bound))

pub overflow_add-floor : goal.overflow_add-floor
overflow_add-floor c =
    let f = next-found c.args.copies.now c.loop-floor.floor c.in-Some.c c.in-Some.ensures.0 c.in-Some.ensures.1 in
    let b : c.in-Some.c.rec < c.args.n = omega (arith, f.2, c.requires.by_index.0 f.0 f.3.used) in
    omega (arith, b, c.requires.count_bound)

pub loop-floor-smaller : goal.loop-floor-smaller
loop-floor-smaller c =
    let f = next-found c.args.copies.now c.loop-floor.floor c.in-Some.c c.in-Some.ensures.0 c.in-Some.ensures.1 in
    let b : c.loop-floor.floor ≤ c.in-Some.c.rec = omega (arith, f.2, f.3.from) in
    omega (arith, b)

pub loop-floor-preserved : goal.loop-floor-preserved
loop-floor-preserved c =
    let f = next-found c.args.copies.now c.loop-floor.floor c.in-Some.c c.in-Some.ensures.0 c.in-Some.ensures.1 in
    let b : c.in-Some.c.rec < c.args.n = omega (arith, f.2, c.requires.by_index.0 f.0 f.3.used) in
    let s : 2 * length c.loop-floor.changes < 5 * length c.args.copies.now = ltb-true _ _ (sym c.fit.ensures ∙ c.if-fit.true) in
    let m = c.note_record.ensures in (
      omega (arith, b),
      omega (arith, s, m.upper_bound, c.requires.count_bound),
      rw f.2 at (walk-next (home_words c.args.image.now) (rec_in c.args.copies.now) (words_in c.args.copies.now) (length c.args.copies.now) c.loop-floor.floor c.requires.by_index.1 f.3 c.loop-floor.invariant.2 (rw (← f.1) at m.noted)),
    )

pub returns-else-fit : goal.returns-else-fit
returns-else-fit c = found-many (home_words c.args.image.now) (rec_in c.args.copies.now) (words_in c.args.copies.now) (length c.args.copies.now) c.loop-floor.floor c.args.n c.loop-floor.invariant.0 c.loop-floor.invariant.1 c.loop-floor.invariant.2 (sym c.fit.ensures ∙ c.if-fit.false)
