use native.Mathlib.Omega.{arith}
use mathlib.Core.Path.{◌∙◌}
use lib.ListN.{length}
use Rattle.commit.proofs.FinishLaws.{SlotFits, slot-fits, copies-few, gatherable, found-length, sealed-image, sealed-trace}
use Rattle.commit.proofs.Clauses.{count_bound-by_index}
use Rattle.commit.proofs.finishing.seal.Goals as goal
use Rattle.commit.proofs.finishing.seal.Goals.{Start}

fits : (c : Start) → let a = c.args in SlotFits a.image.now a.desk.now (length a.trace.now) a.session
fits c = slot-fits _ _ _ _ c.requires

pub offset_bounds-desk-session : goal.offset_bounds-desk-session
offset_bounds-desk-session c = omega (arith, (fits (goal.at.offset_bounds-desk-session c).Start).small)

pub bounds-desk-session : goal.bounds-desk-session
bounds-desk-session c = (fits (goal.at.bounds-desk-session c).Start).small

pub copies_of-copies-requires : goal.copies_of-copies-requires
copies_of-copies-requires c = (fits (goal.at.copies_of-copies-requires c).Start).count-high

pub gather-changes-requires : goal.gather-changes-requires
gather-changes-requires c =
    let h = c.copies_of-copies.ensures in
    count_bound-by_index (rw h.value (gatherable _ _ _ h.lower_bound (fits (goal.at.gather-changes-requires c).Start)))

pub overflow_mul-session : goal.overflow_mul-session
overflow_mul-session c = omega (arith, (fits (goal.at.overflow_mul-session c).Start).small)

pub overflow_add-session : goal.overflow_add-session
overflow_add-session c = omega (arith, (fits (goal.at.overflow_add-session c).Start).place-high)

pub slot_at-base-requires : goal.slot_at-base-requires
slot_at-base-requires c = omega (arith, fits (goal.at.slot_at-base-requires c).Start)

pub offset_bounds-image-base : goal.offset_bounds-image-base
offset_bounds-image-base c = omega (arith, fits (goal.at.offset_bounds-image-base c).Start, c.slot_at-base.ensures)

pub slice_bounds-slot-count : goal.slice_bounds-slot-count
slice_bounds-slot-count c = omega (arith, fits (goal.at.slice_bounds-slot-count c).Start, c.slot_at-base.ensures)

pub slice_bounds-slot-start : goal.slice_bounds-slot-start
slice_bounds-slot-start c = omega (arith, fits (goal.at.slice_bounds-slot-start c).Start, c.slot_at-base.ensures)

pub write_log-requires : goal.write_log-requires
write_log-requires c =
    let f = fits (goal.at.write_log-requires c).Start in
    let h = c.copies_of-copies.ensures in
    rw h.value (omega (arith, f, copies-few c.args.image.now _ _ h.lower_bound f, c.slot_at-base.ensures))

pub seal_length-requires : goal.seal_length-requires
seal_length-requires c = omega (arith, (fits (goal.at.seal_length-requires c).Start).count-high)

pub returns : goal.returns
returns c =
    let a = c.args in
    let from = c.slot_at-base.ensures in
    let h = c.copies_of-copies.ensures in
    let w = rw h.value at c.write_log.ensures in
    let g = rw h.value at c.gather-changes.ensures in
    record {
      count = c.seal_length.ensures ∙ found-length a.image.now a.desk.now a.session h.lower_bound g;
      image = sealed-image a.image.now a.desk.now a.session h.lower_bound g _ from _ w.image;
      trace = sealed-trace a.image.now a.desk.now a.session h.lower_bound g _ from a.trace.now _ w.trace;
    }
