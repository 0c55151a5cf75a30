use Prim.Native.Nat.{◌<◌}
use mathlib.Core.Bool.{true}
use mathlib.Core.Path.{◌≡◌, refl, sym, ◌∙◌}
use native.Mathlib.Omega.{arith}
use Rattle.std.proofs.lemmas.Result.{err_from_is_err_and}
use Rattle.layout.specs.Refusal.{cause}
use Rattle.layout.proofs.AnswerLaws.{refused-by, given-by}
use Rattle.desk.specs.Desk.{session_at, is_active, active_count}
use Rattle.desk.specs.Entering.{record_fault}
use Rattle.desk.proofs.DeskEntered.{markable}
use Rattle.desk.proofs.RecordEntered.{RecordEntered, record-entered}
use Rattle.snapshot.specs.Own.{own_place}
use Rattle.snapshot.proofs.Searches.{found_below, found_none}
use Rattle.snapshot.proofs.WriteLaws.{copy-room, write-refused, write-inactive, write-own, write-taken, write-full, write-copied}
use Rattle.snapshot.proofs.writing.put_copy.Goals as goal
use Rattle.snapshot.proofs.writing.put_copy.Goals.{In_ok-entered_record, Else-not-is_active, In-Some}

pub returns-in_err-entered_record : goal.returns-in_err-entered_record
returns-in_err-entered_record c =
    let a = c.args in
    let p = err_from_is_err_and c.from_residual.result c.from_residual.ensures.1 in
    let h = refused-by (record_fault a.image.now a.desk.now a.session a.rec) (active_count a.desk.now) c.in_err-entered_record.ensures.answer in
    rw (p.1, p.2, h.1, write-refused a.image.now a.desk.now a.session a.rec a.words _ refl h.0) (record { answer = refl; desk = refl })

-- the checks before the phase's have passed
passed : (c : In_ok-entered_record) → record_fault c.args.image.now c.args.desk.now c.args.session c.args.rec ≡ 0
passed c = (given-by _ (active_count c.args.desk.now) c.in_ok-entered_record.ensures.answer).0

facts : (c : In_ok-entered_record) → RecordEntered c.args.image.now c.args.desk.now c.args.session c.args.rec
facts c = record-entered _ _ _ _ (passed c)

pub returns-then-not-is_active : goal.returns-then-not-is_active
unfolding cause
returns-then-not-is_active c =
    let a = c.args in
    rw (write-inactive a.image.now a.desk.now a.session a.rec a.words (passed (goal.at.returns-then-not-is_active c).In_ok-entered_record) (sym c.is_active.ensures ∙ c.if-not-is_active.true))
    (record { answer = refl; desk = refl })

active : (c : Else-not-is_active) → is_active (session_at c.args.desk.now c.args.session).phase ≡ true
active c = sym c.is_active.ensures ∙ c.if-not-is_active.false

-- an own copy has one of the four places
own : (c : In-Some)
    → let e = session_at c.args.desk.now c.args.session in (own_place e c.args.rec < 4) × (c.in-Some.own ≡ own_place e c.args.rec)
own c = found_below 4 _ c.own_place.ensures _ c.in-Some.is

pub overwrite-requires : goal.overwrite-requires
overwrite-requires c = let p = own (goal.at.overwrite-requires c).In-Some in (p.1, omega (arith, p))

pub returns-in-Some : goal.returns-in-Some
returns-in-Some c =
    let a = c.args in let at = goal.at.returns-in-Some c in
    rw (c.overwrite.ensures, write-own a.image.now a.desk.now a.session a.rec a.words (passed at.In_ok-entered_record) (active at.Else-not-is_active) (own at.In-Some).0)
    (record { answer = refl; desk = refl })

pub unmark-requires : goal.unmark-requires
unmark-requires c =
    let f = (facts (goal.at.unmark-requires c).In_ok-entered_record).session in markable (f.coherent.session _ f.small) f.coherent.n-high _ (omega arith)

pub returns-then-mark-ne0 : goal.returns-then-mark-ne0
returns-then-mark-ne0 c =
    let a = c.args in let at = goal.at.returns-then-mark-ne0 c in
    rw (c.from.ensures, c.idle.ensures, c.leave-desk.ensures, c.unmark.ensures, write-taken a.image.now a.desk.now a.session a.rec a.words (passed at.In_ok-entered_record) (active at.Else-not-is_active) (found_none 4 _ c.own_place.ensures c.in_default.not-Some) c.if-mark-ne0.true)
    (record { answer = refl; desk = refl })

pub slot_for-requires : goal.slot_for-requires
slot_for-requires c = let f = (facts (goal.at.slot_for-requires c).In_ok-entered_record).session in (f.coherent.n-high, f.small)

pub returns-in_err-slot : goal.returns-in_err-slot
returns-in_err-slot c =
    let a = c.args in let at = goal.at.returns-in_err-slot c in
    let p = err_from_is_err_and c.from_residual-in_err-slot.result c.from_residual-in_err-slot.ensures.1 in
    let h = refused-by _ _ c.in_err-slot.ensures in
    rw (p.1, p.2, h.1, write-full a.image.now a.desk.now a.session a.rec a.words (passed at.In_ok-entered_record) (active at.Else-not-is_active) (found_none 4 _ c.own_place.ensures c.in_default.not-Some) c.if-mark-ne0.false h.0)
    (record { answer = refl; desk = refl })

pub extend-requires : goal.extend-requires
extend-requires c = copy-room _ _ _ (given-by _ _ c.in_ok-slot.ensures).0

pub returns : goal.returns
returns c =
    let a = c.args in let at = goal.at.returns c in
    let h = given-by _ _ c.in_ok-slot.ensures in
    rw (c.extend.ensures, h.1, write-copied a.image.now a.desk.now a.session a.rec a.words (passed at.In_ok-entered_record) (active at.Else-not-is_active) (found_none 4 _ c.own_place.ensures c.in_default.not-Some) c.if-mark-ne0.false h.0)
    (record { answer = refl; desk = refl })
