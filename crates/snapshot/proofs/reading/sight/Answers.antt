use mathlib.Core.Bool.{true}
use mathlib.Core.Path.{◌≡◌, refl, sym, ap, ◌∙◌}
use Rattle.std.specs.Prelude.{Ok}
use Rattle.std.proofs.lemmas.Result.{err_from_is_err_and}
use Rattle.layout.specs.Refusal.{cause}
use Rattle.layout.proofs.AnswerLaws.{refused-by, given-by}
use Rattle.desk.specs.Desk.{session_at, is_active, start_of, active_count}
use Rattle.desk.specs.Entering.{record_fault}
use Rattle.desk.specs.declared.reply.Reply.{Reply}
use Rattle.desk.proofs.RecordEntered.{RecordEntered, record-entered}
use Rattle.snapshot.specs.Own.{own_place}
use Rattle.snapshot.specs.declared.seeing.Sight.{Sight}
use Rattle.snapshot.proofs.OwnPlace.{holder-small, holder-found}
use Rattle.snapshot.proofs.ReadLaws.{sight-by, unstarted, read-refused, read-inactive, read-own, read-seen}
use Rattle.snapshot.proofs.Searches.{found_below, found_none}
use Rattle.snapshot.proofs.reading.sight.Goals as goal
use Rattle.snapshot.proofs.reading.sight.Goals.{In_ok-entered_record, In-Active, In-Some}

pub returns-in_err-entered_record : goal.returns-in_err-entered_record
returns-in_err-entered_record c =
    let a = c.args in
    let p = err_from_is_err_and c.from_residual.result c.from_residual.ensures.1 in
    let h = refused-by (record_fault a.image.now a.desk.now a.session a.rec) (active_count a.desk.now) c.in_err-entered_record.ensures.answer in
    rw (p.1, p.2, h.1) (sym (ap (λ (x : Reply Sight). x.answer) (read-refused a.image.now a.desk.now a.session a.rec _ refl h.0)))

-- the checks before the phase's have passed
passed : (c : In_ok-entered_record) → record_fault c.args.image.now c.args.desk.now c.args.session c.args.rec ≡ 0
passed c = (given-by _ (active_count c.args.desk.now) c.in_ok-entered_record.ensures.answer).0

facts : (c : In_ok-entered_record) → RecordEntered c.args.image.now c.args.desk.now c.args.session c.args.rec
facts c = record-entered _ _ _ _ (passed c)

pub returns-in_default : goal.returns-in_default
unfolding cause
returns-in_default c =
    let a = c.args in
    sym (ap (λ (x : Reply Sight). x.answer) (read-inactive a.image.now a.desk.now a.session a.rec (passed (goal.at.returns-in_default c).In_ok-entered_record) (unstarted _ c.in_default.not-Active)))

active : (c : In-Active) → is_active (session_at c.args.desk.now c.args.session).phase ≡ true
active c = rw c.in-Active.is

pub returns-in-Some : goal.returns-in-Some
returns-in-Some c =
    let a = c.args in
    let p = found_below 4 (own_place (session_at a.desk.now a.session) a.rec) c.own_place.ensures _ c.in-Some.is in
    rw p.1
    (sym (ap (λ (x : Reply Sight). x.answer) (read-own a.image.now a.desk.now a.session a.rec (passed (goal.at.returns-in-Some c).In_ok-entered_record) (active (goal.at.returns-in-Some c).In-Active) p.0)))

pub bounds-desk-marked_session : goal.bounds-desk-marked_session
bounds-desk-marked_session c =
    let f = facts (goal.at.bounds-desk-marked_session c).In_ok-entered_record in
    rw c.marked_session.ensures (holder-small _ f.session.coherent _ f.small)

pub seen-requires : goal.seen-requires
seen-requires c =
    let f = facts (goal.at.seen-requires c).In_ok-entered_record in
    (f.small, holder-found c.args.desk.now f.session.coherent c.args.rec f.small _ c.marked_session.ensures)

pub returns : goal.returns
returns c =
    let a = c.args in
    ap Ok (sight-by _ a.desk.now a.rec _ _ _ _ c.seen.ensures (sym (ap start_of c.in-Active.is)) c.marked_session.ensures)
    ∙ sym (ap (λ (x : Reply Sight). x.answer) (read-seen a.image.now a.desk.now a.session a.rec (passed (goal.at.returns c).In_ok-entered_record) (active (goal.at.returns c).In-Active) (found_none 4 _ c.own_place.ensures c.in_default-own_place.not-Some)))
