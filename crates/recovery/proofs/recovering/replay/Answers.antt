use mathlib.Core.Path.{◌≡◌, refl, sym, ap, ◌∙◌}
use native.Mathlib.Omega.{arith}
use lib.ListN.{length}
use Rattle.std.proofs.lemmas.Result.{err_from_is_err_and}
use Rattle.layout.proofs.Stored.{stored-none, stored-run}
use Rattle.layout.proofs.TraceLaws.{and_then, fenced}
use Rattle.layout.specs.declared.oldest.Oldest.{Oldest}
use Rattle.recovery.specs.Recover.{recover_fault}
use Rattle.recovery.proofs.RecoverLaws.{Found, Taken, recover-fits, recover-shaped, logs-checked, oldest-some, oldest-none, refused-gives, recover-refused, found, recover-clean, taken, recover-replays}
use Rattle.recovery.proofs.recovering.replay.Goals as goal
use Rattle.recovery.proofs.recovering.replay.Goals.{In_ok-check_logs, In-Some}

pub returns-in_err-check_logs : goal.returns-in_err-check_logs
returns-in_err-check_logs c =
    let i = c.args.image.now in
    let len = length c.args.trace.now in
    let p = err_from_is_err_and c.from_residual.result c.from_residual.ensures.1 in
    let h = logs-checked i len _ c.in_err-check_logs.ensures in
    let g = recover-refused i len _ refl h.0 in
    let s = stored-none _ _ _ g.lists in
    record { given = rw (p.1, p.2, h.1, g.replies) (sym (refused-gives i _)); image = s.0; trace = s.1 }

-- the checks have passed
passed : (c : In_ok-check_logs) → recover_fault c.args.image.now (length c.args.trace.now) ≡ 0
passed c = logs-checked c.args.image.now (length c.args.trace.now) _ c.in_ok-check_logs.ensures

pub overflow_mul-word : goal.overflow_mul-word
overflow_mul-word c = omega (arith, c.word.ensures, (recover-shaped _ _ (passed (goal.at.overflow_mul-word c).In_ok-check_logs)).range)

pub oldest_log-oldest-requires : goal.oldest_log-oldest-requires
oldest_log-oldest-requires c =
    let r = (recover-shaped _ _ (passed (goal.at.oldest_log-oldest-requires c).In_ok-check_logs)).range in
    (omega (arith, c.word-n.ensures, r), omega (arith, c.word.ensures, r))

pub returns-in_default : goal.returns-in_default
returns-in_default c =
    let g = recover-clean (found _ _ _ _ _ (passed (goal.at.returns-in_default c).In_ok-check_logs) c.word-n.ensures c.word.ensures refl) (oldest-none _ (sym c.in_default.is ∙ c.oldest_log-oldest.ensures)) in
    let s = stored-none _ _ _ g.lists in
    record { given = rw g.replies refl; image = s.0; trace = s.1 }

-- the log that is found
log : (c : In-Some) → Found c.args.image.now (length c.args.trace.now) c.word-n.result c.in-Some.field-0
log c =
    found _ _ _ _ _ (logs-checked c.args.image.now (length c.args.trace.now) _ c.in_ok-check_logs.ensures) c.word-n.ensures c.word.ensures
    (oldest-some _ (sym c.in-Some.is ∙ c.oldest_log-oldest.ensures)).1

numbered : (c : In-Some) → c.in-Some.field-0.number ≡ 0 → ⊥
numbered c = let h = oldest-some _ (sym c.in-Some.is ∙ c.oldest_log-oldest.ensures) in λ z. h.0 (sym (ap (λ (o : Oldest). o.number) h.1) ∙ z)

-- it is in range
in-range : (c : In-Some) → Taken c.args.image.now (length c.args.trace.now) c.word-n.result c.in-Some.field-0
in-range c = taken (log c) (numbered c)

pub replay_length-entries-requires : goal.replay_length-entries-requires
replay_length-entries-requires c =
    let t = in-range (goal.at.replay_length-entries-requires c).In-Some in record { n_bound = (t.n-high, t.low); place_bound = t.few }

pub slot_at-slot-requires : goal.slot_at-slot-requires
slot_at-slot-requires c = let t = in-range (goal.at.slot_at-slot-requires c).In-Some in (t.n-high, t.low)

pub put_denoted-a-requires : goal.put_denoted-a-requires
put_denoted-a-requires c =
    let t = in-range (goal.at.put_denoted-a-requires c).In-Some in
    record { n_bound = (t.n-high, t.low, t.homes, t.room); place_value = (t.passed, t.occupied) }

pub put_fence-b-requires : goal.put_fence-b-requires
put_fence-b-requires c = let t = in-range (goal.at.put_fence-b-requires c).In-Some in omega (arith, c.put_denoted-a.ensures.upper_bound, t.room)

pub put_store-c-requires : goal.put_store-c-requires
put_store-c-requires c =
    let t = in-range (goal.at.put_store-c-requires c).In-Some in
    record {
      listing = omega (arith, c.put_denoted-a.ensures.upper_bound, t.room);
      storing = omega (arith, c.slot_at-slot.ensures, t.inside);
      numbers = omega (arith, c.slot_at-slot.ensures, t.n-high, t.low);
    }

pub put_fence-requires : goal.put_fence-requires
put_fence-requires c = let t = in-range (goal.at.put_fence-requires c).In-Some in omega (arith, c.put_denoted-a.ensures.upper_bound, t.room)

pub returns : goal.returns
returns c =
    let at = (goal.at.returns c).In-Some in
    let g = recover-replays (log at) (numbered at) c.slot_at-slot.result c.slot_at-slot.ensures in
    let d = and_then c.put_denoted-a.ensures.did (and_then (fenced c.put_fence-b.ensures) (and_then c.put_store-c.ensures (fenced c.put_fence.ensures))) in
    let s = stored-run _ g.lists d (recover-fits g (in-range at).room) in
    record { given = rw (c.replay_length-entries.ensures, g.replies) refl; image = s.0; trace = s.1 }
