use mathlib.Core.Path.{sym, ap, ◌∙◌}
use lib.ListN.{length}
use Rattle.recovery.proofs.RecoverLaws.{reply_by, recover-whole}
use Rattle.recovery.proofs.ToldLaws.{recover-told}
use Rattle.recovery.proofs.recovering.recover.Goals as goal

pub returns-in-Ok : goal.returns-in-Ok
returns-in-Ok c =
    let i = c.args.image.now in
    let len = length c.args.trace.now in
    let s = c.replay.ensures in
    let r = ap reply_by (sym c.in-Ok.is ∙ s.given) ∙ recover-whole i len in
    let t = recover-told i len in
    record { reply = r; image = s.image; trace = s.trace; told = rw (← r) at t }

pub returns-in-Err : goal.returns-in-Err
returns-in-Err c =
    let i = c.args.image.now in
    let len = length c.args.trace.now in
    let s = c.replay.ensures in
    let r = ap reply_by (sym c.in-Err.is ∙ s.given) ∙ recover-whole i len in
    let t = recover-told i len in
    record { reply = r; image = s.image; trace = s.trace; told = rw (← r) at t }
