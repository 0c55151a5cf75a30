use mathlib.Core.Path.{refl, sym, ap, ◌∙◌}
use Rattle.std.specs.Prelude.{Err}
use Rattle.std.specs.Result.{result_and}
use Rattle.layout.specs.declared.refusal.Refusal.TheVariants.{CopiesHeld}
use Rattle.desk.specs.declared.reply.Reply.{Reply}
use Rattle.snapshot.specs.declared.seeing.Sight.{Sight}
use Rattle.snapshot.specs.Told.{read_told}
use Rattle.listening.proofs.ReadLaws.{listen-read-told, read-heard, read_held}
use Rattle.listening.proofs.reading.read.Goals as goal

pub returns-then-not-holds_copies : goal.returns-then-not-holds_copies
returns-then-not-holds_copies c =
    let a = c.args in
    rw (c.read-reply.ensures.reply, read-heard a.image.now a.desk a.session a.rec (sym c.holds_copies.ensures ∙ c.if-not-holds_copies.true))
    (record { reply = refl; told = listen-read-told a.image.now a.desk a.session a.rec })

pub returns : goal.returns
returns c =
    let a = c.args in
    let e = c.and.ensures ∙ ap (λ (x : Reply Sight). result_and x.answer (Err CopiesHeld)) c.read-reply.ensures.reply in
    let w = read_held a.image.now a.desk a.session a.rec (sym c.holds_copies.ensures ∙ c.if-not-holds_copies.false) e in
    record { reply = w; told = ap (λ (x : Reply Sight). read_told x.answer) w ∙ listen-read-told a.image.now a.desk a.session a.rec }
