use mathlib.Core.Bool.{false}
use mathlib.Core.Path.{◌≡◌, refl, sym, ap, ◌∙◌}
use lib.ListN.{length}
use Rattle.desk.specs.Desk.{start_at}
use Rattle.std.specs.Prelude.{ℕ, Option}
use Rattle.commit.specs.Told.{finish_told}
use Rattle.desk.specs.declared.reply.StoringReply.{StoringReply}
use Rattle.listening.specs.Listener.{holds_copies}
use Rattle.listening.proofs.FinishLaws.{listen-finish-told, nothing_stored, finish-left, finish-turned}
use Rattle.listening.proofs.finishing.finish.Goals as goal

pub returns-then-not-holds_copies : goal.returns-then-not-holds_copies
returns-then-not-holds_copies c =
    let a = c.args in
    let n : holds_copies a.desk a.session ≡ false = sym c.holds_copies.ensures ∙ c.if-not-holds_copies.true in
    let w = c.finish.ensures in
    let z = nothing_stored a.image.now a.desk (length a.trace.now) a.session n in
    rw (w.reply, finish-left a.image.now a.desk (length a.trace.now) a.session n)
    (record { reply = refl; image = rw z at w.image; trace = rw z at w.trace; told = listen-finish-told a.image.now a.desk (length a.trace.now) a.session })

pub returns : goal.returns
returns c =
    let a = c.args in
    let n = sym c.holds_copies.ensures ∙ c.if-not-holds_copies.false in
    let e = finish-turned a.image.now a.desk (length a.trace.now) a.session n (start_at a.desk a.session) c.listener_start-start.ensures c.and.ensures in
    record {
      reply = e;
      image = refl;
      trace = refl;
      told = ap (λ (x : StoringReply (Option ℕ)). finish_told x.answer) e ∙ listen-finish-told a.image.now a.desk (length a.trace.now) a.session;
    }
