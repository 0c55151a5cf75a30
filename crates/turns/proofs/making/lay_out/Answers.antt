use mathlib.Core.Path.{refl, ◌≡◌, sym, ◌∙◌}
use Rattle.std.specs.Prelude.{Err}
use Rattle.steps.proofs.ApplyLaws.{told-again}
use Rattle.turns.specs.Make.{laying}
use Rattle.turns.proofs.making.lay_out.Goals as goal

pub returns-in-Err-clause-puts_line : goal.returns-in-Err-clause-puts_line
returns-in-Err-clause-puts_line c =
    let e : laying c.args.image.now c.args.n c.args.m ≡ Err c.in-Err.refusal = sym (sym c.in-Err.is ∙ rw c.image_size-size.ensures.value at c.lay.ensures.answer) in
    rw (e, told-again c.in-Err.refusal) (c.put_line.ensures.put, refl)
