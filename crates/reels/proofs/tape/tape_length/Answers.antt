use mathlib.Core.Path.{◌≡◌, refl, sym}
use mathlib.Core.Logic.{⊎_elim}
use Rattle.std.specs.Prelude.{None, Ok}
use Rattle.std.proofs.lemmas.Result.{err_from_is_err_and}
use Rattle.reels.specs.Unpack.{unpack_reply}
use Rattle.reels.specs.Length.{contents_length, length_answer}
use Rattle.reels.proofs.Unpacked.{found-good}
use Rattle.reels.proofs.Lengths.{length-told}
use Rattle.reels.specs.declared.unpacking.Contents.TheVariants.{Found}
use Rattle.reels.proofs.tape.tape_length.Goals as goal
use Rattle.reels.proofs.tape.tape_length.Goals.{In-Found}

pub returns-in_err-reel : goal.returns-in_err-reel
unfolding length_answer
returns-in_err-reel c =
    let p = err_from_is_err_and c.from_residual.result c.from_residual.ensures.1 in
    let r : c.from_residual.result ≡ length_answer c.args.words = rw (p.1, p.2, ← c.in_err-reel.ensures.reply) refl in
    record { answer = r; told = rw r (length-told c.args.words) }

found : (c : In-Found) → unpack_reply c.args.words ≡ Ok (Found c.in-Found.reel)
found c = let e = c.in_ok-reel.ensures.reply in rw c.in-Found.is at (sym e)

pub good_length-requires : goal.good_length-requires
good_length-requires c = found-good c.args.words (found c)

pub returns-in-Found : goal.returns-in-Found
unfolding length_answer
returns-in-Found c =
    let e = found (goal.at.returns-in-Found c).In-Found in
    let t = length-told c.args.words in
    record { answer = rw (e, c.good_length.ensures) refl; told = rw c.good_length.ensures (rw e at t) }

pub returns-in-Unused : goal.returns-in-Unused
unfolding length_answer
returns-in-Unused c =
    let e = sym c.in_ok-reel.ensures.reply in
    let n : contents_length c.in_ok-reel.field-0 ≡ None = ⊎_elim (λ x. rw x) (λ x. rw x.1) c.in-Unused.is in
    let t = length-told c.args.words in
    record { answer = rw (e, n) refl; told = rw (e, n) at t }
