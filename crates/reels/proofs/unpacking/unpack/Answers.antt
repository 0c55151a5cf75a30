use mathlib.Core.Path.{◌≡◌, refl, sym, ◌∙◌}
use Rattle.std.proofs.lemmas.Result.{err_from_is_err_and}
use Rattle.reels.specs.Reel.{reel_of, reel_fault}
use Rattle.reels.specs.Unpack.{unpack_reply}
use Rattle.reels.proofs.Unpacked.{checked, unpack-told}
use Rattle.reels.proofs.unpacking.unpack.Goals as goal

pub returns-then-unused : goal.returns-then-unused
unfolding unpack_reply
returns-then-unused c =
    let u = sym c.unused.ensures ∙ c.if-unused.true in
    let t = unpack-told c.args.words in
    record { reply = rw u refl; told = rw u at t }

pub returns-in_err-check_reel : goal.returns-in_err-check_reel
unfolding unpack_reply
returns-in_err-check_reel c =
    let ws = c.args.words in
    let u = sym c.unused.ensures ∙ c.if-unused.false in
    let p = err_from_is_err_and c.from_residual.result c.from_residual.ensures.1 in
    let e = c.in_err-check_reel.ensures in
    let h = checked (reel_fault (reel_of ws)) _ (rw c.reel_of-reel.ensures at e) in
    let r : c.from_residual.result ≡ unpack_reply ws = rw (p.1, p.2, h.1, u, h.0) refl in
    record { reply = r; told = rw r (unpack-told ws) }

pub returns-then-speedless : goal.returns-then-speedless
unfolding unpack_reply
returns-then-speedless c =
    let ws = c.args.words in
    let u = sym c.unused.ensures ∙ c.if-unused.false in
    let e = c.in_ok-check_reel.ensures in
    let h = checked (reel_fault (reel_of ws)) _ (rw c.reel_of-reel.ensures at e) in
    let m = sym c.speedless.ensures ∙ c.if-speedless.true in
    let n = rw c.reel_of-reel.ensures at m in
    let t = unpack-told ws in
    record { reply = rw (c.reel_of-reel.ensures, u, h, n) refl; told = rw c.reel_of-reel.ensures (rw (u, h, n) at t) }

pub returns : goal.returns
unfolding unpack_reply
returns c =
    let ws = c.args.words in
    let u = sym c.unused.ensures ∙ c.if-unused.false in
    let e = c.in_ok-check_reel.ensures in
    let h = checked (reel_fault (reel_of ws)) _ (rw c.reel_of-reel.ensures at e) in
    let m = sym c.speedless.ensures ∙ c.if-speedless.false in
    let n = rw c.reel_of-reel.ensures at m in
    let t = unpack-told ws in
    record { reply = rw (c.reel_of-reel.ensures, u, h, n) refl; told = rw c.reel_of-reel.ensures (rw (u, h, n) at t) }
