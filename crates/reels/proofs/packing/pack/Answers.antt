use mathlib.Core.Path.{◌≡◌, refl}
use Rattle.std.proofs.lemmas.Result.{err_from_is_err_and}
use Rattle.reels.specs.Reel.{pack_fault}
use Rattle.reels.specs.Pack.{pack_reply}
use Rattle.reels.proofs.Unpacked.{checked, pack-told}
use Rattle.reels.proofs.packing.pack.Goals as goal

pub returns-in_err-check_packing : goal.returns-in_err-check_packing
unfolding pack_reply
returns-in_err-check_packing c =
    let p = err_from_is_err_and c.from_residual.result c.from_residual.ensures.1 in
    let h = checked (pack_fault c.args.reel) _ c.in_err-check_packing.ensures in
    let r : c.from_residual.result ≡ pack_reply c.args.reel = rw (p.1, p.2, h.1, h.0) refl in
    record { reply = r; told = rw r (pack-told c.args.reel) }

pub returns : goal.returns
unfolding pack_reply
returns c =
    let h = checked (pack_fault c.args.reel) _ c.in_ok-check_packing.ensures in
    let t = pack-told c.args.reel in
    record { reply = rw (h, c.words_of.ensures) refl; told = rw c.words_of.ensures (rw h at t) }
