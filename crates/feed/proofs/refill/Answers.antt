use Rattle.std.proofs.Common.{◌≤◌, ◌-◌, length, arith, rules}
use Rattle.feed.proofs.ShiftLaws.{moved-kept}
use Rattle.feed.proofs.refill.Goals as goal

pub returns : goal.returns
returns c =
    let l : c.unwrap_or.result ≤ length c.args.buf.now - (c.args.have - c.args.at) = search rules in
    record {
      kept = moved-kept c.args.buf.now c.copy_within.new.self _ c.args.at (c.args.have - c.args.at) (omega arith) (omega arith) c.copy_within.ensures.after;
      fits = omega arith;
    }
