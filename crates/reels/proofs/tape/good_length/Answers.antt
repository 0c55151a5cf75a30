use Rattle.reels.proofs.Good.{good-known}
use Rattle.reels.proofs.tape.good_length.Goals as goal

pub metres-requires : goal.metres-requires
metres-requires c = let g = good-known c.args.reel c.requires in (g.seconds, g.speed)
