use Rattle.reels.proofs.Lengths.{product-fits}
use Rattle.reels.proofs.tape.metres.Goals as goal

pub overflow_mul-result : goal.overflow_mul-result
overflow_mul-result c = record { fits = product-fits c.args.seconds c.args.code c.requires.0 }
