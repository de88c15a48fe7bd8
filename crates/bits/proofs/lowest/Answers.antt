use Rattle.std.proofs.Common.{arith}
use Rattle.bits.proofs.Sets.{lowest_is}
use Rattle.bits.proofs.lowest.Goals as goal

pub returns : goal.returns
returns c = lowest_is c.args.x c.requires (omega arith)
