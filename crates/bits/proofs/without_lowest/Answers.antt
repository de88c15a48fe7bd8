use Rattle.std.proofs.Common.{arith}
use Rattle.bits.proofs.Sets.{without_lowest_is}
use Rattle.bits.proofs.without_lowest.Goals as goal

pub returns-clause-bits : goal.returns-clause-bits
returns-clause-bits c = without_lowest_is c.args.x c.requires (omega arith)
