use Rattle.std.proofs.Common.{◌*◌, ◌%◌, ◌^◌}
use Rattle.std.proofs.lemmas.Nat.{one_shl}
use Rattle.bits.proofs.Sets.{without_is, without-less}
use Rattle.bits.proofs.without.Goals as goal

pub returns-clause-bits : goal.returns-clause-bits
returns-clause-bits c =
    without_is c.args.x c.args.k ((1 * 2 ^ c.args.k) % 4294967296) (one_shl c.args.k 32 c.requires.0) c.requires.1

pub returns-clause-less : goal.returns-clause-less
returns-clause-less c =
    without-less c.args.x c.args.k ((1 * 2 ^ c.args.k) % 4294967296) (one_shl c.args.k 32 c.requires.0) c.requires.1
