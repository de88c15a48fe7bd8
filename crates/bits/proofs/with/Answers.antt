use Rattle.std.proofs.Common.{◌*◌, ◌%◌, ◌^◌}
use Rattle.std.proofs.lemmas.Nat.{one_shl}
use Rattle.bits.proofs.Sets.{with_is}
use Rattle.bits.proofs.with.Goals as goal

pub returns-clause-bits : goal.returns-clause-bits
returns-clause-bits c = with_is c.args.x c.args.k ((1 * 2 ^ c.args.k) % 4294967296) (one_shl c.args.k 32 c.requires)
