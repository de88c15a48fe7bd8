use Rattle.std.proofs.Common.{refl, arith}
use Rattle.matching.proofs.Making.{table_empty, zero_at}
use Rattle.matching.proofs.Firsts.new.Goals as goal

pub returns : goal.returns
returns c = table_empty _ (refl, omega arith, omega arith) (zero_at 32)
