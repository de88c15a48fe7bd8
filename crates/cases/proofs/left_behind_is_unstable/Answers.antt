use Rattle.cases.proofs.Misses.{left-behind_is_unstable}
use Rattle.cases.proofs.left_behind_is_unstable.Goals as goal

pub returns : goal.returns
returns c = left-behind_is_unstable
