use Rattle.cases.proofs.Largest.{largest_is_largest}
use Rattle.cases.proofs.largest_is_largest.Goals as goal

pub returns : goal.returns
returns c = largest_is_largest
