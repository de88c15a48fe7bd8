use Rattle.std.proofs.Common.{rules}
use Rattle.crossbox.specs.Cells.{earlier}
use Rattle.crossbox.proofs.is_earlier.Goals as goal

pub returns : goal.returns
unfolding earlier
returns c = search rules
