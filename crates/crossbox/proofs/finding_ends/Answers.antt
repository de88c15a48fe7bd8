use Rattle.crossbox.proofs.Asks.{finding_ends}
use Rattle.crossbox.proofs.finding_ends.Goals as goal

pub returns : goal.returns
returns c = finding_ends
