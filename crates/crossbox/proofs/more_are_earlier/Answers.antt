use Rattle.crossbox.proofs.Runs.{more-earlier}
use Rattle.crossbox.proofs.more_are_earlier.Goals as goal

pub returns : goal.returns
returns c = more-earlier
