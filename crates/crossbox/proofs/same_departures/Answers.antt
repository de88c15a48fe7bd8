use Rattle.crossbox.proofs.Runs.{same-departures}
use Rattle.crossbox.proofs.same_departures.Goals as goal

pub returns : goal.returns
returns c = same-departures
