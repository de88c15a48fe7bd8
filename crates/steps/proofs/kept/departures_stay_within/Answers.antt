use Rattle.steps.proofs.Stays.{departures_stay}
use Rattle.steps.proofs.kept.departures_stay_within.Goals as goal

pub returns : goal.returns
returns c = departures_stay
