use Rattle.cioq.proofs.Stays.{departures_stay}
use Rattle.cioq.proofs.kept.departures_stay_within.Goals as goal

pub returns : goal.returns
returns c = departures_stay
