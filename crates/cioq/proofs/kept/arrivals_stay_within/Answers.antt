use Rattle.cioq.proofs.Stays.{arrivals_stay}
use Rattle.cioq.proofs.kept.arrivals_stay_within.Goals as goal

pub returns : goal.returns
returns c = arrivals_stay
