use Rattle.steps.proofs.Stays.{arrivals_stay}
use Rattle.steps.proofs.kept.arrivals_stay_within.Goals as goal

pub returns : goal.returns
returns c = arrivals_stay
