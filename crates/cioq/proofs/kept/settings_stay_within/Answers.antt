use Rattle.cioq.proofs.Stays.{settings_stay}
use Rattle.cioq.proofs.kept.settings_stay_within.Goals as goal

pub returns : goal.returns
returns c = settings_stay
