use Rattle.steps.proofs.Stays.{settings_stay}
use Rattle.steps.proofs.kept.settings_stay_within.Goals as goal

pub returns : goal.returns
returns c = settings_stay
