use Rattle.ideal.proofs.Kept.{settings_stay}
use Rattle.ideal.proofs.settings_stay_within.Goals as goal

pub returns : goal.returns
returns c = settings_stay
