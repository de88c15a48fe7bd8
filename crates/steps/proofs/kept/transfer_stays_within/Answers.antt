use Rattle.steps.proofs.Stays.{transfer_stays}
use Rattle.steps.proofs.kept.transfer_stays_within.Goals as goal

pub returns : goal.returns
returns c = transfer_stays
