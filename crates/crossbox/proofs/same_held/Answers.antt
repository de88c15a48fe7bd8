use Rattle.crossbox.proofs.Runs.{same-held}
use Rattle.crossbox.proofs.same_held.Goals as goal

pub returns : goal.returns
returns c = same-held
