use Rattle.crossbox.proofs.Runs.{same-held-departed}
use Rattle.crossbox.proofs.same_held_departed.Goals as goal

pub returns : goal.returns
returns c = same-held-departed
