use Rattle.crossbox.proofs.Runs.{same-held-arriving}
use Rattle.crossbox.proofs.same_held_arriving.Goals as goal

pub returns : goal.returns
returns c = same-held-arriving
