use Rattle.crossbox.proofs.Runs.{same-held_transferred}
use Rattle.crossbox.proofs.same_held_transferred.Goals as goal

pub returns : goal.returns
returns c = same-held_transferred
