use Rattle.crossbox.proofs.Runs.{same-rejected}
use Rattle.crossbox.proofs.same_rejected.Goals as goal

pub returns : goal.returns
returns c = same-rejected
