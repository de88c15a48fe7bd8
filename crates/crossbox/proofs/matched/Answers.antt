use Rattle.crossbox.proofs.Promise.{matched}
use Rattle.crossbox.proofs.matched.Goals as goal

pub returns : goal.returns
returns c = matched
