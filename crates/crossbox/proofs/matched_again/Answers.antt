use Rattle.crossbox.proofs.Promise.{matched_again}
use Rattle.crossbox.proofs.matched_again.Goals as goal

pub returns : goal.returns
returns c = matched_again
