use Rattle.crossbox.proofs.Promise.{found_is_stable}
use Rattle.crossbox.proofs.found_is_stable.Goals as goal

pub returns : goal.returns
returns c = found_is_stable
