use Rattle.crossbox.proofs.Promise.{found_in_run}
use Rattle.crossbox.proofs.found_in_run.Goals as goal

pub returns : goal.returns
returns c = found_in_run
