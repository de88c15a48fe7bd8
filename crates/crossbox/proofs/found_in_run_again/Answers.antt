use Rattle.crossbox.proofs.Promise.{found_in_run_again}
use Rattle.crossbox.proofs.found_in_run_again.Goals as goal

pub returns : goal.returns
returns c = found_in_run_again
