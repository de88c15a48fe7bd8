use Rattle.fabric.proofs.Laws.{found_is_taken}
use Rattle.fabric.proofs.what_is_found_is_taken.Goals as goal

pub returns : goal.returns
returns c = found_is_taken
