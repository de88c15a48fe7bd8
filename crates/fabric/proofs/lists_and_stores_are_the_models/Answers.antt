use Rattle.fabric.proofs.Laws.{two_transfers}
use Rattle.fabric.proofs.lists_and_stores_are_the_models.Goals as goal

pub returns : goal.returns
returns c = two_transfers
