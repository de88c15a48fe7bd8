use Rattle.crossbox.proofs.Runs.{pairs_in_order_again}
use Rattle.crossbox.proofs.pairs_in_order_again.Goals as goal

pub returns : goal.returns
returns c = pairs_in_order_again
