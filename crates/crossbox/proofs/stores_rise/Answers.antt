use Rattle.crossbox.proofs.Runs.{stores_rise}
use Rattle.crossbox.proofs.stores_rise.Goals as goal

pub returns : goal.returns
returns c = stores_rise
