use Rattle.crossbox.proofs.Runs.{stores_rise_transferred}
use Rattle.crossbox.proofs.stores_rise_transferred.Goals as goal

pub returns : goal.returns
returns c = stores_rise_transferred
