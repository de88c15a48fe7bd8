use Rattle.crossbox.proofs.Asks.{asks_are_few}
use Rattle.crossbox.proofs.asks_are_few.Goals as goal

pub returns : goal.returns
returns c = asks_are_few
