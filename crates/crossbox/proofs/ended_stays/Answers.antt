use Rattle.crossbox.proofs.Asks.{ended_stays}
use Rattle.crossbox.proofs.ended_stays.Goals as goal

pub returns : goal.returns
returns c = ended_stays
