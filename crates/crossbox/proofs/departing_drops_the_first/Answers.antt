use Rattle.crossbox.proofs.Stores.{depart_drops}
use Rattle.crossbox.proofs.departing_drops_the_first.Goals as goal

pub returns : goal.returns
returns c = depart_drops
