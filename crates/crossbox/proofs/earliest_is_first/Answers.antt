use Rattle.crossbox.proofs.Stores.{earliest-first}
use Rattle.crossbox.proofs.earliest_is_first.Goals as goal

pub returns : goal.returns
returns c = earliest-first
