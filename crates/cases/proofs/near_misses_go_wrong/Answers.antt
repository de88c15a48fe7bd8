use Rattle.cases.proofs.Misses.{misses_go_wrong}
use Rattle.cases.proofs.near_misses_go_wrong.Goals as goal

pub returns : goal.returns
returns c = misses_go_wrong
