use Rattle.cases.proofs.Ours.{ours_is_alike}
use Rattle.cases.proofs.ours_is_alike.Goals as goal

pub returns : goal.returns
returns c = ours_is_alike
