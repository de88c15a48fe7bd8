use Rattle.cases.proofs.Ours.{ours_is_the_models}
use Rattle.cases.proofs.ours_is_the_models.Goals as goal

pub returns : goal.returns
returns c = ours_is_the_models
