use Rattle.fabric.proofs.Laws.{model_is_run}
use Rattle.fabric.proofs.the_model_is_a_run.Goals as goal

pub returns : goal.returns
returns c = model_is_run
