use Rattle.steps.proofs.StableNamed.{stable_named}
use Rattle.steps.proofs.stable_choices_are_named.Goals as goal

pub returns : goal.returns
returns c = stable_named
