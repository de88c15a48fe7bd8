use Rattle.cioq.proofs.StableNamed.{stable_named}
use Rattle.cioq.proofs.judge.stable_choices_are_named.Goals as goal

pub returns : goal.returns
returns c = stable_named
