use Rattle.steps.proofs.Judged.{judged_stable}
use Rattle.steps.proofs.taken_choices_are_stable.Goals as goal

pub returns : goal.returns
returns c = judged_stable
