use Rattle.cioq.proofs.Judged.{judged_stable}
use Rattle.cioq.proofs.judge.taken_choices_are_stable.Goals as goal

pub returns : goal.returns
returns c = judged_stable
