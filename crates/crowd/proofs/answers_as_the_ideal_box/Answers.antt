use Rattle.crowd.proofs.Turns.{same_as_ideal}
use Rattle.crowd.proofs.answers_as_the_ideal_box.Goals as goal

pub returns : goal.returns
returns c = same_as_ideal
