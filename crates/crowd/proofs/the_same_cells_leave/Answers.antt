use Rattle.crowd.proofs.Turns.{same_answer}
use Rattle.crowd.proofs.the_same_cells_leave.Goals as goal

pub returns : goal.returns
returns c = same_answer
