use Rattle.cases.proofs.Closed.{closed_is_never_late}
use Rattle.cases.proofs.closed_is_never_late.Goals as goal

pub returns : goal.returns
returns c = closed_is_never_late
