use Rattle.cases.proofs.Cases.{cases_hold}
use Rattle.cases.proofs.worked_cases_hold.Goals as goal

pub returns : goal.returns
returns c = cases_hold
