use Rattle.frames.proofs.Lines.{lines_rejoin}
use Rattle.frames.proofs.laws.lines_rejoin.Goals as goal

pub returns : goal.returns
returns c = lines_rejoin
