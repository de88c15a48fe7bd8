use Rattle.frames.proofs.Lines.{lines_split}
use Rattle.frames.proofs.laws.lines_split.Goals as goal

pub returns : goal.returns
returns c = lines_split
