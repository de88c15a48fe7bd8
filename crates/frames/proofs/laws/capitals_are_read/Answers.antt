use Rattle.frames.proofs.Digits.{capitals_are_read}
use Rattle.frames.proofs.laws.capitals_are_read.Goals as goal

pub returns : goal.returns
returns c = capitals_are_read
