use Rattle.frames.proofs.Frames.{frames-split}
use Rattle.frames.proofs.laws.frames_split.Goals as goal

pub returns : goal.returns
returns c = frames-split
