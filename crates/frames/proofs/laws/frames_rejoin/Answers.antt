use Rattle.frames.proofs.Frames.{frames_rejoin}
use Rattle.frames.proofs.laws.frames_rejoin.Goals as goal

pub returns : goal.returns
returns c = frames_rejoin
