use Rattle.frames.proofs.Frames.{frame_round_trip}
use Rattle.frames.proofs.laws.frame_round_trip.Goals as goal

pub returns : goal.returns
returns c = frame_round_trip
