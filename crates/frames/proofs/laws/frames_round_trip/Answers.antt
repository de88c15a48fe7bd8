use Rattle.frames.proofs.Frames.{frames_round_trip}
use Rattle.frames.proofs.laws.frames_round_trip.Goals as goal

pub returns : goal.returns
returns c = frames_round_trip
