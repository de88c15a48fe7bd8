use Rattle.frames.proofs.Lines.{lines_round_trip}
use Rattle.frames.proofs.laws.lines_round_trip.Goals as goal

pub returns : goal.returns
returns c = lines_round_trip
