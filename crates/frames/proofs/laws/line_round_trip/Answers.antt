use Rattle.frames.proofs.Lines.{line_round_trip}
use Rattle.frames.proofs.laws.line_round_trip.Goals as goal

pub returns : goal.returns
returns c = line_round_trip
