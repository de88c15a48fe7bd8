use Rattle.frames.proofs.Digits.{digits_round_trip}
use Rattle.frames.proofs.laws.digits_round_trip.Goals as goal

pub returns : goal.returns
returns c = digits_round_trip
