use Rattle.ideal.proofs.Kept.{slot_stays}
use Rattle.ideal.proofs.slot_stays_within_the_settings.Goals as goal

pub returns : goal.returns
returns c = slot_stays
