use Rattle.ideal.proofs.Kept.{places_kept}
use Rattle.ideal.proofs.places_keep_their_bytes.Goals as goal

pub returns : goal.returns
returns c = places_kept
