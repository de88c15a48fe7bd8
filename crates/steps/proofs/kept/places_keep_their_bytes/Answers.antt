use Rattle.steps.proofs.Bytes.{places_kept}
use Rattle.steps.proofs.kept.places_keep_their_bytes.Goals as goal

pub returns : goal.returns
returns c = places_kept
