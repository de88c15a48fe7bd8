use Rattle.cioq.proofs.Bytes.{places_kept}
use Rattle.cioq.proofs.kept.places_keep_their_bytes.Goals as goal

pub returns : goal.returns
returns c = places_kept
