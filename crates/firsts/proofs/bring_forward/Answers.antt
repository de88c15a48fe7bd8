use Rattle.std.proofs.Common.{arith}
use Rattle.firsts.proofs.Exact.{sooner-more}
use Rattle.firsts.proofs.bring_forward.Goals as goal

pub loop-place-preserved : goal.loop-place-preserved
loop-place-preserved c =
    sooner-more c.args.places.now c.loop-place.places c.loop-place.place-index c.args.k (omega arith) c.from.result c.loop-place.invariant c.from.ensures
