use Rattle.std.proofs.Common.{arith}
use Rattle.firsts.proofs.Exact.{later_more}
use Rattle.firsts.proofs.put_back.Goals as goal

pub loop-place-preserved : goal.loop-place-preserved
loop-place-preserved c =
    later_more c.args.places.now c.loop-place.places c.loop-place.place-index c.args.k (omega arith) c.saturating_add.result c.from.result c.loop-place.invariant c.from.ensures c.saturating_add.ensures
