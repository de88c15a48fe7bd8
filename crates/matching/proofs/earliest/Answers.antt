use Rattle.std.proofs.Common.{arith}
use Rattle.matching.proofs.Least.{least_begins, least_more, least_ends}
use Rattle.matching.proofs.earliest.Goals as goal

pub loop-rest-init : goal.loop-rest-init
loop-rest-init c =
    least_begins c.args.slots.now c.args.o c.args.inputs c.lowest-first.result c.without_lowest-rest.result c.key-least.result c.lowest-first.ensures c.key-least.ensures c.without_lowest-rest.ensures.bits

pub loop-rest-preserved : goal.loop-rest-preserved
loop-rest-preserved c =
    least_more c.args.slots.now c.args.o c.args.inputs c.lowest.result c.loop-rest.rest c.without_lowest-rest-in-loop-rest.result c.loop-rest.least c.key.result c.min-least.result c.loop-rest.invariant c.lowest.ensures c.key.ensures c.min-least.ensures c.without_lowest-rest-in-loop-rest.ensures.bits

pub returns : goal.returns
returns c =
    least_ends c.args.slots.now c.args.o c.args.inputs c.loop-rest.rest c.loop-rest.least c.loop-rest.invariant (omega arith)
