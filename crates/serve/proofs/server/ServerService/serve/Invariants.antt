use Rattle.std.proofs.Common.{length}
use Rattle.serve.proofs.Loops.{Going}
use Rattle.serve.proofs.server.ServerService.serve.Given as goal

abbrev pub invariant-loop-taken : goal.invariant-loop-taken
invariant-loop-taken g l = Going g.S.Switch.shows l.input l.rest l.initial.self l.self

abbrev pub decreases-loop-taken : goal.decreases-loop-taken
decreases-loop-taken g l = length l.rest
