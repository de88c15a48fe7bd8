use Rattle.matching.specs.Asking.{LeastSoFar}
use Rattle.matching.proofs.earliest.Given as goal

abbrev pub invariant-loop-rest : goal.invariant-loop-rest
invariant-loop-rest l = LeastSoFar l.slots l.o l.inputs l.rest l.least

abbrev pub decreases-loop-rest : goal.decreases-loop-rest
decreases-loop-rest l = l.rest
