use Rattle.matching.specs.Making.{TableOf}
use Rattle.fabric.specs.Real.{up_to}
use Rattle.fabric.proofs.scan.Given as goal

abbrev pub invariant-loop-k : goal.invariant-loop-k
invariant-loop-k l =
    TableOf l.initial.firsts (up_to l.real l.input 0) → TableOf l.firsts (up_to l.real l.input l.k)
