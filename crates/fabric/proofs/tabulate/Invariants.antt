use Rattle.matching.specs.Making.{TableOf}
use Rattle.fabric.specs.Real.{up_to}
use Rattle.fabric.proofs.tabulate.Given as goal

abbrev pub invariant-loop-input : goal.invariant-loop-input
invariant-loop-input l = TableOf l.firsts (up_to l.real l.input 0)
