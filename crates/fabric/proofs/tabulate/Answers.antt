use Rattle.std.proofs.Common.{◌≡◌, ℕ, subst, arith}
use Rattle.matching.specs.Making.{TableOf}
use Rattle.matching.proofs.Making.{table_alike}
use Rattle.fabric.specs.Real.{up_to}
use Rattle.fabric.proofs.Lists.{none_yet}
use Rattle.fabric.proofs.tabulate.Goals as goal

pub loop-input-init : goal.loop-input-init
loop-input-init c = table_alike _ _ _ (none_yet c.args.real.now) c.clear.ensures

pub returns : goal.returns
returns c =
    let e : c.loop-input.input ≡ c.args.real.now.lines = omega (arith, c.lines-input-end.ensures.lines) in
    subst (λ (i : ℕ). TableOf c.loop-input.firsts (up_to c.args.real.now i 0)) e c.loop-input.invariant
