use Rattle.std.proofs.Common.{sym, subst}
use Rattle.buffer.specs.Memory.{Mem}
use Rattle.cioq.specs.State.{Good, unset}
use Rattle.cioq.proofs.Begun.{made_good}
use Rattle.cioq.proofs.RealBox.new.Goals as goal

pub invariant_of-result : goal.invariant_of-result
invariant_of-result c =
    subst (λ (m : Mem). Good (unset m)) (sym c.in_ok-memory.ensures.1) (made_good _ c.in_ok-memory.ensures.0)
