use Rattle.std.proofs.Common.{sym, subst}
use Rattle.buffer.specs.Memory.{Mem}
use Rattle.ideal.specs.State.{Good}
use Rattle.ideal.proofs.Good.{unset_good}
use Rattle.ideal.proofs.IdealBox.new.Goals as goal

pub invariant_of-result : goal.invariant_of-result
invariant_of-result c =
    subst (λ (m : Mem). Good (record { mem = m; lines = 0; slots = 0 })) (sym c.in_ok-memory.ensures.1) (unset_good _ c.in_ok-memory.ensures.0)
