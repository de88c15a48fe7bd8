use Rattle.std.proofs.Common.{ap}
use Rattle.cioq.specs.State.{State}
use Rattle.fabric.proofs.Laws.{made_unset}
use Rattle.fabric.proofs.Fabric.new.Goals as goal

pub returns : goal.returns
returns c =
    let e = c.in_ok-real.ensures.0 in
    let q = c.in_ok-real.ensures.1 in
    (e, made_unset _ c.in_ok-real.real e q, ap (λ (z : State). z.mem) q)
