use Rattle.std.proofs.Common.{ap, arith}
use Rattle.ideal.specs.State.{State, seen}
use Rattle.ideal.proofs.Good.{depart_good}
use Rattle.ideal.proofs.IdealBox.depart.Goals as goal

pub invariant_of-self : goal.invariant_of-self
invariant_of-self c =
    let lines = ap (λ (s : State). s.lines) c.self.view_is in
    let s = seen c.self.inside.memory c.self.inside.lines c.self.inside.slots in
    rw c.leave.ensures.after (depart_good s c.args.output c.self.invariant (omega arith))
