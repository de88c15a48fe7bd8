use Rattle.std.proofs.Common.{ap, ◌∙◌}
use Rattle.cioq.specs.Choice.{choice_of}
use Rattle.crowd.specs.State.{State, seen}
use Rattle.crowd.proofs.Reading.{found-fits, found_good, found_waits}
use Rattle.crowd.proofs.Steps.{second_keeps}
use Rattle.crowd.proofs.Crowd.take_second.Goals as goal

pub transfer-requires : goal.transfer-requires
transfer-requires c =
    let b = c.self.inside in
    let s = seen b.real b.due b.away in
    let found = rw (← c.self.view_is) at c.in_ok-choice.ensures in
    record {
      fits = found-fits s c.args.lines.now c.in_ok-choice.choice found;
      waits = found_waits s c.args.lines.now c.in_ok-choice.choice found;
    }

pub invariant_of-self : goal.invariant_of-self
invariant_of-self c =
    let b = c.self.inside in
    let s = seen b.real b.due b.away in
    let found = rw (← c.self.view_is) at c.in_ok-choice.ensures in
    rw c.transfer.ensures
    (second_keeps s c.self.invariant (choice_of c.in_ok-choice.choice) (found-fits s c.args.lines.now c.in_ok-choice.choice found) (found_good s c.args.lines.now c.in_ok-choice.choice found)
    (ap (λ (z : State). z.due) c.self.view_is ∙ c.requires))
