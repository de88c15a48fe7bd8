use Rattle.ideal.specs.State.{seen}
use Rattle.ideal.proofs.Good.{begun_good}
use Rattle.ideal.proofs.IdealBox.begin.Goals as goal

pub invariant_of-self : goal.invariant_of-self
invariant_of-self c =
    let b = c.self.inside in
    rw (c.reset.ensures, c.from.ensures) (begun_good (seen b.memory b.lines b.slots) c.args.lines c.self.invariant c.requires)
