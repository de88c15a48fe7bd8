use Rattle.buffer.specs.Memory.{view}
use Rattle.buffer.proofs.Exact.{reset_exact}
use Rattle.buffer.proofs.memory.Memory.reset.Goals as goal

pub returns : goal.returns
returns g c =
    reset_exact (view c.args.self.now) c.args.places c.vacate.new.heads c.number.new.spare c.requires.reach.1 c.requires.reach.2 c.vacate.ensures c.number.ensures
