use Rattle.std.proofs.Common.{arith}
use Rattle.buffer.specs.Memory.{view}
use Rattle.buffer.proofs.Exact.{remove_exact}
use Rattle.buffer.proofs.memory.Memory.remove.Goals as goal

pub returns : goal.returns
returns g c =
    remove_exact (view c.args.self.now) c.args.row c.args.k c.given-top.result.0.len c.move_down.new.part c.given-top.result.1 (omega arith) (omega arith) c.move_down.ensures
