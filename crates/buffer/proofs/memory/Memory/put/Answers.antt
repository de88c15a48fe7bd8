use Rattle.std.proofs.Common.{◌+◌, ap, ◌∙◌, arith}
use Rattle.places.specs.Head.{head_of}
use Rattle.buffer.specs.Memory.{view}
use Rattle.buffer.proofs.Exact.{put_exact}
use Rattle.buffer.proofs.memory.Memory.put.Goals as goal

pub returns : goal.returns
returns g c =
    put_exact (view c.args.self.now) c.args.row c.args.k c.taken-top.result.0.len c.move_up.new.part c.args.cell c.args.body c.taken-top.result.1 c.of.result (omega arith) (omega arith)
    (c.of.ensures ∙ ap (λ o. head_of c.args.cell (o + 1)) c.from.ensures)
    c.move_up.ensures
