use Rattle.std.proofs.Common.{◌+◌, ap, ◌∙◌, arith}
use Rattle.crossbox.specs.declared.Cell.{Cell}
use Rattle.places.specs.Head.{head_of}
use Rattle.buffer.specs.Memory.{view}
use Rattle.buffer.proofs.Safety.{place_in}
use Rattle.buffer.proofs.Carry.{carry_exact}
use Rattle.buffer.proofs.memory.Memory.carry.Goals as goal

pub returns : goal.returns
returns g c =
    carry_exact (view c.args.self.now) c.args.from c.args.k c.args.to c.args.j c.move_down.new.part c.move_up.new.part c.of.result
    (c.of.ensures ∙ (ap (λ o. head_of c.cell.result (o + 1)) c.from.ensures ∙ ap (λ (x : Cell). head_of x (c.args.to + 1)) c.cell.ensures))
    c.move_down.ensures c.move_up.ensures

pub bounds-self-place-2 : goal.bounds-self-place-2
bounds-self-place-2 g c =
    omega (arith, place_in (view c.args.self.now) c.args.from c.args.k c.requires.sound c.requires.within.0 c.requires.within.1, c.requires.sound.heads_reach)
