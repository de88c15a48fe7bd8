use Rattle.std.proofs.Common.{◌≡◌, subst, sym, ap, ◌∙◌, arith}
use Rattle.buffer.specs.Memory.{Mem}
use Rattle.cioq.specs.State.{State, Good}
use Rattle.cioq.specs.Transfers.{cell_at}
use Rattle.cioq.proofs.Lists.{cells-length, cells_at}
use Rattle.cioq.proofs.RealBox.waiting_cell.Goals as goal

pub returns : goal.returns
returns c =
    let s = c.args.self.now in
    let g = subst Good c.self.view_is c.self.invariant in
    let e = subst (λ (m : Mem). c.cell.result ≡ cell_at m c.args.input c.args.k) (ap (λ (z : State). z.mem) c.self.view_is) c.cell.ensures in
    let few = g.few in
    let there = c.requires.there in
    let n = cells-length s.mem c.args.input g.sound (omega (arith, g.rows)) in
    e ∙ sym (cells_at s.mem c.args.input c.args.k c.cell.result g.sound (omega (arith, g.rows)) (omega (arith, c.requires.within)))
