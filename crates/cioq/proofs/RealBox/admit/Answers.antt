use Rattle.std.proofs.Common.{rules, ◌≡◌, sym, ap, subst, arith}
use Rattle.crossbox.specs.declared.Arrival.{Arrival}
use Rattle.buffer.specs.Memory.{Mem, view}
use Rattle.cioq.specs.State.{Good, seen}
use Rattle.cioq.specs.Arrivals.{Brings, with_cell}
use Rattle.cioq.proofs.Room.{place_left, row_room}
use Rattle.cioq.proofs.Arrivals.{with_good}
use Rattle.cioq.proofs.RealBox.admit.Goals as goal

pub put-requires : goal.put-requires
put-requires c =
    let b = c.self.inside in
    let s = seen b.memory b.held b.lines b.slots in
    let g = c.self.invariant in
    let l = ap (λ z. z.lines) c.self.view_is in
    let br = subst (λ (x : Arrival). Brings c.args.self.now.lines x c.args.body.now) c.in-For.is c.requires.brings in
    let few = g.few in
    let some = c.requires.there in (
      omega arith,
      (
        g.sound,
        ((omega arith, omega arith, row_room s g c.args.input (omega arith) (omega arith)), place_left s g (omega arith)),
      ),
    )

pub invariant_of-self : goal.invariant_of-self
invariant_of-self c =
    let b = c.self.inside in
    let s = seen b.memory b.held b.lines b.slots in
    let l = ap (λ z. z.lines) c.self.view_is in
    let br = subst (λ (x : Arrival). Brings c.args.self.now.lines x c.args.body.now) c.in-For.is c.requires.brings in
    let more = with_cell c.args.input c.in-For.output c.args.body.now s in
    let e : view c.put.new.self ≡ more.mem = search rules in
    subst (λ (m : Mem). Good (record { mem = m; counts = more.counts; lines = b.lines; slots = b.slots })) (sym e)
    (with_good s c.args.input c.in-For.output c.args.body.now c.self.invariant (omega (arith, c.requires.there)) (omega arith) (omega arith))
