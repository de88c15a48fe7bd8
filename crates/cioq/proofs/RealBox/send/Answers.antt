use Rattle.std.proofs.Common.{rules, ◌≡◌, ◌<◌, length, sym, ap, ◌∙◌, subst, arith}
use Rattle.buffer.specs.Memory.{Mem, view}
use Rattle.cioq.specs.State.{State, Good, seen}
use Rattle.cioq.specs.Spells.{cells}
use Rattle.cioq.specs.Transfers.{position, sent}
use Rattle.cioq.proofs.Seeking.{found_is}
use Rattle.cioq.proofs.Transfers.{send_from, send_to, send_room, sent_good}
use Rattle.cioq.proofs.RealBox.send.Goals as goal

pub carry-requires : goal.carry-requires
carry-requires c =
    let b = c.self.inside in
    let s = seen b.memory b.held b.lines b.slots in
    let g = c.self.invariant in
    let few = g.few in
    let l = ap (λ z. z.lines) c.self.view_is in
    let i : c.args.input < b.lines = omega (arith, c.requires.there.0) in
    let o : c.args.output < b.lines = omega (arith, c.requires.there.1) in
    let w = subst (λ (z : State). position c.args.output (cells z.mem c.args.input) < length (cells z.mem c.args.input)) (sym c.self.view_is) c.requires.waits in
    let k = found_is c.args.output c.unwrap-k.result (cells s.mem c.args.input) (sym c.first_for.ensures ∙ c.unwrap-k.ensures) in (
      omega arith,
      (
        g.sound,
        (
          (omega arith, omega (arith, send_from s c.args.input c.args.output g i o w, k.0)),
          (
            (omega arith, omega (arith, send_to s c.args.input c.args.output g i o w c.cell-cell.result, c.place_for-j.ensures), send_room s c.args.input c.args.output g i o w),
            (λ e. omega arith),
          ),
        ),
      ),
    )

pub invariant_of-self : goal.invariant_of-self
invariant_of-self c =
    let b = c.self.inside in
    let s = seen b.memory b.held b.lines b.slots in
    let l = ap (λ z. z.lines) c.self.view_is in
    let w = subst (λ (z : State). position c.args.output (cells z.mem c.args.input) < length (cells z.mem c.args.input)) (sym c.self.view_is) c.requires.waits in
    let e : view c.carry.new.self ≡ (sent c.args.input c.args.output s).mem = search rules in
    subst (λ (m : Mem). Good (record { mem = m; counts = b.held; lines = b.lines; slots = b.slots })) (sym e)
    (sent_good s c.args.input c.args.output c.self.invariant (omega (arith, c.requires.there.0)) (omega (arith, c.requires.there.1)) w)
