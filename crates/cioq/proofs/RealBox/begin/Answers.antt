use Rattle.std.proofs.Common.{rules, ◌≡◌, ◌*◌, sym, subst}
use Rattle.buffer.specs.Memory.{Mem, view, reset}
use Rattle.cioq.specs.State.{Good, seen, unset}
use Rattle.cioq.proofs.Begun.{begun_good}
use Rattle.cioq.proofs.RealBox.begin.Goals as goal

pub invariant_of-self : goal.invariant_of-self
invariant_of-self c =
    let b = c.self.inside in
    let e : view c.reset.new.self ≡ reset (257 * c.args.lines) (view b.memory) = search rules in
    subst (λ (m : Mem). Good (record { mem = m; counts = (unset m).counts; lines = c.args.lines; slots = 0 })) (sym e)
    (begun_good (seen b.memory b.held b.lines b.slots) c.args.lines c.self.invariant c.requires.few)
