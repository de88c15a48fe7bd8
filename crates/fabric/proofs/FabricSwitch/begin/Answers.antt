use Rattle.std.proofs.Common.{sym, subst}
use Rattle.buffer.specs.Lent.{lent_to}
use Rattle.cioq.specs.State.{State}
use Rattle.switch.specs.Taking.{Begins}
use Rattle.fabric.specs.Real.{Shows}
use Rattle.fabric.proofs.Turns.{shows_good, begins}
use Rattle.fabric.proofs.FabricSwitch.begin.Goals as goal

pub returns : goal.returns
returns c =
    let s = c.args.self.now.real in
    let shown = c.requires.shown in
    subst (λ (z : State). Begins (Shows z) 16448 c.args.lines (lent_to s.mem) (lent_to z.mem)) (sym c.begin.ensures)
    (begins s c.args.lines (shows_good s shown.0 shown.1) c.requires.there.0 c.requires.there.1)
