use Rattle.std.proofs.Common.{sym, subst}
use Rattle.buffer.specs.Lent.{lent_to}
use Rattle.ideal.specs.State.{State}
use Rattle.switch.specs.Best.{Shows}
use Rattle.switch.specs.Taking.{Begins}
use Rattle.switch.proofs.Turns.{shows_good, begins}
use Rattle.switch.proofs.best.IdealBoxSwitch.begin.Goals as goal

pub returns : goal.returns
returns c =
    let s = c.args.self.now in
    let shown = c.requires.shown in
    subst (λ (z : State). Begins (Shows z) 256 c.args.lines (lent_to s.mem) (lent_to z.mem)) (sym c.begin.ensures)
    (begins s c.args.lines (shows_good s shown.0 shown.1) c.requires.there.0 c.requires.there.1)
