use Rattle.switch.proofs.Turns.{serves}
use Rattle.switch.proofs.best.IdealBoxSwitch.slot.Goals as goal

pub returns : goal.returns
returns c n past ls h e =
    serves c.args.self.now c.slot.new.self n past ls c.args.lines.now c.args.answer.now c.slot.new.answer h e
    c.slot.ensures.after c.slot.ensures.answer
