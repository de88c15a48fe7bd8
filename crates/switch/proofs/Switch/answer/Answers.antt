use Rattle.std.proofs.Common.{refl}
use Rattle.switch.specs.Respond.{Status, decide}
use Rattle.switch.proofs.Turning.{Turn}
use Rattle.switch.proofs.Taken.{taken_turn, refused_turn}
use Rattle.switch.proofs.Switch.answer.Goals as goal

pub returns-in_default : goal.returns-in_default
returns-in_default g c =
    let s = c.args.self.now in
    let word = c.args.word.now in
    let t : (st : Status) → g.Self.Switch.shows s st → Turn _ g.Self.Switch.lent (g.Self.Switch.width s) g.Self.Switch.shows s c.take.new.switch st word c.args.answer.now c.take.new.answer =
    λ st h. taken_turn _ g.Self.Switch.shows g.Self.Switch.lent (g.Self.Switch.width s) s c.take.new.switch word c.take.result c.args.answer.now c.take.new.answer st (decide st word) refl h (c.take.ensures st h) c.in_default.is in
    record { answers = λ st h. (t st h).answers; goes_on = λ st h. (t st h).goes; keeps = λ st h. (t st h).keeps }

pub returns-in-Err : goal.returns-in-Err
returns-in-Err g c =
    let s = c.args.self.now in
    let word = c.args.word.now in
    let t : (st : Status) → g.Self.Switch.shows s st → Turn _ g.Self.Switch.lent (g.Self.Switch.width s) g.Self.Switch.shows s c.take.new.switch st word c.args.answer.now c.refuse.new.self =
    λ st h. refused_turn _ g.Self.Switch.shows g.Self.Switch.lent (g.Self.Switch.width s) s c.take.new.switch word c.take.result c.args.answer.now c.take.new.answer st (decide st word) refl h (c.take.ensures st h) c.in-Err.fault c.in-Err.is c.refuse.new.self c.refuse.ensures in
    record { answers = λ st h. (t st h).answers; goes_on = λ st h. (t st h).goes; keeps = λ st h. (t st h).keeps }
