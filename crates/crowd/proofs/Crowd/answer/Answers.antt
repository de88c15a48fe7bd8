use Rattle.std.proofs.Common.{sym, refl, subst}
use Rattle.crowd.specs.Crowd.{Status}
use Rattle.crowd.specs.State.{Shows, Told}
use Rattle.crowd.specs.Promise.{TurnDone}
use Rattle.crowd.proofs.Turns.{same_turn}
use Rattle.crowd.proofs.Crowd.answer.Goals as goal

pub returns-in-Err : goal.returns-in-Err
returns-in-Err c =
    let s = c.args.self.now in
    let after = c.take.new.self in
    let told = c.refuse.new.self in
    let t : (st : Status) → Shows s st → TurnDone s after st c.args.word.now c.args.answer.now told =
    c.take.ensures told (subst (λ r. Told r c.take.new.answer told) (sym c.in-Err.is) c.refuse.ensures) in
    record { answers = λ st h. (t st h).answers; goes_on = λ st h. (t st h).goes; keeps = λ st h. (t st h).keeps; same = same_turn s after c.args.word.now c.args.answer.now told t }

pub returns-in_default : goal.returns-in_default
returns-in_default c =
    let s = c.args.self.now in
    let after = c.take.new.self in
    let told = c.take.new.answer in
    let t : (st : Status) → Shows s st → TurnDone s after st c.args.word.now c.args.answer.now told =
    c.take.ensures told (subst (λ r. Told r c.take.new.answer told) (sym c.in_default.is) refl) in
    record { answers = λ st h. (t st h).answers; goes_on = λ st h. (t st h).goes; keeps = λ st h. (t st h).keeps; same = same_turn s after c.args.word.now c.args.answer.now told t }
