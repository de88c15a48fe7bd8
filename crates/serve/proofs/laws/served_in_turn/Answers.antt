use Rattle.serve.proofs.Words.{after-append, answers-append}
use Rattle.serve.proofs.laws.served_in_turn.Goals as goal

pub returns : goal.returns
returns c = λ st ws vs. (after-append st ws vs, answers-append st ws vs)
