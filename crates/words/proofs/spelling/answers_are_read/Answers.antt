use Rattle.words.proofs.Answered.{answer_is_read}
use Rattle.words.proofs.spelling.answers_are_read.Goals as goal

pub returns : goal.returns
returns c = answer_is_read
