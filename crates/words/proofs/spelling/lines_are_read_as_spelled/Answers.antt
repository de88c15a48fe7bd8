use Rattle.words.proofs.Spelled.{read_is_spelled}
use Rattle.words.proofs.spelling.lines_are_read_as_spelled.Goals as goal

pub returns : goal.returns
returns c = read_is_spelled
