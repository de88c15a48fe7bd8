use Rattle.words.proofs.Spelled.{written_is_read}
use Rattle.words.proofs.spelling.written_lines_are_read.Goals as goal

pub returns : goal.returns
returns c = written_is_read
