use Rattle.frames.proofs.Digits.{blanks_pass}
use Rattle.frames.proofs.laws.blanks_pass.Goals as goal

pub returns : goal.returns
returns c = blanks_pass
