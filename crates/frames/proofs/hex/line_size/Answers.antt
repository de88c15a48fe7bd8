use Rattle.std.proofs.Common.{arith}
use Rattle.frames.proofs.Digits.{length-hex_line}
use Rattle.frames.proofs.hex.line_size.Goals as goal

pub returns : goal.returns
returns c = grind (arith, length-hex_line c.args.word.now)
