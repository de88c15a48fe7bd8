use Rattle.std.proofs.Common.{◌*◌, arith}
use Rattle.std.proofs.lemmas.List.{length-set}
use Rattle.frames.proofs.Digits.{length-hex_line, written_in_more, written_all}
use Rattle.frames.proofs.hex.write_hex_line.Goals as goal

pub bounds-part-i : goal.bounds-part-i
bounds-part-i c = omega (arith, c.requires, length-hex_line c.args.word.now)

pub bounds-part-i-in-loop-i : goal.bounds-part-i-in-loop-i
bounds-part-i-in-loop-i c =
    omega (arith, c.requires, length-hex_line c.args.word.now, length-set c.loop-i.part (2 * c.loop-i.i) c.hex_digit.result)

pub bounds-part-word : goal.bounds-part-word
bounds-part-word c = omega (arith, c.requires, length-hex_line c.args.word.now)

pub loop-i-preserved : goal.loop-i-preserved
loop-i-preserved c =
    written_in_more c.args.word.now c.loop-i.part c.loop-i.i c.hex_digit.result c.hex_digit-in-loop-i.result
    (omega (arith, c.requires, length-hex_line c.args.word.now)) c.loop-i.invariant c.hex_digit.ensures c.hex_digit-in-loop-i.ensures

pub returns : goal.returns
returns c =
    written_all c.args.word.now c.loop-i.part (omega (arith, c.requires, length-hex_line c.args.word.now))
    (λ j h. c.loop-i.invariant j (omega arith))
