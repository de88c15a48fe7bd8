use Rattle.frames.proofs.Digits.{WrittenIn}
use Rattle.frames.proofs.hex.write_hex_line.Given as goal

abbrev pub invariant-loop-i : goal.invariant-loop-i
invariant-loop-i l = WrittenIn l.word l.i l.part
