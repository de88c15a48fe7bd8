use Rattle.std.proofs.Common.{arith}
use Rattle.words.proofs.Answered.{flags_written}
use Rattle.words.proofs.answer.write_flags.Goals as goal

pub returns : goal.returns
returns c = flags_written c.loop-input.part c.args.turned_away.now (omega arith) (λ k h. c.loop-input.invariant k (omega arith))
