use Rattle.std.proofs.Common.{length}
use Rattle.cioq.specs.Spells.{box_of}
use Rattle.cioq.specs.Choice.{choice_of}
use Rattle.cioq.proofs.Judging.{Table}
use Rattle.cioq.proofs.RealBox.gets.Given as goal

-- what the inputs before send is noted
abbrev pub invariant-loop-input : goal.invariant-loop-input
invariant-loop-input l = Table l.gets (length l.yielded) (choice_of l.choice) (box_of l.self.lines l.self.mem)
