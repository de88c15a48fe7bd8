use Rattle.std.proofs.Common.{length}
use Rattle.cioq.specs.Choice.{choice_of}
use Rattle.cioq.proofs.Judging.{Seen}
use Rattle.cioq.proofs.judge.one_for_each.Given as goal

-- the outputs that are named before are noted, each once
abbrev pub invariant-loop-arrival : goal.invariant-loop-arrival
invariant-loop-arrival l = Seen l.outputs (length l.yielded) (choice_of l.choice)
