use Rattle.std.proofs.Common.{◌≡◌, length}
use Rattle.cioq.specs.Choice.{choice_of}
use Rattle.cioq.specs.Transfers.{transfer_all}
use Rattle.cioq.proofs.RealBox.transfer.Given as goal

-- the cells that are named at the inputs before have gone
abbrev pub invariant-loop-input : goal.invariant-loop-input
invariant-loop-input l = l.self ≡ transfer_all (length l.yielded) (choice_of l.choice) l.initial.self
