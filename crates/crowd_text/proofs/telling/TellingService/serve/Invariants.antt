use Rattle.std.proofs.Common.{◌≤◌, length}
use Rattle.crowd_text.specs.Telling.{SameBoxes}
use Rattle.crowd_text.proofs.telling.TellingService.serve.Given as goal

abbrev pub invariant-loop-taken : goal.invariant-loop-taken
invariant-loop-taken l = (length l.rest ≤ length l.input) × SameBoxes l.initial.self l.self

abbrev pub decreases-loop-taken : goal.decreases-loop-taken
decreases-loop-taken l = length l.rest
