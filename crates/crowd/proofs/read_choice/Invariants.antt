use Rattle.std.proofs.Common.{◌≡◌, ◌-◌, drop, Some}
use Rattle.words.specs.Lines.{read_lines}
use Rattle.crowd.specs.State.{choice_lines}
use Rattle.crowd.proofs.Reading.{Read}
use Rattle.crowd.proofs.read_choice.Given as goal

-- what the inputs before name has been read, and the other lines are still to be read
abbrev pub invariant-loop-input : goal.invariant-loop-input
invariant-loop-input l =
    Read l.choice l.input (choice_lines l.lines l.initial.bytes) ×
    (read_lines 0 (l.lines - l.input) l.rest ≡ Some (drop l.input (choice_lines l.lines l.initial.bytes)))
