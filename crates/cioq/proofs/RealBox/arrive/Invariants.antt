use Rattle.std.proofs.Common.{◌≡◌, ◌-◌, drop, Some}
use Rattle.words.specs.Lines.{read_lines}
use Rattle.cioq.specs.Arrivals.{slot_lines, admit_all, away}
use Rattle.cioq.proofs.Arrivals.{Flags}
use Rattle.cioq.proofs.RealBox.arrive.Given as goal

-- the lines of the inputs before have been admitted, and the others are still to be read
abbrev pub invariant-loop-input : goal.invariant-loop-input
invariant-loop-input l =
    (l.self ≡ admit_all (slot_lines l.initial.self.lines l.initial.bytes) l.input l.initial.self) ×
    (read_lines 64 (l.initial.self.lines - l.input) l.rest ≡ Some (drop l.input (slot_lines l.initial.self.lines l.initial.bytes))) ×
    Flags l.away l.input (away (slot_lines l.initial.self.lines l.initial.bytes) l.initial.self)
