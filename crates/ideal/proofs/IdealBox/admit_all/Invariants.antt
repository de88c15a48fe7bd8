use Rattle.std.proofs.Common.{◌≡◌, ℕ, ◌-◌, ◌<◌, false, length, get_or, drop, Some}
use Rattle.words.specs.Lines.{read_lines}
use Rattle.ideal.specs.Steps.{lines_of, admitted, away}
use Rattle.ideal.proofs.IdealBox.admit_all.Given as goal

abbrev pub invariant-loop-input : goal.invariant-loop-input
invariant-loop-input l =
    (l.self ≡ admitted l.input (lines_of l.initial.self.lines l.initial.rest) l.initial.self) ×
    (read_lines 64 (l.initial.self.lines - l.input) l.rest ≡ Some (drop l.input (lines_of l.initial.self.lines l.initial.rest))) ×
    ((length l.turned_away ≡ 32) ×
    ((i : ℕ) → i < l.input → get_or l.turned_away i false ≡ away l.initial.self.slots (lines_of l.initial.self.lines l.initial.rest) l.initial.self.mem i))
