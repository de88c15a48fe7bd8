use Rattle.std.proofs.Common.{◌≡◌, ◌+◌, ◌*◌, ◌≤◌}
use Rattle.words.specs.Writing.{appended}
use Rattle.words.specs.Answer.{leaving_all}
use Rattle.ideal.specs.Steps.{departed, departures}
use Rattle.ideal.proofs.IdealBox.depart_all.Given as goal

abbrev pub invariant-loop-output : goal.invariant-loop-output
invariant-loop-output l =
    (l.self ≡ departed l.output l.initial.self) ×
    (l.answer ≡ appended (leaving_all (departures l.output l.initial.self.mem)) l.initial.answer) ×
    (l.answer.len ≤ l.initial.answer.len + 69 * l.output)
