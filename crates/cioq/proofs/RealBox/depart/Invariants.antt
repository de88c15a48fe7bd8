use Rattle.std.proofs.Common.{◌≡◌, ◌+◌, ◌*◌, ◌≤◌}
use Rattle.words.specs.Writing.{appended}
use Rattle.cioq.specs.Departures.{depart_all, departing_bytes}
use Rattle.cioq.proofs.RealBox.depart.Given as goal

-- what leaves by the outputs before has been written and let go
abbrev pub invariant-loop-output : goal.invariant-loop-output
invariant-loop-output l =
    (l.self ≡ depart_all l.output l.initial.self) ×
    (l.answer ≡ appended (departing_bytes l.output l.initial.self) l.initial.answer) ×
    (l.answer.len ≤ l.initial.answer.len + 69 * l.output)
