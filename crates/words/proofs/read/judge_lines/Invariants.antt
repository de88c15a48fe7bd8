use Rattle.std.proofs.Common.{◌≡◌, ◌-◌, true}
use Rattle.words.proofs.Scans.{scan}
use Rattle.words.proofs.read.judge_lines.Given as goal

-- what is read of the rest, after what was read, is what is read of all
abbrev pub invariant-loop : goal.invariant-loop
invariant-loop l = scan l.n l.size (l.n - l.counter) l.all_fit l.rest ≡ scan l.n l.size l.n true l.bytes
