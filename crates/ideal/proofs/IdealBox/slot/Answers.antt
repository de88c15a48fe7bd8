use Rattle.std.proofs.Common.{ℕ, ◌≤◌, Bool, List, take, ap, ◌∙◌, arith}
use Rattle.words.specs.Writing.{Draft, appended}
use Rattle.words.specs.Answer.{leaving_all, flag_bytes}
use Rattle.words.proofs.Answered.{answer_written}
use Rattle.ideal.specs.State.{State}
use Rattle.ideal.specs.Steps.{lines_of, away, departures, leavers, rejects}
use Rattle.ideal.proofs.Loops.{flags_all}
use Rattle.ideal.proofs.IdealBox.slot.Goals as goal

pub depart_all-requires : goal.depart_all-requires
depart_all-requires c =
    omega (arith, c.self.invariant.few, ap (λ (z : State). z.lines) c.self.view_is, ap (λ (z : State). z.lines) c.admit_all-turned_away.ensures.after, ap (λ (w : Draft). w.len) c.begin.ensures)

pub returns-clause-answer : goal.returns-clause-answer
returns-clause-answer c =
    let s = c.args.self.now in
    let ls = lines_of s.lines c.args.lines.now in
    let e = c.admit_all-turned_away.ensures.after in
    let all = c.admit_all-turned_away.result in
    let n = ap (λ (z : State). z.lines) c.self.view_is in
    let few : s.lines ≤ 32 = omega (arith, n, c.self.invariant.few) in
    let f = ap (λ (k : ℕ). take k all) n ∙ flags_all (away s.slots ls s.mem) all s.lines (omega arith) few c.admit_all-turned_away.ensures.away in
    let left = c.depart_all.ensures.answer
    ∙ ap (λ (z : State). appended (leaving_all (departures z.lines z.mem)) c.begin.new.self) e
    ∙ ap (λ (w : Draft). appended (leaving_all (leavers ls s)) w) c.begin.ensures in
    answer_written c.push_flags.new.self c.args.answer.now (leavers ls s) (rejects ls s)
    (c.push_flags.ensures
    ∙ ap (λ (fs : List Bool). appended (flag_bytes fs) c.depart_all.new.answer) f
    ∙ ap (λ (w : Draft). appended (flag_bytes (rejects ls s)) w) left)
