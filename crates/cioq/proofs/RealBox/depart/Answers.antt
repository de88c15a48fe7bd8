use Rattle.std.proofs.Common.{◌≤◌, sym, ap, ◌∙◌, subst, arith}
use Rattle.cioq.specs.State.{State, Good, Counted}
use Rattle.cioq.proofs.Departures.{depart-none, start_written, departed-lines, departed_counted, step-departed, step_written}
use Rattle.cioq.proofs.RealBox.depart.Goals as goal

pub loop-output-init : goal.loop-output-init
loop-output-init c =
    let s = c.args.self.now in
    (sym (depart-none s), start_written s c.args.answer.now, omega arith)

pub depart_one-requires-clause-there : goal.depart_one-requires-clause-there
depart_one-requires-clause-there c =
    let s = c.args.self.now in
    let k = c.loop-output.output in
    let n = ap (λ (z : State). z.lines) c.loop-output.invariant.0 ∙ departed-lines k s in
    omega (arith, n, c.loop-output-test.true, ap (λ z. z.lines) c.self.view_is)

pub depart_one-requires-clause-counted : goal.depart_one-requires-clause-counted
depart_one-requires-clause-counted c =
    let s = c.args.self.now in
    let k = c.loop-output.output in
    let g = subst Good c.self.view_is c.self.invariant in
    let le : k ≤ s.lines = omega (arith, c.loop-output-test.true, ap (λ z. z.lines) c.self.view_is) in
    subst Counted (sym c.loop-output.invariant.0) (departed_counted k s g c.requires.counted le)

pub loop-output-preserved : goal.loop-output-preserved
loop-output-preserved c =
    let s = c.args.self.now in
    let before = c.loop-output.self in
    let k = c.loop-output.output in
    let i = c.loop-output.invariant in (
      step-departed s before k i.0 c.depart_one.new.self c.depart_one.ensures.after,
      step_written s before k i.0 c.args.answer.now c.loop-output.answer c.depart_one.new.answer i.1 c.depart_one.ensures.answer,
      omega (arith, c.depart_one.ensures.short, i.2),
    )
