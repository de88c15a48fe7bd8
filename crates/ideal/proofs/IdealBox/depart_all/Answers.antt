use Rattle.std.proofs.Common.{arith}
use Rattle.ideal.proofs.Loops.{departed-none, departures-none, departed-more, departures-more}
use Rattle.ideal.proofs.IdealBox.depart_all.Goals as goal

pub loop-output-init : goal.loop-output-init
loop-output-init c =
    let s = c.args.self.now in
    (departed-none s, departures-none s.mem c.args.answer.now, omega arith)

pub loop-output-preserved : goal.loop-output-preserved
loop-output-preserved c =
    let i = c.loop-output.invariant in
    let s = c.args.self.now in
    let k = c.loop-output.output in (
      departed-more s k c.loop-output.self i.0 c.depart.new.self c.depart.ensures.after,
      departures-more s k c.loop-output.self i.0 c.args.answer.now c.loop-output.answer c.depart.new.answer i.1 c.depart.ensures.answer,
      omega (arith, c.depart.ensures.short, i.2),
    )
