use Rattle.std.proofs.Common.{subst, ap, arith}
use Rattle.crossbox.specs.declared.Arrival.{Arrival}
use Rattle.ideal.specs.State.{State, seen}
use Rattle.ideal.specs.Steps.{Brings}
use Rattle.ideal.proofs.Room.{place_left}
use Rattle.ideal.proofs.Good.{put_good}
use Rattle.ideal.proofs.IdealBox.admit.Goals as goal

pub put-requires : goal.put-requires
put-requires c =
    let brings = subst (λ (x : Arrival). Brings c.args.self.now.lines x c.args.body.now) c.in-For.is c.requires.brings in
    let lines = ap (λ (s : State). s.lines) c.self.view_is in
    let good = c.self.invariant in
    let few = good.few in (
      omega arith,
      (good.sound, ((omega arith, omega arith, omega arith), place_left (seen c.self.inside.memory c.self.inside.lines c.self.inside.slots) good (omega arith))),
    )

pub invariant_of-self : goal.invariant_of-self
invariant_of-self c =
    let brings = subst (λ (x : Arrival). Brings c.args.self.now.lines x c.args.body.now) c.in-For.is c.requires.brings in
    let lines = ap (λ (s : State). s.lines) c.self.view_is in
    let s = seen c.self.inside.memory c.self.inside.lines c.self.inside.slots in
    rw (c.put.ensures, c.len-len.ensures) (put_good s c.self.invariant c.in-For.output (omega arith) _ _ (omega arith))
