use Rattle.firsts.proofs.Exact.{remove-none}
use Rattle.firsts.proofs.Firsts.remove.Goals as goal

pub returns-in-None : goal.returns-in-None
returns-in-None c =
    remove-none c.args.input c.args.output c.args.k c.args.next c.args.self.now c.bring_forward.new.places c.bring_forward.ensures c.without.result c.in-None.is c.without.ensures.number
