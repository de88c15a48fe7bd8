use Rattle.firsts.proofs.Exact.{zeros_are, none_is}
use Rattle.firsts.proofs.Firsts.new.Goals as goal

pub returns : goal.returns
returns c =
    let a = c.repeat.ensures.items in
    let b = c.repeat-2.ensures.items in
    none_is c.repeat.result c.repeat-2.result (zeros_are c.repeat.result 1024 a.long (λ k l. a.at k 0 l)) (zeros_are c.repeat-2.result 1024 b.long (λ k l. b.at k 0 l))
