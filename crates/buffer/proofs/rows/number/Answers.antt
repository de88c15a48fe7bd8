use Rattle.std.proofs.Common.{arith}
use Rattle.std.proofs.lemmas.List.Edits.{fill_by_more}
use Rattle.buffer.proofs.Lists.{number_all}
use Rattle.buffer.proofs.rows.number.Goals as goal

pub loop-place-preserved : goal.loop-place-preserved
loop-place-preserved c = fill_by_more (λ k. k) c.loop-place.spare c.loop-place.place 0 (omega arith) c.loop-place.invariant

pub returns : goal.returns
returns c = number_all c.loop-place.spare c.loop-place.place _ (omega arith) c.loop-place.auto.spare c.loop-place.invariant
