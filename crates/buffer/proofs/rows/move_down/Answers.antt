use Rattle.places.proofs.Lists.{down_all}
use Rattle.buffer.proofs.rows.move_down.Goals as goal

pub returns : goal.returns
returns c = down_all c.args.part.now c.copy_within.new.self c.requires c.copy_within.ensures.after
