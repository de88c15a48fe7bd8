use Rattle.crossbox.proofs.Machine.{machine_is_queues}
use Rattle.crossbox.proofs.machine_has_the_queues.Goals as goal

pub returns : goal.returns
returns c = machine_is_queues
