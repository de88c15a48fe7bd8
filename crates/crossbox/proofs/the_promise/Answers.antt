use Rattle.crossbox.proofs.Promise.{main}
use Rattle.crossbox.proofs.the_promise.Goals as goal

pub returns : goal.returns
returns c = main
