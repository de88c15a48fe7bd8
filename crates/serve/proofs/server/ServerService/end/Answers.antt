use Rattle.serve.proofs.Turns.{same-refl, served-none}
use Rattle.serve.proofs.server.ServerService.end.Goals as goal

pub returns-in-None : goal.returns-in-None
returns-in-None g c =
    rw (← c.self.view_is, c.in-None.ensures) (same-refl _, served-none g.S.Switch.shows _ _ _)
