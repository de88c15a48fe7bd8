use Rattle.std.proofs.Common.{List, ap, ◌∙◌}
use Rattle.crossbox.specs.declared.Cell.{Cell}
use Rattle.cioq.specs.Choice.{named}
use Rattle.crowd.specs.State.{seen}
use Rattle.crowd.proofs.Shown.{shown_list}
use Rattle.crowd.proofs.Crowd.picked.Goals as goal

pub returns : goal.returns
returns c =
    let b = c.self.inside in
    rw (← c.self.view_is)
    (λ st h. c.named_at.ensures ∙ ap (λ (l : List Cell). named c.args.arrival l) (shown_list (seen b.real b.due b.away) st h c.args.input (rw (← c.self.view_is) at c.requires)))
