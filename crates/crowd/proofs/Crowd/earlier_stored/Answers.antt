use Rattle.std.proofs.Common.{List, ap, ◌∙◌}
use Rattle.crossbox.specs.declared.Cell.{Cell}
use Rattle.crossbox.specs.Cells.{count_earlier}
use Rattle.crowd.specs.State.{seen}
use Rattle.crowd.proofs.Shown.{shown_store}
use Rattle.crowd.proofs.Crowd.earlier_stored.Goals as goal

pub returns : goal.returns
returns c =
    let b = c.self.inside in
    rw (← c.self.view_is)
    (λ st h. c.earlier_stored.ensures ∙ ap (λ (l : List Cell). count_earlier c.args.cell l) (shown_store (seen b.real b.due b.away) st h c.args.cell.output (rw (← c.self.view_is) at c.requires)))
