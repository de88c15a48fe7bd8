use Rattle.std.proofs.Common.{◌<◌, List, length, get_or, sym, ap, ◌∙◌, subst}
use Rattle.crossbox.specs.declared.Cell.{Cell}
use Rattle.crowd.specs.State.{seen}
use Rattle.crowd.proofs.Shown.{shown_list, shown_aimed}
use Rattle.crowd.proofs.Crowd.waiting_cell.Goals as goal

pub returns : goal.returns
returns c =
    let b = c.self.inside in
    let s = seen b.real b.due b.away in
    let shown = c.self.invariant in
    let there = rw (← c.self.view_is) at c.requires.there in
    let within = rw (← c.self.view_is) at c.requires.within in
    let w = subst (λ (l : List Cell). c.args.k < length l) (sym (shown_list s shown.0 shown.1 c.args.input there)) (within shown.0 shown.1) in
    rw (← c.self.view_is)
    (record {
      cell = λ st h. c.waiting_cell.ensures ∙ ap (λ (l : List Cell). get_or l c.args.k c.waiting_cell.result) (shown_list s st h c.args.input there);
      aimed = shown_aimed s shown.0 shown.1 c.args.input c.args.k c.waiting_cell.result there w c.waiting_cell.ensures;
    })
