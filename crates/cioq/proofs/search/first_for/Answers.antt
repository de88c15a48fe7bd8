use Rattle.std.proofs.Common.{rules, tests, eqb, ap, sym, ◌∙◌, arith}
use Rattle.std.proofs.lemmas.Iterator.{YieldsList-from_range}
use Rattle.std.proofs.lemmas.Iterator.Search.{position_from_yields_List}
use Rattle.std.specs.List.{range_with_len}
use Rattle.buffer.specs.Memory.{view}
use Rattle.cioq.specs.Transfers.{cell_at, place_of_first}
use Rattle.cioq.proofs.Seeking.{cells_listed, first_listed}
use Rattle.cioq.proofs.search.first_for.Goals as goal

pub returns : goal.returns
returns c =
    let m = view c.args.memory.now in
    let n = c.len.result in
    let f = cell_at m c.args.row in
    position_from_yields_List (λ k. eqb (f k).output c.args.output) _ _ c.position.result c.position.ensures.ran (YieldsList-from_range 0 n n (cc) (omega arith)) (λ x b q k. search (rules, tests))
    ∙ (sym (first_listed c.args.output f (range_with_len 0 n))
    ∙ ap (place_of_first c.args.output) (sym (cells_listed m c.args.row n c.requires.sound c.requires.within c.len.ensures)))
