use Rattle.std.proofs.Common.{rules, tests, List, ap, sym, ◌∙◌, arith}
use Rattle.std.proofs.lemmas.Iterator.{YieldsList-from_range}
use Rattle.std.proofs.lemmas.Iterator.Consumers.{YieldsList-from_filter, count_from_yields_List}
use Rattle.std.specs.List.{range_with_len}
use Rattle.crossbox.specs.declared.Cell.{Cell}
use Rattle.crossbox.specs.Cells.{earlier, count_earlier}
use Rattle.buffer.specs.Memory.{view}
use Rattle.cioq.specs.Transfers.{cell_at}
use Rattle.cioq.proofs.Seeking.{cells_listed, earlier_listed}
use Rattle.cioq.proofs.search.count_earlier.Goals as goal

pub returns : goal.returns
returns c =
    let m = view c.args.memory.now in
    let n = c.len.result in
    let f = cell_at m c.args.row in
    count_from_yields_List c.filter.result c.count.result c.count.ensures.ran
    (YieldsList-from_filter _ (λ k. earlier (f k) c.args.cell) (YieldsList-from_range 0 n n (cc) (omega arith)) c.filter.ensures.closure (λ x b q k. search (rules, tests)))
    ∙ (sym (earlier_listed c.args.cell f (range_with_len 0 n))
    ∙ ap (λ (l : List Cell). count_earlier c.args.cell l) (sym (cells_listed m c.args.row n c.requires.sound c.requires.within c.len.ensures)))
