use Rattle.std.proofs.Common.{rules, tests, ℕ, ◌-◌, ap, sym, ◌∙◌}
use Rattle.std.proofs.lemmas.List.Folds.{length-prefix_len}
use Rattle.std.proofs.lemmas.Iterator.Search.{YieldsList-from_take_while}
use Rattle.std.proofs.lemmas.Iterator.Consumers.{YieldsList-at, count_from_yields_List}
use Rattle.crossbox.specs.Cells.{earlier}
use Rattle.buffer.specs.Memory.{view}
use Rattle.cioq.specs.Transfers.{cell_at, place_for}
use Rattle.cioq.proofs.Seeking.{cells_listed, downs, YieldsList-from_end, place_listed}
use Rattle.cioq.proofs.search.place_for.Goals as goal

pub returns : goal.returns
returns c =
    let m = view c.args.memory.now in
    let n = c.len-len.result in
    let f = cell_at m c.args.row in
    ap (λ (k : ℕ). n - k) (count_from_yields_List c.take_while.result c.count.result c.count.ensures.ran
    (YieldsList-from_take_while _ (λ k. earlier c.args.cell (f k)) (YieldsList-at c.take_while.ensures.source (YieldsList-from_end n c.rev.result c.rev.ensures.source)) c.take_while.ensures.closure c.take_while.ensures.done (λ x b q k. search (rules, tests)))
    ∙ length-prefix_len (λ k. earlier c.args.cell (f k)) (downs 0 n))
    ∙ (sym (place_listed c.args.cell f n)
    ∙ ap (place_for c.args.cell) (sym (cells_listed m c.args.row n c.requires.sound c.requires.within c.len-len.ensures)))
