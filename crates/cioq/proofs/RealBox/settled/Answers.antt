use Rattle.std.proofs.Common.{rules, tests, ◌<◌, List, map, not, ap, sym, ◌∙◌, subst, arith}
use Rattle.std.specs.List.{range_with_len, prefix_len}
use Rattle.std.proofs.lemmas.Iterator.{YieldsList-from_range, YieldsList-from_map}
use Rattle.std.proofs.lemmas.Iterator.Consumers.{YieldsList-at}
use Rattle.std.proofs.lemmas.Iterator.Adapters.{serves_from_places}
use Rattle.std.proofs.lemmas.Iterator.Search.{YieldsList-from_take_while, all_from_yields_List}
use Rattle.crossbox.specs.declared.Cell.{Cell}
use Rattle.buffer.specs.Memory.{row_length}
use Rattle.cioq.specs.State.{State, Good}
use Rattle.cioq.specs.Choice.{table_of, is_named, beats, settled}
use Rattle.cioq.specs.Transfers.{cell_at}
use Rattle.cioq.proofs.Seeking.{cells_listed}
use Rattle.cioq.proofs.Choosing.{settled-listed, aimed_at}
use Rattle.cioq.proofs.RealBox.settled.Goals as goal

pub returns : goal.returns
returns c =
    let m = c.args.self.now.mem in
    let g = subst Good c.self.view_is c.self.invariant in
    let len = c.len.ensures ∙ ap (λ (z : State). row_length z.mem c.args.input) c.self.view_is in
    let n = c.len.result in
    let x = c.args.arrival in
    let gets = table_of c.args.gets.now in
    let few = g.few in
    let there = c.requires.there in
    all_from_yields_List {s = c.take_while.result} (λ (d : Cell). beats (gets d.output) d) _ _ c.all.result c.all.ensures.ran
    (YieldsList-from_take_while _ (λ (d : Cell). not (is_named d.output x))
    (YieldsList-at c.take_while.ensures.source (YieldsList-from_map _ (cell_at m c.args.input) (YieldsList-at c.map.ensures.source (YieldsList-from_range 0 n n (cc) (omega arith))) c.map.ensures.closure (λ y r q k. search rules)))
    c.take_while.ensures.closure c.take_while.ensures.done (λ y b q k. search (rules, tests)))
    (λ y b q k. search (rules, tests))
    ∙ (settled-listed gets x (map (cell_at m c.args.input) (range_with_len 0 n))
    ∙ ap (λ (l : List Cell). settled gets x l) (sym (cells_listed m c.args.input n g.sound (omega (arith, g.rows)) len)))

pub all-requires-clause-callable : goal.all-requires-clause-callable
all-requires-clause-callable c =
    let m = c.args.self.now.mem in
    let g = subst Good c.self.view_is c.self.invariant in
    let len = c.len.ensures ∙ ap (λ (z : State). row_length z.mem c.args.input) c.self.view_is in
    let n = c.len.result in
    let x = c.args.arrival in
    let few = g.few in
    let there = c.requires.there in
    serves_from_places {s = c.take_while.result}
    (YieldsList-from_take_while _ (λ (d : Cell). not (is_named d.output x))
    (YieldsList-at c.take_while.ensures.source (YieldsList-from_map _ (cell_at m c.args.input) (YieldsList-at c.map.ensures.source (YieldsList-from_range 0 n n (cc) (omega arith))) c.map.ensures.closure (λ y r q k. search rules)))
    c.take_while.ensures.closure c.take_while.ensures.done (λ y b q k. search (rules, tests)))
    (λ y q r. search (rules, tests))
    (λ y k l e.
    let h : y.output < 32 = aimed_at (prefix_len (λ (d : Cell). not (is_named d.output x)) (map (cell_at m c.args.input) (range_with_len 0 n))) k _ _ y (cells_listed m c.args.input n g.sound (omega (arith, g.rows)) len) c.requires.aimed l e in
    search rules)
