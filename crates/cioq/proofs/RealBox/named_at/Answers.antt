use Rattle.std.proofs.Common.{rules, ◌≡◌, ℕ, get_or, Some, None, sym, ap, ◌∙◌, arith}
use Rattle.crossbox.specs.declared.Arrival.{Arrival}
use Rattle.crossbox.specs.declared.Cell.{Cell}
use Rattle.buffer.specs.Memory.{view}
use Rattle.cioq.specs.State.{State}
use Rattle.cioq.specs.Spells.{cells}
use Rattle.cioq.specs.Choice.{named}
use Rattle.cioq.specs.Transfers.{place_of_first}
use Rattle.cioq.proofs.Lists.{cells-length, cells_at}
use Rattle.cioq.proofs.Seeking.{found_is, found_none}
use Rattle.cioq.proofs.Named.{first-position}
use Rattle.cioq.proofs.Judging.{none_named}
use Rattle.cioq.proofs.RealBox.named_at.Goals as goal

pub returns-in_err-k : goal.returns-in_err-k
returns-in_err-k c =
    let l = cells (view c.self.inside.memory) c.args.input in
    let f : place_of_first c.in-For.output l ≡ None = search rules in
    search rules
    ∙ sym (ap (λ (x : Arrival). named x l) c.in-For.is ∙ none_named c.in-For.output l (found_none c.in-For.output l f))
    ∙ ap (λ (z : State). named c.args.arrival (cells z.mem c.args.input)) c.self.view_is

pub returns : goal.returns
returns c =
    let m = view c.self.inside.memory in
    let l = cells m c.args.input in
    let g = c.self.invariant in
    let few = g.few in
    let there = c.requires.there in
    let k = ap (λ z. z.lines) c.self.view_is in
    let n = cells-length m c.args.input g.sound (omega (arith, g.rows)) in
    let f : place_of_first c.in-For.output l ≡ Some c.in_ok-k.k = search rules in
    let p = found_is c.in-For.output c.in_ok-k.k l f in
    sym (ap (λ (x : Arrival). named x l) c.in-For.is
    ∙ (first-position c.in-For.output l c.cell.result (omega (arith, p.0, p.1))
    ∙ (ap (λ (j : ℕ). Some (get_or l j c.cell.result)) (sym p.0)
    ∙ ap (λ (x : Cell). Some x) (cells_at m c.args.input c.in_ok-k.k c.cell.result g.sound (omega (arith, g.rows)) (omega (arith, p.1)) ∙ sym c.cell.ensures))))
    ∙ ap (λ (z : State). named c.args.arrival (cells z.mem c.args.input)) c.self.view_is
