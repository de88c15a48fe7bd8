use Rattle.std.proofs.Common.{rules, tests, ℕ, ◌<◌, ap, ◌∙◌, arith}
use Rattle.std.proofs.lemmas.Iterator.Adapters.{serves_from_places}
use Rattle.std.proofs.lemmas.Iterator.Search.{all_from_yields_List}
use Rattle.crossbox.specs.declared.Arrival.{Arrival}
use Rattle.crossbox.proofs.Lines.{each_line}
use Rattle.cioq.specs.State.{State}
use Rattle.cioq.specs.Spells.{box_of}
use Rattle.cioq.specs.Choice.{choice_of, table_of, settled, all_settled}
use Rattle.cioq.proofs.Choosing.{input_there, all_settled-listed}
use Rattle.cioq.proofs.RealBox.all_settled.Goals as goal

pub all-requires-clause-callable : goal.all-requires-clause-callable
all-requires-clause-callable c =
    let n = c.self.inside.lines in
    let lines = ap (λ z. z.lines) c.self.view_is in
    serves_from_places {s = c.zip.result}
    (each_line n c.args.choice.now c.zip.result c.zip.ensures.first c.zip.ensures.second.0)
    (λ y q r. search (rules, tests))
    (λ y k l e.
    let i = input_there 0 n k c.args.choice.now (y.0, y.1.now) l in
    let h : y.0 < c.args.self.now.lines = omega (arith, i, ap (λ (p : ℕ × Arrival). p.0) e) in
    let aimed = c.requires.aimed y.0 h in
    search rules)

pub returns : goal.returns
returns c =
    let n = c.self.inside.lines in
    let gets = table_of c.args.gets.now in
    let b = box_of c.args.self.now.lines c.args.self.now.mem in
    let few = c.self.invariant.few in
    all_from_yields_List {s = c.zip.result} (λ (p : ℕ × Arrival). settled gets p.1 (b.waiting p.0)) c.all.new.self _ c.all.result c.all.ensures.ran
    (each_line n c.args.choice.now c.zip.result c.zip.ensures.first c.zip.ensures.second.0) (λ x r q k. search (rules, tests))
    ∙ all_settled-listed n gets c.args.choice.now b (omega (arith, c.told-choice))
    ∙ ap (λ (z : State). all_settled z.lines gets (choice_of c.args.choice.now) b) c.self.view_is
