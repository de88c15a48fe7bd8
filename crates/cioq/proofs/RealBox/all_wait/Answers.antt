use Rattle.std.proofs.Common.{rules, tests, ℕ, ap, ◌∙◌, arith}
use Rattle.std.proofs.lemmas.Iterator.Search.{all_from_yields_List}
use Rattle.crossbox.specs.declared.Arrival.{Arrival}
use Rattle.crossbox.proofs.Lines.{each_line}
use Rattle.cioq.specs.State.{State}
use Rattle.cioq.specs.Spells.{box_of}
use Rattle.cioq.specs.Choice.{choice_of, waits_in, all_wait}
use Rattle.cioq.proofs.Choosing.{all_wait-listed}
use Rattle.cioq.proofs.RealBox.all_wait.Goals as goal

pub returns : goal.returns
returns c =
    let n = c.self.inside.lines in
    let b = box_of c.args.self.now.lines c.args.self.now.mem in
    let few = c.self.invariant.few in
    all_from_yields_List {s = c.zip.result} (λ (p : ℕ × Arrival). waits_in p.1 (b.waiting p.0)) c.all.new.self _ c.all.result c.all.ensures.ran
    (each_line n c.args.choice.now c.zip.result c.zip.ensures.first c.zip.ensures.second.0) (λ x r q k. search (rules, tests))
    ∙ all_wait-listed n c.args.choice.now b (omega (arith, c.told-choice))
    ∙ ap (λ (z : State). all_wait z.lines (choice_of c.args.choice.now) b) c.self.view_is
