use Rattle.std.proofs.Common.{◌≡◌, ℕ, ◌∷◌, [], length, set, Some, Option, subst, sym, ap, ap₂, ◌∙◌, arith}
use Rattle.std.proofs.lemmas.List.{length-append}
use Rattle.crossbox.specs.declared.Arrival.TheVariants.{Nothing}
use Rattle.crossbox.specs.declared.Arrival.{Arrival}
use Rattle.crossbox.specs.declared.Cell.{Cell}
use Rattle.cioq.specs.Spells.{box_of}
use Rattle.cioq.specs.Choice.{choice_of, named, noted}
use Rattle.crossbox.proofs.Lines.{line_turn}
use Rattle.cioq.proofs.Judging.{Table, table_none, table_more, named_there}
use Rattle.cioq.proofs.RealBox.gets.Goals as goal

pub loop-input-init : goal.loop-input-init
loop-input-init c = table_none (choice_of c.args.choice.now) (box_of c.args.self.now.lines c.args.self.now.mem)

pub named_at-requires : goal.named_at-requires
named_at-requires c =
    let a = line_turn c.self.inside.lines c.args.choice.now c.zip-input-items.result c.zip-input-items.ensures.first c.zip-input-items.ensures.second.0 (omega (arith, c.self.invariant.few, c.told-choice)) c.into_iter-input-iterator.result c.into_iter-input-iterator.ensures.into_iter_gives c.loop-input.yielded c.loop-input.input-iterator c.next.new.self c.next.result c.loop-input.yielded_by c.next.ensures.steps (c.in-Some.input, c.in-Some.field-0-1) c.in-Some.is Nothing in
    record { there = omega (arith, a.0, a.1.0, ap (λ z. z.lines) c.self.view_is) }

pub bounds-gets-cell : goal.bounds-gets-cell
bounds-gets-cell c =
    let n = c.args.self.now.lines in
    let ch = choice_of c.args.choice.now in
    let b = box_of n c.args.self.now.mem in
    let k = length c.loop-input.yielded in
    let a = line_turn c.self.inside.lines c.args.choice.now c.zip-input-items.result c.zip-input-items.ensures.first c.zip-input-items.ensures.second.0 (omega (arith, c.self.invariant.few, c.told-choice)) c.into_iter-input-iterator.result c.into_iter-input-iterator.ensures.into_iter_gives c.loop-input.yielded c.loop-input.input-iterator c.next.new.self c.next.result c.loop-input.yielded_by c.next.ensures.steps (c.in-Some.input, c.in-Some.field-0-1) c.in-Some.is Nothing in
    let e : c.named_at.result ≡ named (ch k) (b.waiting k) = c.named_at.ensures ∙ ap₂ (λ (x : Arrival) (i : ℕ). named x (b.waiting i)) a.1.1 a.1.0 in
    let h = named_there n k ch (b.waiting k) c.named_at.result e c.requires.fits (omega (arith, a.0, ap (λ z. z.lines) c.self.view_is)) c.in-Some-named_at.cell c.in-Some-named_at.is in
    omega (arith, h, c.self.invariant.few, ap (λ z. z.lines) c.self.view_is)

pub loop-input-preserved-in-Some-named_at : goal.loop-input-preserved-in-Some-named_at
loop-input-preserved-in-Some-named_at c =
    let n = c.args.self.now.lines in
    let ch = choice_of c.args.choice.now in
    let b = box_of n c.args.self.now.mem in
    let k = length c.loop-input.yielded in
    let a = line_turn c.self.inside.lines c.args.choice.now c.zip-input-items.result c.zip-input-items.ensures.first c.zip-input-items.ensures.second.0 (omega (arith, c.self.invariant.few, c.told-choice)) c.into_iter-input-iterator.result c.into_iter-input-iterator.ensures.into_iter_gives c.loop-input.yielded c.loop-input.input-iterator c.next.new.self c.next.result c.loop-input.yielded_by c.next.ensures.steps (c.in-Some.input, c.in-Some.field-0-1) c.in-Some.is Nothing in
    let e : c.named_at.result ≡ named (ch k) (b.waiting k) = c.named_at.ensures ∙ ap₂ (λ (x : Arrival) (i : ℕ). named x (b.waiting i)) a.1.1 a.1.0 in
    subst (λ (j : ℕ). Table (set c.loop-input.gets c.in-Some-named_at.cell.output (Some c.in-Some-named_at.cell)) j ch b) (sym (length-append c.loop-input.yielded ((c.in-Some.input, c.in-Some.field-0-1) ∷ [])))
    (table_more c.loop-input.gets (set c.loop-input.gets c.in-Some-named_at.cell.output (Some c.in-Some-named_at.cell)) k ch b c.named_at.result e (ap (λ (x : Option Cell). noted x c.loop-input.gets) (sym c.in-Some-named_at.is)) c.loop-input.invariant)

pub loop-input-preserved : goal.loop-input-preserved
loop-input-preserved c =
    let n = c.args.self.now.lines in
    let ch = choice_of c.args.choice.now in
    let b = box_of n c.args.self.now.mem in
    let k = length c.loop-input.yielded in
    let a = line_turn c.self.inside.lines c.args.choice.now c.zip-input-items.result c.zip-input-items.ensures.first c.zip-input-items.ensures.second.0 (omega (arith, c.self.invariant.few, c.told-choice)) c.into_iter-input-iterator.result c.into_iter-input-iterator.ensures.into_iter_gives c.loop-input.yielded c.loop-input.input-iterator c.next.new.self c.next.result c.loop-input.yielded_by c.next.ensures.steps (c.in-Some.input, c.in-Some.field-0-1) c.in-Some.is Nothing in
    let e : c.named_at.result ≡ named (ch k) (b.waiting k) = c.named_at.ensures ∙ ap₂ (λ (x : Arrival) (i : ℕ). named x (b.waiting i)) a.1.1 a.1.0 in
    subst (λ (j : ℕ). Table c.loop-input.gets j ch b) (sym (length-append c.loop-input.yielded ((c.in-Some.input, c.in-Some.field-0-1) ∷ [])))
    (table_more c.loop-input.gets c.loop-input.gets k ch b c.named_at.result e (ap (λ (x : Option Cell). noted x c.loop-input.gets) (sym c.in_default.is)) c.loop-input.invariant)
