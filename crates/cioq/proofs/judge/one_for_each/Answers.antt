use Rattle.std.proofs.Common.{ℕ, ◌∷◌, [], length, subst, sym, ap, ◌∙◌, arith}
use Rattle.std.specs.Slice.Iter.{iter_rest}
use Rattle.std.proofs.lemmas.List.{length-append}
use Rattle.crossbox.specs.declared.Arrival.TheVariants.{Nothing}
use Rattle.cioq.specs.Choice.{choice_of}
use Rattle.crossbox.proofs.Lines.{first_turn}
use Rattle.cioq.proofs.Judging.{Seen, seen_none, seen_same, seen_more, one-not}
use Rattle.cioq.proofs.judge.one_for_each.Goals as goal

pub loop-arrival-init : goal.loop-arrival-init
loop-arrival-init c = seen_none (choice_of c.args.choice.now)

pub returns-then-has : goal.returns-then-has
returns-then-has c =
    let a = first_turn c.args.lines c.args.choice.now (omega (arith, c.requires.few, c.told-choice)) c.take-arrival-items.result (ap iter_rest c.take-arrival-items.ensures.source ∙ c.iter.ensures.rest) (c.take-arrival-items.ensures.count ∙ c.from.ensures) c.into_iter-arrival-iterator.result c.into_iter-arrival-iterator.ensures.into_iter_gives c.loop-arrival.yielded c.loop-arrival.arrival-iterator c.next.new.self c.next.result c.loop-arrival.yielded_by c.next.ensures.steps c.in-Some.field-0 c.in-Some.is Nothing in
    one-not c.args.lines (length c.loop-arrival.yielded) (choice_of c.args.choice.now) c.in-For.output a.0 (sym a.1 ∙ c.in-For.is) (sym (c.loop-arrival.invariant.0 c.in-For.output) ∙ (sym c.has.ensures ∙ c.if-has.true))

pub loop-arrival-preserved : goal.loop-arrival-preserved
loop-arrival-preserved c =
    let a = first_turn c.args.lines c.args.choice.now (omega (arith, c.requires.few, c.told-choice)) c.take-arrival-items.result (ap iter_rest c.take-arrival-items.ensures.source ∙ c.iter.ensures.rest) (c.take-arrival-items.ensures.count ∙ c.from.ensures) c.into_iter-arrival-iterator.result c.into_iter-arrival-iterator.ensures.into_iter_gives c.loop-arrival.yielded c.loop-arrival.arrival-iterator c.next.new.self c.next.result c.loop-arrival.yielded_by c.next.ensures.steps c.in-Some.field-0 c.in-Some.is Nothing in
    subst (λ (j : ℕ). Seen c.with-outputs.result j (choice_of c.args.choice.now)) (sym (length-append c.loop-arrival.yielded (c.in-Some.field-0 ∷ [])))
    (seen_more c.loop-arrival.outputs c.with-outputs.result (length c.loop-arrival.yielded) c.in-For.output (choice_of c.args.choice.now) (sym a.1 ∙ c.in-For.is) (sym c.has.ensures ∙ c.if-has.false) c.with-outputs.ensures.bits c.loop-arrival.invariant)

pub loop-arrival-preserved-in_default : goal.loop-arrival-preserved-in_default
loop-arrival-preserved-in_default c =
    let a = first_turn c.args.lines c.args.choice.now (omega (arith, c.requires.few, c.told-choice)) c.take-arrival-items.result (ap iter_rest c.take-arrival-items.ensures.source ∙ c.iter.ensures.rest) (c.take-arrival-items.ensures.count ∙ c.from.ensures) c.into_iter-arrival-iterator.result c.into_iter-arrival-iterator.ensures.into_iter_gives c.loop-arrival.yielded c.loop-arrival.arrival-iterator c.next.new.self c.next.result c.loop-arrival.yielded_by c.next.ensures.steps c.in-Some.field-0 c.in-Some.is Nothing in
    subst (λ (j : ℕ). Seen c.loop-arrival.outputs j (choice_of c.args.choice.now)) (sym (length-append c.loop-arrival.yielded (c.in-Some.field-0 ∷ [])))
    (seen_same c.loop-arrival.outputs (length c.loop-arrival.yielded) (choice_of c.args.choice.now) (sym a.1 ∙ c.in_default.is) c.loop-arrival.invariant)
