use Rattle.std.proofs.Common.{ℕ, ◌<◌, ◌∷◌, [], length, subst, sym, ap, ◌∙◌, arith}
use Rattle.std.proofs.lemmas.List.{length-append}
use Rattle.crossbox.specs.declared.Arrival.TheVariants.{Nothing}
use Rattle.cioq.specs.State.{Good}
use Rattle.cioq.specs.Spells.{cells}
use Rattle.cioq.specs.Choice.{choice_of}
use Rattle.cioq.specs.Transfers.{Sends, transfer_one, transfer_all}
use Rattle.crossbox.proofs.Lines.{line_turn}
use Rattle.cioq.proofs.Transfers.{transfer-none, step_lines, step_sends, step_after}
use Rattle.cioq.proofs.RealBox.transfer.Goals as goal

pub loop-input-init : goal.loop-input-init
loop-input-init c = sym (transfer-none (choice_of c.args.choice.now) c.args.self.now)

pub transfer_one-requires : goal.transfer_one-requires
transfer_one-requires c =
    let ch = choice_of c.args.choice.now in
    let s = c.args.self.now in
    let g = subst Good c.self.view_is c.self.invariant in
    let t = c.loop-input.self in
    let k = length c.loop-input.yielded in
    let a = line_turn c.self.inside.lines c.args.choice.now c.zip-input-items.result c.zip-input-items.ensures.first c.zip-input-items.ensures.second.0 (omega (arith, c.self.invariant.few, c.told-choice)) c.into_iter-input-iterator.result c.into_iter-input-iterator.ensures.into_iter_gives c.loop-input.yielded c.loop-input.input-iterator c.next.new.self c.next.result c.loop-input.yielded_by c.next.ensures.steps (c.in-Some.input, c.in-Some.field-0-1) c.in-Some.is Nothing in
    let h : k < s.lines = omega (arith, a.0, ap (λ z. z.lines) c.self.view_is) in
    let n = step_lines ch s t k g c.requires.fits c.requires.waits h c.loop-input.invariant in
    record {
      there = omega (arith, h, a.1.0, n);
      sends =
          subst (λ (i : ℕ). Sends t.lines c.in-Some.field-0-1.now (cells t.mem i)) (sym a.1.0)
          (step_sends ch s t k g c.requires.fits c.requires.waits h c.loop-input.invariant c.in-Some.field-0-1.now a.1.1);
    }

pub loop-input-preserved : goal.loop-input-preserved
loop-input-preserved c =
    let ch = choice_of c.args.choice.now in
    let s = c.args.self.now in
    let g = subst Good c.self.view_is c.self.invariant in
    let t = c.loop-input.self in
    let k = length c.loop-input.yielded in
    let x = c.in-Some.field-0-1 in
    let a = line_turn c.self.inside.lines c.args.choice.now c.zip-input-items.result c.zip-input-items.ensures.first c.zip-input-items.ensures.second.0 (omega (arith, c.self.invariant.few, c.told-choice)) c.into_iter-input-iterator.result c.into_iter-input-iterator.ensures.into_iter_gives c.loop-input.yielded c.loop-input.input-iterator c.next.new.self c.next.result c.loop-input.yielded_by c.next.ensures.steps (c.in-Some.input, x) c.in-Some.is Nothing in
    let h : k < s.lines = omega (arith, a.0, ap (λ z. z.lines) c.self.view_is) in
    step_after ch s t k g c.requires.fits c.requires.waits h c.loop-input.invariant _ x.now a.1.1
    (c.transfer_one.ensures ∙ ap (λ (i : ℕ). transfer_one i x.now t) a.1.0)
    ∙ ap (λ (i : ℕ). transfer_all i ch s) (sym (length-append c.loop-input.yielded ((c.in-Some.input, x) ∷ [])))
