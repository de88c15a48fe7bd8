use Rattle.std.proofs.Common.{◌≡◌, sym, ap, ◌∙◌, subst, arith}
use Rattle.std.proofs.lemmas.List.{length-take}
use Rattle.words.specs.Writing.{Draft}
use Rattle.cioq.specs.State.{Counted}
use Rattle.cioq.specs.State as real
use Rattle.cioq.specs.Choice.{choice_of}
use Rattle.cioq.proofs.Transfers.{transferred_lines}
use Rattle.crowd.specs.declared.Due.TheVariants as due
use Rattle.crowd.specs.State.{State, seen, First}
use Rattle.crowd.proofs.Written.{first_taken}
use Rattle.crowd.proofs.Reading.{found-fits, found_good, found_waits, found-chosen}
use Rattle.crowd.proofs.Within.{shows_good, shows_counted}
use Rattle.crowd.proofs.Steps.{first_keeps}
use Rattle.crowd.proofs.Crowd.take_first.Goals as goal

pub transfer-requires : goal.transfer-requires
transfer-requires c =
    let b = c.self.inside in
    let s = seen b.real b.due b.away in
    let found = rw (← c.self.view_is) at c.in_ok-choice.ensures in
    record {
      fits = found-fits s c.args.lines.now c.in_ok-choice.choice found;
      waits = found_waits s c.args.lines.now c.in_ok-choice.choice found;
    }

pub depart-requires : goal.depart-requires
depart-requires c =
    let b = c.self.inside in
    let s = seen b.real b.due b.away in
    let ch = choice_of c.in_ok-choice.choice in
    let found = rw (← c.self.view_is) at c.in_ok-choice.ensures in
    let g = shows_good s c.self.invariant.0 c.self.invariant.1 in
    let fits = found-fits s c.args.lines.now c.in_ok-choice.choice found in
    let n : c.transfer.new.self.lines ≡ b.real.lines = ap (λ (z : real.State). z.lines) c.transfer.ensures ∙ transferred_lines b.real.lines ch b.real in
    record {
      counted = subst Counted (sym c.transfer.ensures) (shows_counted s c.self.invariant.0 c.self.invariant.1 ch fits (found_good s c.args.lines.now c.in_ok-choice.choice found));
      room = omega (arith, n, g.few, ap (λ (d : Draft). d.len) c.begin.ensures);
    }

pub push_flags-requires : goal.push_flags-requires
push_flags-requires c =
    let b = c.self.inside in
    let g = shows_good (seen b.real b.due b.away) c.self.invariant.0 c.self.invariant.1 in
    let n : c.transfer.new.self.lines ≡ b.real.lines = ap (λ (z : real.State). z.lines) c.transfer.ensures ∙ transferred_lines b.real.lines (choice_of c.in_ok-choice.choice) b.real in
    omega (arith, n, g.few, c.lines-inputs.ensures.lines, c.depart.ensures.short, ap (λ (d : Draft). d.len) c.begin.ensures, length-take c.lines-inputs.result b.away)

pub invariant_of-self : goal.invariant_of-self
invariant_of-self c =
    let b = c.self.inside in
    let s = seen b.real b.due b.away in
    let ch = choice_of c.in_ok-choice.choice in
    let found = rw (← c.self.view_is) at c.in_ok-choice.ensures in
    first_keeps s c.self.invariant ch (found-fits s c.args.lines.now c.in_ok-choice.choice found) (found_good s c.args.lines.now c.in_ok-choice.choice found)
    c.transfer.new.self c.depart.new.self (ap (λ (z : State). z.due) c.self.view_is ∙ c.requires) c.transfer.ensures c.depart.ensures.after

pub returns : goal.returns
returns c told same =
    let b = c.self.inside in
    let s = seen b.real b.due b.away in
    let found = rw (← c.self.view_is) at c.in_ok-choice.ensures in
    let mid = c.transfer.new.self in
    let last = c.depart.new.self in
    let out = c.args.answer.now in
    rw (← c.self.view_is)
    (found-chosen s c.args.lines.now c.in_ok-choice.choice found _ _
    (λ ls e. subst (λ (d : Draft). First ls s (record { real = last; due = due.Second; away = s.away }) out d) (sym same)
    (first_taken s mid last ls (choice_of c.in_ok-choice.choice) c.lines-inputs.result out c.begin.new.self c.depart.new.answer c.push_flags.new.self e
    c.transfer.ensures c.depart.ensures.after c.lines-inputs.ensures.lines c.begin.ensures c.depart.ensures.answer c.push_flags.ensures)))
