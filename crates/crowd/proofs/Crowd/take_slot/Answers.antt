use Rattle.std.proofs.Common.{rules, ◌≡◌, ℕ, false, Ok, leb, sym, refl, ap, ◌∙◌, subst, arith}
use Rattle.std.proofs.lemmas.Bool.Decides.{nat_tests}
use Rattle.words.specs.Lines.{judge, verdict}
use Rattle.words.proofs.Scans.{verdict_good}
use Rattle.cioq.specs.State as real
use Rattle.cioq.specs.Arrivals.{slot_lines}
use Rattle.cioq.proofs.Arrivals.{all_slots}
use Rattle.crowd.specs.declared.Due.TheVariants as due
use Rattle.crowd.specs.State.{State, seen}
use Rattle.crowd.proofs.Steps.{taken_keeps}
use Rattle.crowd.proofs.Crowd.take_slot.Goals as goal

pub pass-requires : goal.pass-requires
pass-requires c =
    let s = c.self.inside.real in
    let e : c.arrive-self-inside.new.self.slots ≡ s.slots = ap (λ (z : real.State). z.slots) c.arrive-self-inside.ensures.after ∙ all_slots (slot_lines s.lines c.args.lines.now) s.lines s in
    let t : leb 4294967296 c.slots-late.result ≡ false = (verdict_good c.lines.result 64 (leb 4294967296 c.slots-late.result) c.args.lines.now (sym c.in_ok-judge_lines.was ∙ c.judge_lines.ensures)).on_time in
    let k : c.slots-late.result ≡ s.slots = c.slots-late.ensures in
    grind (arith, nat_tests, e, t, k)

pub invariant_of-self : goal.invariant_of-self
invariant_of-self c =
    let b = c.self.inside in
    let late = leb 4294967296 c.slots-late.result in
    let ok = subst (λ (n : ℕ). Ok tt ≡ verdict (judge n 64 late c.args.lines.now)) c.lines.ensures.lines (sym c.in_ok-judge_lines.was ∙ c.judge_lines.ensures) in
    taken_keeps (seen b.real b.due b.away) c.self.invariant (seen c.pass.new.self due.First c.arrive-self-inside.result) late c.args.lines.now c.args.answer.now _ (ap (λ (z : State). z.due) c.self.view_is ∙ c.requires) ok
    (record {
      box = c.pass.ensures ∙ ap real.passed c.arrive-self-inside.ensures.after;
      next = refl;
      inputs = search rules;
      flags = c.arrive-self-inside.ensures.away;
      silent = c.clear.ensures;
    })
