use Rattle.std.proofs.Common.{◌≡◌, ℕ, false, Ok, sym, ◌∙◌, subst}
use Rattle.crossbox.specs.Cells.{Arrivals}
use Rattle.crossbox.specs.Promise.{Fits}
use Rattle.words.specs.Lines.{judge, verdict}
use Rattle.cioq.specs.Arrivals.{arrivals_of}
use Rattle.cioq.specs.Choice.{choice_of}
use Rattle.crowd.specs.State.{seen, choice_lines}
use Rattle.crowd.proofs.Reading.{choice_fits}
use Rattle.crowd.proofs.Within.{shows_aimed}
use Rattle.crowd.proofs.Crowd.choose.Goals as goal

pub test-requires : goal.test-requires
test-requires c =
    let b = c.self.inside in
    let bytes = c.args.lines.now in
    let ok = subst (λ (n : ℕ). Ok tt ≡ verdict (judge n 0 false bytes)) c.lines.ensures.lines (sym c.in_ok-judge_lines.was ∙ c.judge_lines.ensures) in
    let named = subst (λ (n : ℕ). choice_of c.read_choice-choice.result ≡ arrivals_of (choice_lines n bytes)) c.lines-2.ensures.lines c.read_choice-choice.ensures in
    record {
      fits = subst (λ (ch : Arrivals). Fits b.real.lines ch) (sym named) (choice_fits b.real.lines bytes ok);
      aimed = shows_aimed (seen b.real b.due b.away) c.self.invariant.0 c.self.invariant.1;
    }
