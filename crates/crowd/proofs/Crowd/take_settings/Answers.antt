use Rattle.std.proofs.Common.{sym, ◌∙◌}
use Rattle.crowd.specs.State.{seen}
use Rattle.crowd.proofs.Reading.{settings_range}
use Rattle.crowd.proofs.Steps.{begun_keeps}
use Rattle.crowd.proofs.Crowd.take_settings.Goals as goal

pub invariant_of-self : goal.invariant_of-self
invariant_of-self c =
    let b = c.self.inside in
    let range = settings_range c.args.word.now c.in_ok-lines.lines (sym c.read_settings.ensures ∙ c.in_ok-lines.was) in
    rw c.begin.ensures (begun_keeps (seen b.real b.due b.away) c.self.invariant c.in_ok-lines.lines range.0 range.1)
