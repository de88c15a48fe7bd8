use Rattle.std.proofs.Common.{ℕ, sym, ap, ◌∙◌, Option}
use Rattle.std.specs.Option.{is_some}
use Rattle.crossbox.specs.declared.Arrival.{Arrival}
use Rattle.cioq.specs.State.{State}
use Rattle.cioq.specs.Spells.{cells}
use Rattle.cioq.specs.Choice.{waits_in}
use Rattle.cioq.specs.Transfers.{place_of_first}
use Rattle.cioq.proofs.Seeking.{found_test}
use Rattle.cioq.proofs.Judging.{waits_test}
use Rattle.cioq.proofs.RealBox.waits.Goals as goal

pub returns : goal.returns
returns c =
    let l = cells c.args.self.now.mem c.args.input in
    let e = c.first_for.ensures ∙ ap (λ (z : State). place_of_first c.in-For.output (cells z.mem c.args.input)) c.self.view_is in
    c.is_some.ensures
    ∙ (ap (λ (r : Option ℕ). is_some r) e
    ∙ (found_test c.in-For.output l ∙ (waits_test c.in-For.output l ∙ sym (ap (λ (x : Arrival). waits_in x l) c.in-For.is))))
