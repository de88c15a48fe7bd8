use Rattle.std.proofs.Common.{sym, ap, ◌∙◌}
use Rattle.cioq.specs.State.{State}
use Rattle.cioq.specs.Spells.{box_of}
use Rattle.cioq.specs.Choice.{choice_of, one_output, picks, gets_of, table_of}
use Rattle.cioq.proofs.Judging.{all_settled_alike, judged_unstable, judged_good}
use Rattle.cioq.proofs.RealBox.test.Goals as goal

pub returns-then-not-all_settled : goal.returns-then-not-all_settled
returns-then-not-all_settled c =
    let n = c.args.self.now.lines in
    let ch = choice_of c.args.choice.now in
    let b = box_of n c.args.self.now.mem in
    let one = c.one_for_each.ensures ∙ ap (λ (z : State). one_output z.lines ch) c.self.view_is in
    judged_unstable n ch b (sym c.all_wait.ensures ∙ c.if-not-all_wait.false) (sym one ∙ c.if-not-one_for_each.false)
    (sym (all_settled_alike n (table_of c.gets-gets.result) (gets_of (picks n ch b)) ch b c.gets-gets.ensures c.requires.aimed) ∙ (sym c.all_settled.ensures ∙ c.if-not-all_settled.true))

pub returns : goal.returns
returns c =
    let n = c.args.self.now.lines in
    let ch = choice_of c.args.choice.now in
    let b = box_of n c.args.self.now.mem in
    let one = c.one_for_each.ensures ∙ ap (λ (z : State). one_output z.lines ch) c.self.view_is in
    judged_good n ch b (sym c.all_wait.ensures ∙ c.if-not-all_wait.false) (sym one ∙ c.if-not-one_for_each.false)
    (sym (all_settled_alike n (table_of c.gets-gets.result) (gets_of (picks n ch b)) ch b c.gets-gets.ensures c.requires.aimed) ∙ (sym c.all_settled.ensures ∙ c.if-not-all_settled.false))
