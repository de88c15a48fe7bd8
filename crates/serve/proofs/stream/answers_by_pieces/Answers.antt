use Rattle.std.proofs.Common.{◌≡◌, ◌∙◌}
use Rattle.std.proofs.lemmas.List.{nil_from_length}
use Rattle.serve.proofs.Pieces.{fed_none, fed-more, fed-all}
use Rattle.switch.specs.Respond.Status.{Unset}
use Rattle.serve.proofs.stream.answers_by_pieces.Goals as goal

pub loop-piece-init : goal.loop-piece-init
loop-piece-init g c =
    let rest : c.into_iter-piece-iterator.result.rest.now ≡ c.args.input.now = cc in
    simp (rest, c.new-2.ensures.items) (fed_none g.S.Switch.shows _ _)

pub loop-piece-preserved : goal.loop-piece-preserved
loop-piece-preserved g c =
    fed-more g.S.Switch.shows _ _ _ _ _ c.loop-piece.invariant _ _ _ _ c.in-Some.ensures.steps.1.0
    c.in_ok-take.ensures

pub returns : goal.returns
returns g c =
    let none = nil_from_length _ c.in-None.ensures.steps.1.0 in
    let all = fed-all g.S.Switch.shows _ _ _ _ _ c.loop-piece.invariant c.end.new.self.service none c.in_ok-end.ensures.ended in
    c.into_answers.ensures ∙ (rw c.new.ensures at all).answers Unset c.requires.unset
