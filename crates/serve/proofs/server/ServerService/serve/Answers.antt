use Rattle.std.proofs.Common.{◌≡◌, ap}
use Rattle.std.proofs.lemmas.Result.{err_from_is_err_and}
use Rattle.serve.specs.Serving.{Serving}
use Rattle.serve.proofs.Loops.{going_none, going_more, going-stops, going-ends}
use Rattle.serve.proofs.server.ServerService.serve.Goals as goal

pub loop-taken-init : goal.loop-taken-init
loop-taken-init g c = going_none g.S.Switch.shows _ _

pub returns-in_err-serve_word-clause-serves : goal.returns-in_err-serve_word-clause-serves
returns-in_err-serve_word-clause-serves g c =
    let p = err_from_is_err_and c.from_residual.result c.from_residual.ensures.1 in
    let same : c.self.inside.form ≡ c.loop-taken.self.form = ap (λ (s : Serving g.row.S.Denot). s.form) c.self.view_is in
    rw p.1
    (going-stops g.S.Switch.shows _ _ _ _ c.loop-taken.invariant _ _ _ (rw same at c.in-Some.ensures.value) c.in_err-serve_word.ensures)

pub loop-taken-preserved : goal.loop-taken-preserved
loop-taken-preserved g c =
    let same : c.self.inside.form ≡ c.loop-taken.self.form = ap (λ (s : Serving g.row.S.Denot). s.form) c.self.view_is in
    going_more g.S.Switch.shows _ _ _ _ c.loop-taken.invariant _ _ _ (rw same at c.in-Some.ensures.value) c.in_ok-serve_word.ensures

pub returns-clause-serves : goal.returns-clause-serves
returns-clause-serves g c =
    let same : c.self.inside.form ≡ c.loop-taken.self.form = ap (λ (s : Serving g.row.S.Denot). s.form) c.self.view_is in
    going-ends g.S.Switch.shows _ _ _ _ c.loop-taken.invariant (rw same at c.in_default.ensures.value)
