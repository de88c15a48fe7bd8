use Rattle.std.proofs.Common.{◌∙◌, ap, subst}
use Rattle.std.proofs.lemmas.List.{take_rest}
use Rattle.std.proofs.lemmas.Result.{err_from_is_err_and}
use Rattle.serve.specs.declared.form.Form.{Form}
use Rattle.serve.specs.Form.{cut, ending}
use Rattle.serve.specs.Serving.{Serves}
use Rattle.serve.proofs.Turns.{stopped-before, serves-append}
use Rattle.serve.proofs.server.Server.serve_whole.Goals as goal

pub returns-in_err-used : goal.returns-in_err-used
returns-in_err-used g c =
    let p = err_from_is_err_and c.from_residual.result c.from_residual.ensures.1 in
    rw p.1 (c.in_err-used.ensures.serves.0, stopped-before g.S.Switch.shows _ _ _ _ _ _ _ c.in_err-used.ensures.serves.1)

pub returns : goal.returns
returns g c =
    let whole = c.in_ok-used.ensures.serves in
    let was = c.args.self.now in
    let same =
    ap (ending c.serve.new.self.form) (take_rest c.args.input.now c.in_ok-used.used ∙ whole.1.1.rest)
    ∙ ap (λ (f : Form). ending f (cut was.form c.args.input.now).1) whole.0.form in
    serves-append g.S.Switch.shows was c.serve.new.self c.end.new.self (cut was.form c.args.input.now).0
    (ending was.form (cut was.form c.args.input.now).1) (whole.0, whole.1.0) c.end.result
    (subst (λ ws. Serves c.end.result g.S.Switch.shows ws c.serve.new.self c.end.new.self) same c.end.ensures)
