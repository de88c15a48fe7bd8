use Rattle.std.proofs.Common.{◌≡◌, ℕ, true, false, refl, sym, ◌∙◌, arith}
use Rattle.std.proofs.lemmas.Bool.{eqb-true, eq-eqb}
use Rattle.std.proofs.lemmas.Result.{err_from_is_err_and}
use Rattle.serve.specs.Form.{spelled}
use Rattle.serve.proofs.Turns.{same-refl, served_silent, stopped_at_once, wrote_one}
use Rattle.serve.proofs.server.Server.serve_word.Goals as goal

pub returns-in_err-word : goal.returns-in_err-word
returns-in_err-word g c =
    let p = err_from_is_err_and c.from_residual.result c.from_residual.ensures.1 in
    rw (← c.self.view_is, p.1) (same-refl _, stopped_at_once g.S.Switch.shows _ _ _ _)

pub returns-then-is_empty : goal.returns-then-is_empty
returns-then-is_empty g c =
    let none = eqb-true _ 0 (sym c.is_empty.ensures ∙ c.if-is_empty.true) in
    rw (← c.self.view_is, ← c.in_ok-word.ensures) (
      record { lender = refl; form = refl },
      served_silent g.S.Switch.shows (spelled c.self.inside.form) c.in_ok-word.word.now _ c.self.inside.answer c.answer.new.answer
          _ _ c.answer.ensures.answers c.answer.ensures.goes_on (omega (arith, none, c.as_bytes-answer.ensures.all)),
    )

not_both : true ≡ false → ⊥
not_both e = let z : ◌≡◌ {A = ℕ} 0 1 = cc in omega arith

pub returns : goal.returns
returns g c =
    rw (← c.self.view_is, ← c.in_ok-word.ensures) (
      record { lender = refl; form = refl },
      wrote_one g.S.Switch.shows (spelled c.self.inside.form) c.in_ok-word.word.now _ c.self.inside.answer c.answer.new.answer
          _ _ c.answer.ensures.answers c.answer.ensures.goes_on
          c.push.result _
          (λ none. not_both (sym (eq-eqb _ 0 (c.as_bytes-answer.ensures.all ∙ none)) ∙ sym c.is_empty.ensures ∙ c.if-is_empty.false))
          (rw (← c.as_bytes-answer.ensures.bytes) c.push.ensures),
    )
