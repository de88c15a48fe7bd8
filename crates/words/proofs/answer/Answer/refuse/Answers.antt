use Rattle.std.proofs.Common.{ℕ, [], ◌∷◌, ap, ◌∙◌}
use Rattle.words.specs.Writing.{Draft, appended, cleared}
use Rattle.words.proofs.Overwrites.{appended_then}
use Rattle.words.proofs.answer.Answer.refuse.Goals as goal

pub returns : goal.returns
returns c =
    c.push.ensures ∙ ap (λ (w : Draft). appended (c.from.result ∷ []) w) c.begin.ensures
    ∙ appended_then (5 ∷ []) (c.from.result ∷ []) (cleared c.args.self.now)
    ∙ ap (λ (n : ℕ). appended (5 ∷ (n ∷ [])) (cleared c.args.self.now)) c.from.ensures
