-- A server as its callers see it, and what serving words comes to. Assumes nothing.
use Rattle.std.specs.Prelude.{◌≡◌, ℕ, ◌⊎◌, List, drop, Ok, Err, Result, MatchResult}
use Rattle.frames.specs.Streams.{Split}
use Rattle.switch.specs.Respond.{Status}
use Rattle.serve.specs.declared.form.Form.{Form}
use Rattle.serve.specs.Served.{Served, Stopped, Ended, Used}
use Rattle.serve.specs.Form.{spelled}

-- the switch, how its words are written, and the answers that it has given. The switch is lent: `lender` is the name of the reference
-- to it, and who lent it finds there what became of it.
pub record Serving (S : Type 0) : Type 0 where
  pub lender : ℕ
  pub switch : S
  pub form : Form
  pub answers : List ℕ

-- the same switch, of the same lender, serves words that are written in the same way
pub record SameServer {S : Type 0} (was is : Serving S) : Type 0 where
  pub lender : is.lender ≡ was.lender
  pub form : is.form ≡ was.form

-- all words were served, or memory gave out
abbrev pub Serves :
    {S E : Type 0} → Result (Unit {0}) E → (S → Status → Type 0) → List (List ℕ) → Serving S → Serving S → Type 0
Serves r shows words was is =
    SameServer was is × Ended r shows (spelled was.form) words was.switch is.switch was.answers is.answers

-- all whole words of the input were served, and so many bytes were used; or memory gave out
abbrev pub ServesUpTo :
    {S E : Type 0} → Result ℕ E → (S → Status → Type 0) → Split → List ℕ → Serving S → Serving S → Type 0
ServesUpTo r shows parts input was is =
    SameServer was is
    × MatchResult r (λ used. Served shows (spelled was.form) parts.0 was.switch is.switch was.answers is.answers × Used used input parts.1) (λ _. Stopped shows (spelled was.form) parts.0 was.switch is.switch was.answers is.answers)

-- a piece came: all whole words of the bytes so far were served, and what is left of them is kept; or memory gave out,
-- before or while they were served
abbrev pub Takes :
    {W E : Type 0} → Result (Unit {0}) E → (W → List ℕ → Result ℕ E → W → Type 0) → W → W → List ℕ → List ℕ → Type 0
Takes (Ok x) serves was is bytes left = (used : ℕ) × serves was bytes (Ok used) is × (left ≡ drop used bytes)
Takes (Err e) serves was is bytes left = (is ≡ was) ⊎ serves was bytes (Err e) is
