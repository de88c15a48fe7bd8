-- What is told of two boxes. Assumes nothing.
use Rattle.std.specs.Prelude.{◌≡◌, ℕ, List}
use Rattle.crowd.specs.State as crowd
use Rattle.ideal.specs.State as ideal
use Rattle.serve.specs.declared.form.Form.{Form}

-- the two boxes, how their words are written, and the text that was told of them. Both are lent: `crowd_lender` and `ideal_lender` are the names of the references
-- to them, and who lent them finds there what became of them.
pub record Told : Type 0 where
  pub crowd_lender : ℕ
  pub ideal_lender : ℕ
  pub crowd : crowd.State
  pub ideal : ideal.State
  pub form : Form
  pub text : List ℕ

-- the same boxes, of the same lender, take words that are written in the same way
pub record SameBoxes (was is : Told) : Type 0 where
  pub crowd : is.crowd_lender ≡ was.crowd_lender
  pub ideal : is.ideal_lender ≡ was.ideal_lender
  pub form : is.form ≡ was.form
