-- What it is that something came as expected. Assumes nothing.
use Rattle.std.specs.Prelude.{◌≡◌, ℕ, List, Ok, Err, Result}
use Rattle.std.specs.Borrow.{Bor}

-- bytes came, and they are the expected ones
abbrev pub AsExpected : {E : Type 0} → Result (Bor (List ℕ)) E → List ℕ → Type 0
AsExpected (Ok bytes) expected = bytes.now ≡ expected
AsExpected (Err e) expected = ⊥
