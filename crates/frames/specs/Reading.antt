-- A line of digits while it is read. Assumes nothing.
use Rattle.std.specs.Prelude.{ℕ, ◌<◌, List, ◌++◌, Some, None, Option}
use Rattle.std.specs.Option.{option_map}
use Rattle.frames.specs.declared.hex.Reading.{Reading}
use Rattle.frames.specs.declared.hex.Reading.TheVariants.{Whole, Half, Wrong}
use Rattle.frames.specs.Hex.{digit_values, digit_values_of, before, paired_if, unhex}

-- the word that the line spells, from the bytes read so far and the characters still to come
unfoldable pub comes_to : Reading → List ℕ → List ℕ → Option (List ℕ)
comes_to Whole bytes cs = option_map (λ more. bytes ++ more) (unhex cs)
comes_to (Half high) bytes cs = option_map (λ more. bytes ++ more) (paired_if (before (Some high) (digit_values_of cs)))
comes_to Wrong bytes cs = None

-- how many digits stand read of a byte that is not whole
abbrev pub begun : Reading → ℕ
begun Whole = 0
begun (Half high) = 1
begun Wrong = 0

-- the digit that is read has a digit's value
abbrev pub Digit : Reading → Type 0
Digit Whole = Unit {0}
Digit (Half high) = high < digit_values
Digit Wrong = Unit {0}
