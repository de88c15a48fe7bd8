-- Sets of numbers as the bits of a number. Assumes nothing.
use Rattle.std.specs.Prelude.{◌≡◌, ℕ, ◌/◌, ◌%◌, ◌^◌, ◌<◌, Bool, true, false, ◌==◌}

-- whether bit k of x is set
unfoldable pub is_set : ℕ → ℕ → Bool
is_set x k = x / 2 ^ k % 2 == 1

-- k is the lowest bit of x that is set, and one of the first 32
pub record Lowest (x k : ℕ) : Type 0 where
  pub small : k < 32
  pub here : is_set x k ≡ true
  pub below : (j : ℕ) → j < k → is_set x j ≡ false
