-- A table of the first cells of lists, in the making. Assumes nothing.
use Rattle.std.specs.Prelude.{◌≡◌, ℕ, ◌+◌, ◌*◌, ◌<◌, cond, List, [], ◌∷◌, ◌++◌, length, Some, ◌==◌, slice_index}
use Rattle.crossbox.specs.declared.Cell.{Cell}
use Rattle.crossbox.specs.Cells.{ahead}
use Rattle.crossbox.specs.Box.{for_output}
use Rattle.crossbox.specs.Matching.{some}
use Rattle.matching.specs.declared.Firsts.{Firsts}
use Rattle.bits.specs.Bits.{is_set}
use Rattle.matching.specs.Table.{first_for}

-- a table has the first cell for each output of each of these lists
pub record TableOf (t : Firsts) (ls : ℕ → List Cell) : Type 0 where
  pub long : (length t.waiting ≡ 32) × (length t.slots ≡ 1024) × (length t.places ≡ 1024)
  pub waits : (i o : ℕ) → is_set (slice_index t.waiting o) i ≡ some (for_output o (ls i))
  pub slot : (i o : ℕ) (c : Cell) → i < 32 → o < 32 → first_for o (ls i) ≡ Some c → slice_index t.slots (o * 32 + i) ≡ c.slot
  pub place : (i o : ℕ) (c : Cell) → i < 32 → o < 32 → first_for o (ls i) ≡ Some c → slice_index t.places (i * 32 + o) ≡ ahead c (ls i)

-- these lists, with a cell at the end of that of input i
abbrev pub grown : ℕ → Cell → (ℕ → List Cell) → ℕ → List Cell
grown i c ls j = cond (j == i) (ls j ++ (c ∷ [])) (ls j)
