-- Memory against the model: its rows are the lists and stores of a box, each cell with its bytes. Assumes nothing.
use Rattle.std.specs.Prelude.{◌≡◌, ℕ, ◌+◌, ◌<◌, List, map, slice_index}
use Rattle.crossbox.specs.declared.Cell.{Cell}
use Rattle.crossbox.specs.Box.{Box, held_for}
use Rattle.buffer.specs.Memory.{Mem, Held, held}

-- a cell with its bytes, as `bytes` has them
abbrev pub dress : (Cell → List ℕ) → Cell → Held
dress bytes c = record { cell = c; body = bytes c }

-- the first n rows are the lists of a box, and the next n its stores
pub record Spells (bytes : Cell → List ℕ) (n : ℕ) (m : Mem) (b : Box) : Type 0 where
  pub lists : (i : ℕ) → i < n → held m i ≡ map (dress bytes) (b.waiting i)
  pub stores : (o : ℕ) → o < n → held m (n + o) ≡ map (dress bytes) (b.store o)

-- the counts are of the cells that a box holds for each output
abbrev pub Counts : ℕ → List ℕ → Box → Type 0
Counts n counts b = (o : ℕ) → o < n → slice_index counts o ≡ held_for n o b

-- the cells of a row, without their bytes
abbrev pub cells : Mem → ℕ → List Cell
cells m r = map (λ (h : Held). h.cell) (held m r)

-- the box that a memory of n lines spells
abbrev pub box_of : ℕ → Mem → Box
box_of n m = record { waiting = λ i. cells m i; store = λ o. cells m (n + o) }
