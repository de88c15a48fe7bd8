-- What leaves from the front of a row, and the memory when it has left. Assumes nothing.
use Rattle.std.specs.Prelude.{ℕ, cond, [], Some, None, ◌==◌, slice_index_or}
use Rattle.places.specs.Head.{cell_of}
use Rattle.words.specs.Answer.{Departure}
use Rattle.buffer.specs.Memory.{Mem, row_length, head_at, place_at, remove}

-- what stands first in row r: a cell with its bytes, or none
abbrev pub first_of : ℕ → Mem → Departure
first_of r m =
    cond (row_length m r == 0) None
    (Some (cell_of (head_at m (place_at r 0 m)), slice_index_or m.cells (place_at r 0 m) []))

-- the memory when that has left
abbrev pub without_first : ℕ → Mem → Mem
without_first r m = cond (row_length m r == 0) m (remove r 0 m)
