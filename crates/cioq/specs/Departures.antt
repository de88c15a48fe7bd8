-- What leaves by each output in a slot, and what that leaves. Assumes nothing.
use Rattle.std.specs.Prelude.{ℕ, zero, suc, ◌+◌, ◌-◌, cond, List, [], ◌++◌, Some, None, Option, ◌==◌, slice_index_or, slice_set}
use Rattle.crossbox.specs.declared.Cell.{Cell}
use Rattle.crossbox.specs.Box.{Box, departs}
use Rattle.places.specs.Head.{cell_of}
use Rattle.buffer.specs.Memory.{row_length, head_at, place_at, remove}
use Rattle.words.specs.Answer.{Departure, leaving}
use Rattle.cioq.specs.State.{State, count_of}

-- less the first cell of the store of output o
abbrev pub without_first : ℕ → State → State
without_first o s =
    record {
      mem = remove (s.lines + o) 0 s.mem;
      counts = slice_set s.counts o (count_of s o - 1);
      lines = s.lines;
      slots = s.slots;
    }

-- when the first cell of the store of output o has left, if there is one
abbrev pub depart_one : ℕ → State → State
depart_one o s = cond (row_length s.mem (s.lines + o) == 0) s (without_first o s)

-- when the first cell of each of the first k stores has left
unfoldable pub depart_all : ℕ → State → State
depart_all zero s = s
depart_all (suc k) s = depart_one k (depart_all k s)

-- what leaves by output o: the first cell of its store, with its bytes
abbrev pub departure_of : ℕ → State → Departure
departure_of o s =
    cond (row_length s.mem (s.lines + o) == 0) None
    (Some (cell_of (head_at s.mem (place_at (s.lines + o) 0 s.mem)), slice_index_or s.mem.cells (place_at (s.lines + o) 0 s.mem) []))

-- the bytes of what leaves by the first k outputs
unfoldable pub departing_bytes : ℕ → State → List ℕ
departing_bytes zero s = []
departing_bytes (suc k) s = departing_bytes k s ++ leaving (departure_of k (depart_all k s))

-- a cell with its bytes, or none
abbrev pub dressed : (Cell → List ℕ) → Option Cell → Departure
dressed bytes None = None
dressed bytes (Some c) = Some (c, bytes c)

-- the bytes of what departs from a box by the first k outputs
unfoldable pub departed_bytes : (Cell → List ℕ) → ℕ → Box → List ℕ
departed_bytes bytes zero b = []
departed_bytes bytes (suc k) b = departed_bytes bytes k b ++ leaving (dressed bytes (departs k b))
