-- What arrives in a slot, input by input, and what it leaves. Assumes nothing.
use Rattle.std.specs.Prelude.{◌≡◌, ℕ, zero, suc, ◌+◌, ◌<◌, min, Bool, false, cond, not, List, [], length, Some, None, Option, nat_lt, slice_index_or, slice_set}
use Rattle.crossbox.specs.declared.Arrival.{Arrival}
use Rattle.crossbox.specs.declared.Arrival.TheVariants.{Nothing, For}
use Rattle.crossbox.specs.Cells.{Arrivals}
use Rattle.buffer.specs.Memory.{row_length, put}
use Rattle.words.specs.Lines.{Line, no_line, read_lines}
use Rattle.cioq.specs.State.{State, count_of}

-- what arrives is nothing, or a cell of 64 bytes for an output that is there
abbrev pub Brings : ℕ → Arrival → List ℕ → Type 0
Brings n Nothing body = Unit {0}
Brings n (For o) body = (o < n) × (length body ≡ 64)

-- behind how many cells of its list a cell for output o by input i is put: as many as stand in the store of o, if there are so many
abbrev pub spot : ℕ → ℕ → State → ℕ
spot i o s = min (row_length s.mem (s.lines + o)) (row_length s.mem i)

-- with a cell for output o by input i
abbrev pub with_cell : ℕ → ℕ → List ℕ → State → State
with_cell i o body s =
    record {
      mem = put i (spot i o s) (record { slot = s.slots; input = i; output = o }) body s.mem;
      counts = slice_set s.counts o (count_of s o + 1);
      lines = s.lines;
      slots = s.slots;
    }

-- whether what arrives is turned away: the box holds 256 cells for its output already
abbrev pub turned_away : State → Arrival → Bool
turned_away s Nothing = false
turned_away s (For o) = not (nat_lt (count_of s o) 256)

-- when what arrives by input i has been put into its list, if there is room for it
abbrev pub admit_one : ℕ → Arrival → List ℕ → State → State
admit_one i Nothing body s = s
admit_one i (For o) body s = cond (nat_lt (count_of s o) 256) (with_cell i o body s) s

-- what arrives by each input
abbrev pub arrivals_of : List Line → Arrivals
arrivals_of ls i = (slice_index_or ls i no_line).arrival

-- when the lines of the first k inputs have been admitted
unfoldable pub admit_all : List Line → ℕ → State → State
admit_all ls zero s = s
admit_all ls (suc k) s = admit_one k (arrivals_of ls k) (slice_index_or ls k no_line).body (admit_all ls k s)

-- whether the line of input i is turned away, when its turn comes
abbrev pub away : List Line → State → ℕ → Bool
away ls s i = turned_away (admit_all ls i s) (arrivals_of ls i)

-- the lines that were read, or none
abbrev pub lines_or : Option (List Line) → List Line
lines_or None = []
lines_or (Some ls) = ls

-- the n lines of a slot's bytes
abbrev pub slot_lines : ℕ → List ℕ → List Line
slot_lines n bytes = lines_or (read_lines 64 n bytes)
