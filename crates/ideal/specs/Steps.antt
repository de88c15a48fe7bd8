-- What the steps of a slot leave in memory, input by input and output by output. Assumes nothing.
use Rattle.std.specs.Prelude.{◌≡◌, ℕ, zero, suc, ◌+◌, ◌<◌, Bool, true, false, cond, not, List, [], ◌∷◌, ◌++◌, map, length, get_or, Some, None, ◌==◌, nat_lt, slice_index_or}
use Rattle.std.specs.List.{range_with_len}
use Rattle.std.specs.Option.{unwrap_or}
use Rattle.crossbox.specs.declared.Arrival.{Arrival}
use Rattle.crossbox.specs.declared.Arrival.TheVariants.{Nothing, For}
use Rattle.places.specs.Head.{cell_of}
use Rattle.buffer.specs.Memory.{Mem, row_length, head_at, place_at, put, remove}
use Rattle.words.specs.Lines.{Line, no_line, read_lines, all_fit}
use Rattle.words.specs.Answer.{Departure}
use Rattle.ideal.specs.State.{State}

-- what arrives is nothing, or a cell of 64 bytes for an output that is there
abbrev pub Brings : ℕ → Arrival → List ℕ → Type 0
Brings n Nothing body = Unit {0}
Brings n (For o) body = (o < n) × (length body ≡ 64)

-- whether the queue of what arrives is full
abbrev pub turned_away : Mem → Arrival → Bool
turned_away m Nothing = false
turned_away m (For o) = not (nat_lt (row_length m o) 256)

-- the memory when what arrives by input i in slot t has been put to the end of its queue, if that has room
abbrev pub admit_in : ℕ → ℕ → Arrival → List ℕ → Mem → Mem
admit_in t i Nothing body m = m
admit_in t i (For o) body m =
    cond (nat_lt (row_length m o) 256) (put o (row_length m o) (record { slot = t; input = i; output = o }) body m) m

abbrev pub admit_one : ℕ → Arrival → List ℕ → State → State
admit_one i x body s = record { mem = admit_in s.slots i x body s.mem; lines = s.lines; slots = s.slots }

-- the lines that bytes give; none where they give no n lines
abbrev pub lines_of : ℕ → List ℕ → List Line
lines_of n bytes = unwrap_or (read_lines 64 n bytes) []

-- bytes give n lines, for outputs that are there
abbrev pub Reads : ℕ → List ℕ → Type 0
Reads n bytes = (read_lines 64 n bytes ≡ Some (lines_of n bytes)) × (all_fit n (lines_of n bytes) ≡ true)

-- the memory when the lines of the first k inputs have been admitted in slot t
unfoldable pub admit_all : ℕ → List Line → ℕ → Mem → Mem
admit_all t ls zero m = m
admit_all t ls (suc k) m = admit_in t k (get_or ls k no_line).arrival (get_or ls k no_line).body (admit_all t ls k m)

-- the box when the lines of the first k inputs have been admitted
abbrev pub admitted : ℕ → List Line → State → State
admitted k ls s = record { mem = admit_all s.slots ls k s.mem; lines = s.lines; slots = s.slots }

-- whether the line of input i is turned away, when its turn comes
abbrev pub away : ℕ → List Line → Mem → ℕ → Bool
away t ls m i = turned_away (admit_all t ls i m) (get_or ls i no_line).arrival

-- what leaves by output o: the first of its queue
abbrev pub departure_of : ℕ → Mem → Departure
departure_of o m =
    cond (row_length m o == 0) None
    (Some (cell_of (head_at m (place_at o 0 m)), slice_index_or m.cells (place_at o 0 m) []))

-- the memory when that has left
abbrev pub depart_one : ℕ → Mem → Mem
depart_one o m = cond (row_length m o == 0) m (remove o 0 m)

abbrev pub departing : ℕ → State → State
departing o s = record { mem = depart_one o s.mem; lines = s.lines; slots = s.slots }

-- the memory when the first of each of the first k queues has left
unfoldable pub depart_all : ℕ → Mem → Mem
depart_all zero m = m
depart_all (suc k) m = depart_one k (depart_all k m)

-- the box when the first of each of the first k queues has left
abbrev pub departed : ℕ → State → State
departed k s = record { mem = depart_all k s.mem; lines = s.lines; slots = s.slots }

-- what leaves by each of the first k outputs
unfoldable pub departures : ℕ → Mem → List Departure
departures zero m = []
departures (suc k) m = departures k m ++ (departure_of k (depart_all k m) ∷ [])

-- the box after a slot with these lines
abbrev pub served : List Line → State → State
served ls s =
    record {
      mem = depart_all s.lines (admit_all s.slots ls s.lines s.mem);
      lines = s.lines;
      slots = s.slots + 1;
    }

-- what leaves by each output in a slot with these lines
abbrev pub leavers : List Line → State → List Departure
leavers ls s = departures s.lines (admit_all s.slots ls s.lines s.mem)

-- for each input whether its cell is turned away
abbrev pub rejects : List Line → State → List Bool
rejects ls s = map (away s.slots ls s.mem) (range_with_len 0 s.lines)
