-- What a choice leaves in memory, input by input. Assumes nothing.
use Rattle.std.specs.Prelude.{ℕ, zero, suc, ◌+◌, ◌-◌, ◌<◌, cond, List, [], ◌∷◌, length, Some, None, Option, ◌==◌, nat_lt}
use Rattle.std.specs.List.{suffix_len}
use Rattle.crossbox.specs.declared.Arrival.{Arrival}
use Rattle.crossbox.specs.declared.Arrival.TheVariants.{Nothing, For}
use Rattle.crossbox.specs.declared.Cell.{Cell}
use Rattle.crossbox.specs.Cells.{Arrivals, earlier}
use Rattle.places.specs.Head.{cell_of}
use Rattle.buffer.specs.Memory.{Mem, carry, head_at, place_at}
use Rattle.cioq.specs.State.{State}
use Rattle.cioq.specs.Spells.{cells}

-- how many cells of a list stand before its first for output o
unfoldable pub position : ℕ → List Cell → ℕ
position o [] = 0
position o (c ∷ l) = cond (c.output == o) 0 (suc (position o l))

-- behind how many cells of a list its first for output o stands, if it has one
abbrev pub place_of_first : ℕ → List Cell → Option ℕ
place_of_first o l = cond (nat_lt (position o l) (length l)) (Some (position o l)) None

-- nothing is named, or the first cell for an output that is there, and it waits in this list
abbrev pub Sends : ℕ → Arrival → List Cell → Type 0
Sends n Nothing l = Unit {0}
Sends n (For o) l = (o < n) × (position o l < length l)

-- behind how many cells of a store a cell belongs: all but those at its end that are later
unfoldable pub place_for : Cell → List Cell → ℕ
place_for c l = length l - suffix_len (earlier c) l

-- the cell behind the first k of a row
abbrev pub cell_at : Mem → ℕ → ℕ → Cell
cell_at m r k = cell_of (head_at m (place_at r k m))

-- when the first cell for output o in the list of input i has gone to its place in the store
abbrev pub sent : ℕ → ℕ → State → State
sent i o s =
    record {
      mem =
          carry i (position o (cells s.mem i)) (s.lines + o)
          (place_for (cell_at s.mem i (position o (cells s.mem i))) (cells s.mem (s.lines + o))) s.mem;
      counts = s.counts;
      lines = s.lines;
      slots = s.slots;
    }

-- when what is named at input i has gone
abbrev pub transfer_one : ℕ → Arrival → State → State
transfer_one i Nothing s = s
transfer_one i (For o) s = sent i o s

-- when what is named at the first k inputs has gone
unfoldable pub transfer_all : ℕ → Arrivals → State → State
transfer_all zero ch s = s
transfer_all (suc k) ch s = transfer_one k (ch k) (transfer_all k ch s)
