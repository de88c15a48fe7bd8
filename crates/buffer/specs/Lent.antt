-- What is lent to a memory: the part that the settings need, and what lies beyond it. Assumes nothing.
use Rattle.std.specs.Prelude.{ℕ, take, drop}
use Rattle.buffer.specs.Memory.{Lent, Mem}

-- what is lent to a memory
abbrev pub lent_to : Mem → Lent
lent_to m = record { heads = m.heads; cells = m.cells; rows = m.rows; spare = m.spare }

-- what lies beyond so many places and so much of the rows
abbrev pub beyond : ℕ → ℕ → Lent → Lent
beyond places span l =
    record {
      heads = drop places l.heads;
      cells = drop places l.cells;
      rows = drop span l.rows;
      spare = drop places l.spare;
    }

-- a memory to which no more is lent than so many places and so much of the rows
abbrev pub within : ℕ → ℕ → Mem → Mem
within places span m =
    record {
      heads = take places m.heads;
      cells = take places m.cells;
      rows = take span m.rows;
      spare = take places m.spare;
      lens = m.lens;
      free = m.free;
      places = m.places;
      room = m.room;
      count = m.count;
    }
