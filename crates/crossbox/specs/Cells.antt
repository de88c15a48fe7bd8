-- Cells, and the order in which cells for one output are to leave. Assumes nothing.
use Rattle.std.specs.Prelude.{ℕ, suc, ◌+◌, Bool, false, cond, ◌&&◌, ◌||◌, List, [], ◌∷◌, Some, None, Option, ◌==◌, nat_lt}
use Rattle.crossbox.specs.declared.Arrival.{Arrival}
use Rattle.crossbox.specs.declared.Cell.{Cell}

-- what arrives in one slot, by input
abbrev pub Arrivals : Type 0
Arrivals = ℕ → Arrival

-- of two cells for one output the earlier has the smaller slot, and in one slot the smaller input
unfoldable pub earlier : Cell → Cell → Bool
earlier c d = nat_lt c.slot d.slot || (c.slot == d.slot && nat_lt c.input d.input)

-- whether two cells are one
unfoldable pub same : Cell → Cell → Bool
same c d = c.slot == d.slot && (c.input == d.input && c.output == d.output)

-- whether a cell stands in a list
unfoldable pub is_in : Cell → List Cell → Bool
is_in c [] = false
is_in c (d ∷ ds) = same c d || is_in c ds

-- a list less one cell
unfoldable pub without : Cell → List Cell → List Cell
without c [] = []
without c (d ∷ ds) = cond (same c d) (without c ds) (d ∷ without c ds)

-- how many stand before a cell in a list: for a waiting cell, its input thread
unfoldable pub ahead : Cell → List Cell → ℕ
ahead c [] = 0
ahead c (d ∷ ds) = cond (same c d) 0 (suc (ahead c ds))

-- how many of a list are earlier than a cell: for a waiting cell and its store, its output cushion
unfoldable pub count_earlier : Cell → List Cell → ℕ
count_earlier c [] = 0
count_earlier c (d ∷ ds) = cond (earlier d c) 1 0 + count_earlier c ds

-- the earlier of a cell and what else there may be
abbrev pub sooner : Cell → Option Cell → Cell
sooner c None = c
sooner c (Some d) = cond (earlier c d) c d

-- the earliest cell of a list, if it has any
unfoldable pub earliest : List Cell → Option Cell
earliest [] = None
earliest (c ∷ cs) = Some (sooner c (earliest cs))
