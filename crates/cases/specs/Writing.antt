-- How cells, slots and boxes are written down here. Assumes nothing.
use Rattle.std.specs.Prelude.{ℕ, ◌-◌, cond, List, [], map, reverse, codes, ◌==◌, slice_index_or}
use Prim.Native.String.{String}
use Rattle.std.specs.List.{range_with_len}
use Rattle.crossbox.specs.declared.Arrival.{Arrival}
use Rattle.crossbox.specs.declared.Arrival.TheVariants.{Nothing, For}
use Rattle.crossbox.specs.declared.Cell.{Cell}
use Rattle.crossbox.specs.Cells.{Arrivals}
use Rattle.crossbox.specs.Box.{Box}

-- a cell, by its slot, input and output
abbrev pub cell : ℕ → ℕ → ℕ → Cell
cell t i o = record { slot = t; input = i; output = o }

-- what a sign says of an input: a dash that nothing arrives, a digit the output of a cell
abbrev pub signed : ℕ → Arrival
signed sign = cond (sign == 45) Nothing (For (sign - 48))

-- what arrives in a slot, by a list of it
abbrev pub by_input : List Arrival → Arrivals
by_input arrivals i = slice_index_or arrivals i Nothing

-- a slot, by a sign for each input
abbrev pub signs : String → Arrivals
signs text = by_input (map signed (codes text))

-- slots, first to last, as a past, the latest first
abbrev pub slots : List String → List Arrivals
slots texts = reverse (map signs texts)

-- a box, by its lists and its stores
abbrev pub box_of : List (List Cell) → List (List Cell) → Box
box_of lists stores = record { waiting = λ i. slice_index_or lists i []; store = λ o. slice_index_or stores o [] }

-- a box with its first n lines alone, written out
abbrev pub within : ℕ → Box → Box
within n b = box_of (map b.waiting (range_with_len 0 n)) (map b.store (range_with_len 0 n))
