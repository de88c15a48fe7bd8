-- The ideal box: whatever arrives stands at once in the queue of its output. Assumes nothing.
-- `room` is how many cells a queue holds, `n` the number of inputs and of outputs, `past` the slots so far, the latest first.
use Rattle.std.specs.Prelude.{ℕ, zero, suc, Bool, false, cond, not, List, [], ◌∷◌, ◌++◌, length, Some, None, Option, ◌==◌, nat_lt}
use Rattle.crossbox.specs.declared.Arrival.{Arrival}
use Rattle.crossbox.specs.declared.Arrival.TheVariants.{Nothing, For}
use Rattle.crossbox.specs.declared.Cell.{Cell}
use Rattle.crossbox.specs.Cells.{Arrivals}

-- the cell for output o, if any, that arrives in slot t by input i
abbrev pub cells_for : ℕ → ℕ → ℕ → Arrival → List Cell
cells_for t i o Nothing = []
cells_for t i o (For p) = cond (p == o) (record { slot = t; input = i; output = p } ∷ []) []

-- cells are put to the end of a queue, unless it is full
abbrev pub admit : ℕ → List Cell → List Cell → List Cell
admit room cs q = cond (nat_lt (length q) room) (q ++ cs) q

-- the queue q of output o after the arrivals of slot t by inputs 0 to n - 1, in this order
unfoldable pub admitted : ℕ → ℕ → ℕ → ℕ → Arrivals → List Cell → List Cell
admitted room zero t o a q = q
admitted room (suc n) t o a q = admit room (cells_for t n o (a n)) (admitted room n t o a q)

-- a queue after its first cell has left
abbrev pub rest : List Cell → List Cell
rest [] = []
rest (c ∷ cs) = cs

-- the first cell of a queue, if it has any
abbrev pub first : List Cell → Option Cell
first [] = None
first (c ∷ cs) = Some c

-- the queue of output o after these slots: in each, cells arrive, and then the first leaves
unfoldable pub queue : ℕ → ℕ → ℕ → List Arrivals → List Cell
queue room n o [] = []
queue room n o (a ∷ past) = rest (admitted room n (length past) o a (queue room n o past))

-- what leaves by output o in the slot after these
abbrev pub departure : ℕ → ℕ → ℕ → List Arrivals → Arrivals → Option Cell
departure room n o past a = first (admitted room n (length past) o a (queue room n o past))

-- whether the queue of what arrives by input i, in the slot after these, is full when its turn comes
abbrev pub full : ℕ → ℕ → ℕ → List Arrivals → Arrivals → Arrival → Bool
full room n i past a Nothing = false
full room n i past a (For o) = not (nat_lt (length (admitted room i (length past) o a (queue room n o past))) room)

-- whether the cell that arrives by input i in the slot after these is turned away
abbrev pub rejected : ℕ → ℕ → ℕ → List Arrivals → Arrivals → Bool
rejected room n i past a = full room n i past a (a i)
