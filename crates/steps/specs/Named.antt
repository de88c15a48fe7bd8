-- Every stable choice of cells is what some choice by input names. Assumes nothing.
use Rattle.std.specs.Prelude.{◌≡◌, ℕ, true, cond, List, [], ◌∷◌, ◌==◌}
use Rattle.crossbox.specs.declared.Arrival.{Arrival}
use Rattle.crossbox.specs.declared.Arrival.TheVariants.{Nothing, For}
use Rattle.crossbox.specs.declared.Cell.{Cell}
use Rattle.crossbox.specs.Cells.{is_in}
use Rattle.crossbox.specs.Box.{Box, Stable}
use Rattle.crossbox.specs.Shape.{WellPlaced, InOrder}
use Rattle.steps.specs.Choice.{picks, all_wait}

-- what each input sends of some cells
unfoldable pub sent_by : List Cell → ℕ → Arrival
sent_by [] i = Nothing
sent_by (m ∷ ms) i = cond (m.input == i) (For m.output) (sent_by ms i)

-- Of a box in order, a choice by input names just the cells of any stable choice, and each of them waits.
abbrev pub StableIsNamed : Type 0
StableIsNamed =
    (n : ℕ) (b : Box) (ms : List Cell) → WellPlaced n b → InOrder b → Stable b ms →
    (all_wait n (sent_by ms) b ≡ true) × ((c : Cell) → is_in c (picks n (sent_by ms) b) ≡ is_in c ms)
