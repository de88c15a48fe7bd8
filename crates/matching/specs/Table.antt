-- The table of first cells, tied to the box that it is about, and what is found, tied to the finding of the model. Assumes nothing.
use Rattle.std.specs.Prelude.{◌≡◌, ℕ, zero, suc, ◌+◌, ◌*◌, ◌≤◌, List, [], Some, None, Option, slice_index, slice_index_or}
use Rattle.crossbox.specs.declared.Arrival.{Arrival}
use Rattle.crossbox.specs.declared.Arrival.TheVariants.{Nothing, For}
use Rattle.crossbox.specs.declared.Cell.{Cell}
use Rattle.crossbox.specs.Cells.{ahead}
use Rattle.crossbox.specs.Ideal.{first}
use Rattle.crossbox.specs.Box.{Box, Stable, for_output}
use Rattle.crossbox.specs.Shape.{WellPlaced, InOrder}
use Rattle.crossbox.specs.Matching.{Finding, after_asks, waits_at, pairs, with_kept, find}
use Rattle.matching.specs.declared.Firsts.{Firsts}
use Rattle.matching.specs.declared.Found.{Found}
use Rattle.bits.specs.Bits.{is_set}

-- the first cell of a list that is for output o
abbrev pub first_for : ℕ → List Cell → Option Cell
first_for o cs = first (for_output o cs)

-- a table has the first waiting cell of each pair of a box with n inputs and n outputs
pub record Ties (t : Firsts) (n : ℕ) (b : Box) : Type 0 where
  pub placed : WellPlaced n b
  pub order : InOrder b
  pub waits : (i o : ℕ) → is_set (slice_index t.waiting o) i ≡ waits_at b i o
  pub slot : (i o : ℕ) (c : Cell) → first_for o (b.waiting i) ≡ Some c → slice_index t.slots (o * 32 + i) ≡ c.slot
  pub place : (i o : ℕ) (c : Cell) → first_for o (b.waiting i) ≡ Some c → slice_index t.places (i * 32 + o) ≡ ahead c (b.waiting i)

-- what an input keeps, as a choice has it: the output for which it is
abbrev pub shown : Option Cell → Arrival
shown None = Nothing
shown (Some c) = For c.output

-- the cell that a choice names in a list: the first one for its output
abbrev pub picked : Arrival → List Cell → Option Cell
picked Nothing cs = None
picked (For o) cs = first_for o cs

-- the cells that a choice names at the first k inputs
unfoldable pub picks : ℕ → List Arrival → Box → List Cell
picks zero choice b = []
picks (suc k) choice b = with_kept (picked (slice_index_or choice k Nothing) (b.waiting k)) (picks k choice b)

-- the finding of the model when it has ended
abbrev pub ended : ℕ → Box → Finding
ended n b = after_asks (pairs n b) n b

-- what is found is what the model finds, a stable choice: the same cells, each input sending what it keeps there, the first cell of
-- its pair, and after as many asks
pub record Finds (r : Found) (n : ℕ) (b : Box) : Type 0 where
  pub cells : picks n r.choice b ≡ find n b
  pub stable : Stable b (picks n r.choice b)
  pub sends : (i : ℕ) → slice_index_or r.choice i Nothing ≡ shown ((ended n b).kept i)
  pub leading : (i : ℕ) (c : Cell) → (ended n b).kept i ≡ Some c → first_for c.output (b.waiting i) ≡ Some c
  pub nobody : (i : ℕ) → n ≤ i → slice_index_or r.choice i Nothing ≡ Nothing
  pub counted : r.asks ≡ (ended n b).asks
