-- What is promised of the whole: the real box does what the ideal box does, for every stable choice of cells. Assumes nothing.
-- Each statement is a type; a proof of the type is the theorem.
use Rattle.std.specs.Prelude.{◌≡◌, ℕ, ◌<◌, ◌≤◌, true, not, List, [], ◌∷◌, length}
use Rattle.crossbox.specs.declared.Arrival.TheVariants.{For}
use Rattle.crossbox.specs.declared.Cell.{Cell}
use Rattle.crossbox.specs.Cells.{Arrivals, is_in, ahead, count_earlier}
use Rattle.crossbox.specs.Ideal.{admitted, queue, departure, rejected}
use Rattle.crossbox.specs.Box.{Box, Run, Stable, arriving, arrived, transfer, departs, departed, held_for, room_for}
use Rattle.crossbox.specs.Shape.{Rising, InOrder}

-- what arrives by the first n inputs is for the first n outputs
abbrev pub Fits : ℕ → Arrivals → Type 0
Fits n a = (i o : ℕ) → i < n → a i ≡ For o → o < n

-- in all these slots
unfoldable pub AllFit : ℕ → List Arrivals → Type 0
AllFit n [] = Unit
AllFit n (a ∷ past) = Fits n a × AllFit n past

-- the box holds for output o as many cells as this queue, and no more than there is room for
abbrev pub HoldsLike : ℕ → ℕ → ℕ → Box → List Cell → Type 0
HoldsLike room n o b q = (held_for n o b ≡ length q) × (held_for n o b ≤ room)

-- After every slot each waiting cell has more earlier cells in its store than cells ahead of it in its list.
abbrev pub MoreEarlier : Type 0
MoreEarlier =
    (room n : ℕ) (past : List Arrivals) (b : Box) → Run room n past b → (c : Cell) → is_in c (b.waiting c.input) ≡ true → ahead c (b.waiting c.input) < count_earlier c (b.store c.output)

-- After every slot every store rises.
abbrev pub StoresRise : Type 0
StoresRise = (room n : ℕ) (past : List Arrivals) (b : Box) → Run room n past b → Rising b

-- So it does after the first transfer of a slot, when the earliest depart.
abbrev pub StoresRiseTransferred : Type 0
StoresRiseTransferred =
    (room n : ℕ) (past : List Arrivals) (b : Box) → Run room n past b → (a : Arrivals) (ms : List Cell) → Stable (arrived room n past a b) ms → Rising (transfer ms (arrived room n past a b))

-- After every slot, and so after its second transfer, the box holds for each output as many cells as the ideal box.
abbrev pub SameHeld : Type 0
SameHeld =
    (room n : ℕ) (past : List Arrivals) (b : Box) → Run room n past b → (o : ℕ) → HoldsLike room n o b (queue room n o past)

-- So it does when the cells of the first k inputs have arrived,
abbrev pub SameHeldArriving : Type 0
SameHeldArriving =
    (room n : ℕ) (past : List Arrivals) (b : Box) → Run room n past b → (a : Arrivals) (k : ℕ) → k ≤ n → (o : ℕ) → HoldsLike room n o (arriving k room n (length past) a b) (admitted room k (length past) o a (queue room n o past))

-- after the first transfer,
abbrev pub SameHeldTransferred : Type 0
SameHeldTransferred =
    (room n : ℕ) (past : List Arrivals) (b : Box) → Run room n past b → (a : Arrivals) (ms : List Cell) → Stable (arrived room n past a b) ms → (o : ℕ) → HoldsLike room n o (transfer ms (arrived room n past a b)) (admitted room n (length past) o a (queue room n o past))

-- and after the departures.
abbrev pub SameHeldDeparted : Type 0
SameHeldDeparted =
    (room n : ℕ) (past : List Arrivals) (b : Box) → Run room n past b → (a : Arrivals) (ms : List Cell) → Stable (arrived room n past a b) ms → (o : ℕ) → HoldsLike room n o (departed room n past a ms b) (queue room n o (a ∷ past))

-- It rejects just the cells that the ideal box rejects.
abbrev pub SameRejected : Type 0
SameRejected =
    (room n : ℕ) (past : List Arrivals) (b : Box) → Run room n past b → (a : Arrivals) (i : ℕ) → room_for room n i a b (a i) ≡ not (rejected room n i past a)

-- Of two waiting cells of one pair the earlier stands first, where cells are transferred for the first time in a slot,
abbrev pub PairsInOrder : Type 0
PairsInOrder =
    (room n : ℕ) (past : List Arrivals) (b : Box) → Run room n past b → (a : Arrivals) → InOrder (arrived room n past a b)

-- and for the second time.
abbrev pub PairsInOrderAgain : Type 0
PairsInOrderAgain =
    (room n : ℕ) (past : List Arrivals) (b : Box) → Run room n past b → (a : Arrivals) (ms : List Cell) → Stable (arrived room n past a b) ms → InOrder (departed room n past a ms b)

-- Whatever arrives, for as long as it may, and whichever stable choices are transferred: in every slot by every output departs
-- just the cell that departs from the ideal box, or none where none does.
abbrev pub SameDepartures : Type 0
SameDepartures =
    (room n : ℕ) (past : List Arrivals) (b : Box) → Run room n past b → (a : Arrivals) (ms : List Cell) → Stable (arrived room n past a b) ms → (o : ℕ) → departs o (transfer ms (arrived room n past a b)) ≡ departure room n o past a

-- There is always a stable choice, for the first transfer of a slot
abbrev pub Matched : Type 0
Matched =
    (room n : ℕ) (past : List Arrivals) (b : Box) → AllFit n past → Run room n past b → (a : Arrivals) → Fits n a → (ms : List Cell) × Stable (arrived room n past a b) ms

-- and for the second.
abbrev pub MatchedAgain : Type 0
MatchedAgain =
    (room n : ℕ) (past : List Arrivals) (b : Box) → AllFit n past → Run room n past b → (a : Arrivals) → Fits n a → (ms : List Cell) → Stable (arrived room n past a b) ms → (ns : List Cell) × Stable (departed room n past a ms b) ns

-- How many cells the box holds, at every step of a slot.
abbrev pub SameHeldThroughout : Type 0
SameHeldThroughout = SameHeld × SameHeldArriving × SameHeldTransferred × SameHeldDeparted

-- The promise of the whole.
abbrev pub Main : Type 0
Main =
    SameDepartures × SameRejected × SameHeldThroughout × MoreEarlier × PairsInOrder × PairsInOrderAgain × Matched × MatchedAgain
