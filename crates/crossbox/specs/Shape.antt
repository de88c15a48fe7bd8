-- Where the cells of a box stand: stores rise, and in a list the earlier of two cells of one pair stands first. Assumes nothing.
use Rattle.std.specs.Prelude.{◌≡◌, ℕ, ◌<◌, Bool, true, ◌&&◌, List, [], ◌∷◌}
use Rattle.crossbox.specs.declared.Cell.{Cell}
use Rattle.crossbox.specs.Cells.{earlier, is_in, ahead, earliest}
use Rattle.crossbox.specs.Ideal.{first, rest}
use Rattle.crossbox.specs.Box.{Box, less}

-- whether a cell is earlier than all of a list
unfoldable pub leads : Cell → List Cell → Bool
leads c [] = true
leads c (d ∷ ds) = earlier c d && leads c ds

-- whether each cell of a list is earlier than all behind it
unfoldable pub rises : List Cell → Bool
rises [] = true
rises (c ∷ cs) = leads c cs && rises cs

-- every store rises
abbrev pub Rising : Box → Type 0
Rising b = (o : ℕ) → rises (b.store o) ≡ true

-- every cell in a store has arrived before slot t
abbrev pub StoredBefore : ℕ → Box → Type 0
StoredBefore t b = (o : ℕ) (c : Cell) → is_in c (b.store o) ≡ true → c.slot < t

-- every waiting cell stands at its input, and its input and its output are among the first n
abbrev pub WellPlaced : ℕ → Box → Type 0
WellPlaced n b =
    (i : ℕ) (c : Cell) → is_in c (b.waiting i) ≡ true → (c.input ≡ i) × (i < n) × (c.output < n)

-- of two waiting cells of one pair the earlier stands first
abbrev pub InOrder : Box → Type 0
InOrder b =
    (i : ℕ) (c d : Cell) → is_in c (b.waiting i) ≡ true → is_in d (b.waiting i) ≡ true → c.output ≡ d.output → earlier c d ≡ true → ahead c (b.waiting i) < ahead d (b.waiting i)

-- The earliest cell of a store that rises is its first.
abbrev pub EarliestIsFirst : Type 0
EarliestIsFirst = (ds : List Cell) → rises ds ≡ true → earliest ds ≡ first ds

-- From a store that rises, departing drops the first.
abbrev pub DepartDropsFirst : Type 0
DepartDropsFirst = (ds : List Cell) → rises ds ≡ true → less (earliest ds) ds ≡ rest ds
