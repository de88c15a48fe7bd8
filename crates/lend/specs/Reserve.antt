-- What a program holds for a box. Assumes nothing.
use Rattle.std.specs.Prelude.{◌≡◌, ℕ, length}
use Rattle.buffer.specs.Memory.{Lent}
use Rattle.lend.specs.declared.Reserve.{Reserve}

-- what is held, as plain lists
abbrev pub holds : Reserve → Lent
holds r = record { heads = r.heads.items; cells = r.cells.items; rows = r.rows.items; spare = r.spare.items }

-- all places that a box can have, and so many entries of rows
pub record IsAsLong (rows : ℕ) (l : Lent) : Type 0 where
  pub heads : length l.heads ≡ 8224
  pub cells : length l.cells ≡ 8224
  pub entries : length l.rows ≡ rows
  pub spare : length l.spare ≡ 8224
