-- Lent memory as plain lists, what its rows hold, and what the operations on it leave. Assumes nothing.
use Rattle.std.specs.Prelude.{◌≡◌, ℕ, ◌+◌, ◌-◌, ◌*◌, ◌<◌, ◌≤◌, Bool, ◌&&◌, List, [], ◌∷◌, ◌++◌, map, length, take, drop, replicate, sum, ◌≢◌, nat_le, slice_index, slice_index_or, slice_set}
use Rattle.std.specs.List.{range_with_len, AllByRecursion}
use Rattle.crossbox.specs.declared.Cell.{Cell}
use Rattle.places.specs.declared.Head.{Head}
use Rattle.buffer.specs.declared.Loan.{Loan}
use Rattle.buffer.specs.declared.memory.Memory.{Memory}
use Rattle.places.specs.Head.{vacant, head_of, cell_of}
use Rattle.buffer.specs.Rows.{moved_up, moved_down, edited}

-- all that the caller lends, as plain lists
pub record Lent : Type 0 where
  pub heads : List Head
  pub cells : List (List ℕ)
  pub rows : List ℕ
  pub spare : List ℕ

-- what a loan lends
abbrev pub lent_by : Loan → Lent
lent_by l = record { heads = l.heads.now; cells = l.cells.now; rows = l.rows.now; spare = l.spare.now }

-- all that there is: the lent lists, the length of each row, how many places are free and in use, the room
-- of a row, and how many rows there are
pub record Mem : Type 0 where
  pub heads : List Head
  pub cells : List (List ℕ)
  pub rows : List ℕ
  pub spare : List ℕ
  pub lens : List ℕ
  pub free : ℕ
  pub places : ℕ
  pub room : ℕ
  pub count : ℕ

-- a memory as plain lists
abbrev pub view : {ROWS ROOM : ℕ} → Memory ROWS ROOM → Mem
view {ROWS} {ROOM} m =
    record {
      heads = m.heads.now;
      cells = m.cells.now;
      rows = m.rows.now;
      spare = m.spare.now;
      lens = m.lens;
      free = m.free.len;
      places = m.places;
      room = ROOM;
      count = ROWS;
    }

-- whether what is lent is as much as all places and so many rows need
abbrev pub enough : ℕ → ℕ → Lent → Bool
enough count room l =
    nat_le (count * room) (length l.rows) &&
    (nat_le 8224 (length l.heads) && (nat_le 8224 (length l.cells) && nat_le 8224 (length l.spare)))

-- a memory over what is lent, in which no place is in use
abbrev pub fresh : ℕ → ℕ → Lent → Mem
fresh count room l =
    record {
      heads = l.heads;
      cells = l.cells;
      rows = l.rows;
      spare = l.spare;
      lens = replicate count 0;
      free = 0;
      places = 0;
      room = room;
      count = count;
    }

-- how many places stand in row r
abbrev pub row_length : Mem → ℕ → ℕ
row_length m r = slice_index m.lens r

-- the places of row r, in order
abbrev pub row : Mem → ℕ → List ℕ
row m r = take (row_length m r) (drop (r * m.room) m.rows)

-- the head of place p
abbrev pub head_at : Mem → ℕ → Head
head_at m p = slice_index_or m.heads p vacant

-- a cell with its bytes
pub record Held : Type 0 where
  pub cell : Cell
  pub body : List ℕ

-- what stands in place p
abbrev pub held_at : Mem → ℕ → Held
held_at m p = record { cell = cell_of (head_at m p); body = slice_index_or m.cells p [] }

-- what row r holds, in order
abbrev pub held : Mem → ℕ → List Held
held m r = map (held_at m) (row m r)

-- no number stands twice in a list
unfoldable pub Distinct : List ℕ → Type 0
Distinct [] = Unit {0}
Distinct (x ∷ xs) = AllByRecursion (λ y. x ≢ y) xs × Distinct xs

-- place p is in use and its head says that it stands in the row before `owner`, or, at 0, that it is free
abbrev pub Owned : Mem → ℕ → ℕ → Type 0
Owned m owner p = (p < m.places) × ((head_at m p).owner ≡ owner)

-- The lists are long enough; no row is longer than its room; a place stands once, in one row or among the free ones, as its head says;
-- and every place in use is somewhere.
pub record Sound (m : Mem) : Type 0 where
  pub heads_reach : m.places ≤ length m.heads
  pub cells_reach : m.places ≤ length m.cells
  pub spare_reach : m.places ≤ length m.spare
  pub rows_reach : m.count * m.room ≤ length m.rows
  pub lens_count : length m.lens ≡ m.count
  pub few : m.places ≤ 8224
  pub short : (r : ℕ) → r < m.count → row_length m r ≤ m.room
  pub owned : (r : ℕ) → r < m.count → AllByRecursion (Owned m (r + 1)) (row m r)
  pub apart : (r : ℕ) → r < m.count → Distinct (row m r)
  pub free_owned : AllByRecursion (Owned m 0) (take m.free m.spare)
  pub free_apart : Distinct (take m.free m.spare)
  pub whole : m.free + sum m.lens ≡ m.places

-- the free place that is used next
abbrev pub next : Mem → ℕ
next m = slice_index m.spare (m.free - 1)

-- after a cell with its bytes was put behind the first k of row r
abbrev pub put : ℕ → ℕ → Cell → List ℕ → Mem → Mem
put r k c body m =
    record {
      heads = slice_set m.heads (next m) (head_of c (r + 1));
      cells = slice_set m.cells (next m) body;
      rows =
          edited (r * m.room + k) (r * m.room + row_length m r + 1) (moved_up (next m)) m.rows;
      spare = m.spare;
      lens = slice_set m.lens r (row_length m r + 1);
      free = m.free - 1;
      places = m.places;
      room = m.room;
      count = m.count;
    }

-- the place behind the first k of row r
abbrev pub place_at : ℕ → ℕ → Mem → ℕ
place_at r k m = slice_index m.rows (r * m.room + k)

-- after what stands behind the first k of row r was let go, and its place made free
abbrev pub remove : ℕ → ℕ → Mem → Mem
remove r k m =
    record {
      heads = slice_set m.heads (place_at r k m) vacant;
      cells = m.cells;
      rows = edited (r * m.room + k) (r * m.room + row_length m r) moved_down m.rows;
      spare = slice_set m.spare m.free (place_at r k m);
      lens = slice_set m.lens r (row_length m r - 1);
      free = m.free + 1;
      places = m.places;
      room = m.room;
      count = m.count;
    }

-- after what stands behind the first k of row r was carried behind the first j of row q
abbrev pub carry : ℕ → ℕ → ℕ → ℕ → Mem → Mem
carry r k q j m =
    record {
      heads = slice_set m.heads (place_at r k m) (head_of (cell_of (head_at m (place_at r k m))) (q + 1));
      cells = m.cells;
      rows =
          edited (q * m.room + j) (q * m.room + row_length m q + 1) (moved_up (place_at r k m))
          (edited (r * m.room + k) (r * m.room + row_length m r) moved_down m.rows);
      spare = m.spare;
      lens = slice_set (slice_set m.lens r (row_length m r - 1)) q (row_length m q + 1);
      free = m.free;
      places = m.places;
      room = m.room;
      count = m.count;
    }

-- after so many places were made free, and every row empty
abbrev pub reset : ℕ → Mem → Mem
reset places m =
    record {
      heads = replicate places vacant ++ drop places m.heads;
      cells = m.cells;
      rows = m.rows;
      spare = range_with_len 0 places ++ drop places m.spare;
      lens = replicate m.count 0;
      free = places;
      places = places;
      room = m.room;
      count = m.count;
    }
