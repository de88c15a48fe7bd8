-- Lent memory as plain lists, what its rows hold, and what the operations on it leave. Assumes nothing.
use Rattle.std.specs.Prelude.{◌≡◌, ℕ, ◌+◌, ◌-◌, ◌*◌, ◌<◌, ◌≤◌, Bool, cond, ◌&&◌, List, [], ◌∷◌, ◌++◌, map, length, take, drop, replicate, sum, ◌==◌, ◌≢◌, nat_le, slice_index, slice_index_or, slice_set}
use Rattle.std.specs.List.{range_with_len, AllByRecursion}
use Rattle.crossbox.specs.declared.Cell.{Cell}
use Rattle.places.specs.declared.Head.{Head}
use Rattle.places.specs.Head.{vacant, head_of, cell_of}
use Rattle.places.specs.Rows.{moved_up, moved_down, slid_down, edited}

-- all that there is: the lent lists, the lengths of 64 rows, how far from the front of its room each begins, how many
-- places are free and in use, the room of a row, and how many rows are used
pub record Mem : Type 0 where
  pub heads : List Head
  pub cells : List (List ℕ)
  pub rows : List ℕ
  pub spare : List ℕ
  pub lens : List ℕ
  pub starts : List ℕ
  pub free : ℕ
  pub places : ℕ
  pub room : ℕ
  pub count : ℕ

-- whether what is lent is as much as all places and so many rows need
abbrev pub enough : ℕ → ℕ → List Head → List (List ℕ) → List ℕ → List ℕ → Bool
enough count room heads cells rows spare =
    nat_le (count * room) (length rows) &&
    (nat_le 8224 (length heads) && (nat_le 8224 (length cells) && nat_le 8224 (length spare)))

-- a memory in which no place is in use
abbrev pub fresh : ℕ → ℕ → List Head → List (List ℕ) → List ℕ → List ℕ → Mem
fresh count room heads cells rows spare =
    record {
      heads = heads;
      cells = cells;
      rows = rows;
      spare = spare;
      lens = replicate 64 0;
      starts = replicate 64 0;
      free = 0;
      places = 0;
      room = room;
      count = count;
    }

-- whether what is lent to a memory is as much as all places and so many rows need
abbrev pub lent_enough : ℕ → ℕ → Mem → Bool
lent_enough count room m = enough count room m.heads m.cells m.rows m.spare

-- a memory in which no place is in use any more, if what is lent to it is enough
abbrev pub renewed : ℕ → ℕ → Mem → Mem
renewed count room m =
    cond (lent_enough count room m) (fresh count room m.heads m.cells m.rows m.spare) m

-- how many places stand in row r
abbrev pub row_length : Mem → ℕ → ℕ
row_length m r = slice_index m.lens r

-- how far from the front of its room row r begins
abbrev pub row_start : Mem → ℕ → ℕ
row_start m r = slice_index m.starts r

-- where row r begins
abbrev pub base : Mem → ℕ → ℕ
base m r = r * m.room + row_start m r

-- the places of row r, in order
abbrev pub row : Mem → ℕ → List ℕ
row m r = take (row_length m r) (drop (base m r) m.rows)

-- the head of place p
abbrev pub head_at : Mem → ℕ → Head
head_at m p = slice_index_or m.heads p vacant

-- a cell with its bytes
pub record Held : Type 0 where
  pub cell : Cell
  pub body : List ℕ

-- what stands in place p
abbrev pub held_at : Mem → ℕ → Held
held_at m p = record { cell = cell_of (head_at m p); body = slice_index_or m.cells p [] }

-- what row r holds, in order
abbrev pub held : Mem → ℕ → List Held
held m r = map (held_at m) (row m r)

-- no number stands twice in a list
unfoldable pub Distinct : List ℕ → Type 0
Distinct [] = Unit {0}
Distinct (x ∷ xs) = AllByRecursion (λ y. x ≢ y) xs × Distinct xs

-- place p is in use and its head says that it stands in the row before `owner`, or, at 0, that it is free
abbrev pub Owned : Mem → ℕ → ℕ → Type 0
Owned m owner p = (p < m.places) × ((head_at m p).owner ≡ owner)

-- The rows fit what is lent, and each stands within its room.
pub record Shaped (m : Mem) : Type 0 where
  pub rows_reach : m.count * m.room ≤ length m.rows
  pub lens_count : length m.lens ≡ 64
  pub starts_count : length m.starts ≡ 64
  pub rows_few : m.count ≤ 64
  pub room_few : m.room < 65536
  pub short : (r : ℕ) → r < m.count → row_start m r + row_length m r ≤ m.room

-- The lists are long enough; every row stands within its room; a place stands once, in one row or among the free ones, as its head says;
-- and every place in use is somewhere.
pub record Sound (m : Mem) : Type 0 where
  pub heads_reach : m.places ≤ length m.heads
  pub cells_reach : m.places ≤ length m.cells
  pub spare_reach : m.places ≤ length m.spare
  pub shaped : Shaped m
  pub few : m.places ≤ 8224
  pub owned : (r : ℕ) → r < m.count → AllByRecursion (Owned m (r + 1)) (row m r)
  pub apart : (r : ℕ) → r < m.count → Distinct (row m r)
  pub free_owned : AllByRecursion (Owned m 0) (take m.free m.spare)
  pub free_apart : Distinct (take m.free m.spare)
  pub whole : m.free + sum m.lens ≡ m.places

-- the place behind the first k of row r
abbrev pub place_at : ℕ → ℕ → Mem → ℕ
place_at r k m = slice_index m.rows (base m r + k)

-- after the place behind the first k of row r was taken out: by a later start, if it is the first, or by moving what is behind it
abbrev pub pulled : Bool → ℕ → ℕ → Mem → Mem
pulled first r k m =
    record {
      heads = m.heads;
      cells = m.cells;
      rows =
          cond first m.rows
          (edited (base m r + k) (base m r + row_length m r) moved_down m.rows);
      spare = m.spare;
      lens = slice_set m.lens r (row_length m r - 1);
      starts = cond first (slice_set m.starts r (row_start m r + 1)) m.starts;
      free = m.free;
      places = m.places;
      room = m.room;
      count = m.count;
    }

-- after the place behind the first k of row r was taken out
abbrev pub unlinked : ℕ → ℕ → Mem → Mem
unlinked r k m = pulled (k == 0) r k m

-- whether no room is left behind row r
abbrev pub full : ℕ → Mem → Bool
full r m = row_start m r + row_length m r == m.room

-- with row r at the front of its room, if so
abbrev pub slid : Bool → ℕ → Mem → Mem
slid so r m =
    record {
      heads = m.heads;
      cells = m.cells;
      rows =
          cond so
          (edited (r * m.room) (r * m.room + m.room) (slid_down (row_start m r)) m.rows)
          m.rows;
      spare = m.spare;
      lens = m.lens;
      starts = cond so (slice_set m.starts r 0) m.starts;
      free = m.free;
      places = m.places;
      room = m.room;
      count = m.count;
    }

-- with room behind row r: where none is left, the row slides to the front
abbrev pub roomy : ℕ → Mem → Mem
roomy r m = slid (full r m) r m

-- after place p was put behind the first k of row r, behind which there is room
abbrev pub squeezed : ℕ → ℕ → ℕ → Mem → Mem
squeezed r k p m =
    record {
      heads = m.heads;
      cells = m.cells;
      rows = edited (base m r + k) (base m r + row_length m r + 1) (moved_up p) m.rows;
      spare = m.spare;
      lens = slice_set m.lens r (row_length m r + 1);
      starts = m.starts;
      free = m.free;
      places = m.places;
      room = m.room;
      count = m.count;
    }

-- after place p was put behind the first k of row r
abbrev pub linked : ℕ → ℕ → ℕ → Mem → Mem
linked r k p m = squeezed r k p (roomy r m)

-- with other heads, bytes and free places
abbrev pub refilled : List Head → List (List ℕ) → List ℕ → ℕ → Mem → Mem
refilled heads cells spare free m =
    record {
      heads = heads;
      cells = cells;
      rows = m.rows;
      spare = spare;
      lens = m.lens;
      starts = m.starts;
      free = free;
      places = m.places;
      room = m.room;
      count = m.count;
    }

-- the free place that is used next
abbrev pub next : Mem → ℕ
next m = slice_index m.spare (m.free - 1)

-- after a cell with its bytes was put behind the first k of row r
abbrev pub put : ℕ → ℕ → Cell → List ℕ → Mem → Mem
put r k c body m =
    linked r k (next m)
    (refilled (slice_set m.heads (next m) (head_of c (r + 1))) (slice_set m.cells (next m) body) m.spare
    (m.free - 1) m)

-- after what stands behind the first k of row r was let go, and its place made free
abbrev pub remove : ℕ → ℕ → Mem → Mem
remove r k m =
    refilled (slice_set m.heads (place_at r k m) vacant) m.cells (slice_set m.spare m.free (place_at r k m))
    (m.free + 1) (unlinked r k m)

-- after what stands behind the first k of row r was carried behind the first j of row q
abbrev pub carry : ℕ → ℕ → ℕ → ℕ → Mem → Mem
carry r k q j m =
    refilled (slice_set m.heads (place_at r k m) (head_of (cell_of (head_at m (place_at r k m))) (q + 1))) m.cells m.spare
    m.free (linked q j (place_at r k m) (unlinked r k m))

-- after so many places were made free, and every row empty
abbrev pub reset : ℕ → Mem → Mem
reset places m =
    record {
      heads = replicate places vacant ++ drop places m.heads;
      cells = m.cells;
      rows = m.rows;
      spare = range_with_len 0 places ++ drop places m.spare;
      lens = replicate 64 0;
      starts = replicate 64 0;
      free = places;
      places = places;
      room = m.room;
      count = m.count;
    }
