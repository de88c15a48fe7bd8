-- What a sound memory says of indices: rows lie within what is lent, and places within their lists.
use Rattle.std.proofs.Common.{◌≡◌, ℕ, suc, ◌+◌, ◌-◌, ◌*◌, ◌<◌, ◌≤◌, length, get_or, take, mul-le-mul_right, suc-mul, arith}
use Rattle.std.proofs.lemmas.List.{length-take, length-drop, get_or-take, get_or-drop}
use Rattle.std.proofs.ByRecursion.{All-get_or}
use Rattle.std.proofs.lemmas.List.Sums.{get_or-le-sum_by}
use Rattle.buffer.specs.Memory.{Mem, Sound, Owned, row_length, row, place_at, next}

-- the row r ends within what is lent
pub row_end : (m : Mem) (r : ℕ) → Sound m → r < m.count → r * m.room + m.room ≤ length m.rows
row_end m r s h =
    let l : suc r ≤ m.count = omega arith in
    omega (arith, s.rows_reach, suc-mul r m.room, mul-le-mul_right m.room l)

-- what stands behind the first k of row r stands within what is lent
pub within_rows : (m : Mem) (r k : ℕ) → Sound m → r < m.count → k < row_length m r → r * m.room + k < length m.rows
within_rows m r k s h l = omega (arith, row_end m r s h, s.short r h)

pub row-length : (m : Mem) (r : ℕ) → Sound m → r < m.count → length (row m r) ≡ row_length m r
row-length m r s h = simp (length-take, length-drop) (omega (arith, row_end m r s h, s.short r h))

-- row r as it is read place by place
pub row_at : (m : Mem) (r k : ℕ) → k < row_length m r → get_or (row m r) k 0 ≡ place_at r k m
row_at m r k h = rw (get_or-take, get_or-drop)

-- a place that stands in a row is in use
pub place_in : (m : Mem) (r k : ℕ) → Sound m → r < m.count → k < row_length m r → place_at r k m < m.places
place_in m r k s h l =
    let i : k < length (row m r) = omega (arith, row-length m r s h) in
    let a = All-get_or (Owned m (r + 1)) (row m r) k 0 i (s.owned r h) in
    omega (arith, a.0, row_at m r k l)

-- a new place stands within what is lent for its row
pub room_in : (m : Mem) (r k : ℕ) → Sound m → r < m.count → k < m.room → r * m.room + k < length m.rows
room_in m r k s h l = omega (arith, row_end m r s h)

-- the free place that is used next is in use
pub next_in : (m : Mem) → Sound m → 0 < m.free → next m < m.places
next_in m s h =
    let f : m.free ≤ m.places = omega (arith, s.whole) in
    let i : m.free - 1 < length (take m.free m.spare) = simp length-take (omega (arith, s.spare_reach)) in
    let j : m.free - 1 < m.free = omega arith in
    let a = All-get_or (Owned m 0) (take m.free m.spare) (m.free - 1) 0 i s.free_owned in
    omega (arith, a.0, get_or-take m.free m.spare (m.free - 1) 0 j)

-- a row and the free places together are at most the places in use
pub row_few : (m : Mem) (r : ℕ) → Sound m → r < m.count → m.free + row_length m r ≤ m.places
row_few m r s h =
    let i : r < length m.lens = omega (arith, s.lens_count) in
    omega (arith, s.whole, get_or-le-sum_by (λ x. x) m.lens r 0 i)
