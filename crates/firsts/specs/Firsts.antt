-- The table of the first cell of each pair, and what it is after a list has changed. Assumes nothing.
use Rattle.std.specs.Prelude.{◌≡◌, ℕ, suc, ◌+◌, ◌-◌, ◌*◌, ◌^◌, ◌<◌, min, Bool, cond, ◌&&◌, List, [], ◌∷◌, ◌++◌, map, length, take, drop, replicate, Some, None, Option, ◌==◌, bit_or, bit_xor, nat_le, nat_lt, slice_index, slice_set}
use Rattle.crossbox.specs.declared.Cell.{Cell}
use Rattle.bits.specs.Bits.{is_set}
use Rattle.firsts.specs.declared.Firsts.{Firsts}
use Rattle.firsts.specs.declared.First.{First}

-- how many cells of a list stand before its first for output o; all, if it has none
unfoldable pub position : ℕ → List Cell → ℕ
position o [] = 0
position o (c ∷ l) = cond (c.output == o) 0 (suc (position o l))

-- the slot of the cell behind the first k of a list
abbrev pub slot_at : List Cell → ℕ → ℕ
slot_at l k = slice_index (map (λ (c : Cell). c.slot) l) k

-- the first cell of a list that is for output o, if it has one
abbrev pub first_of : ℕ → List Cell → Option First
first_of o l =
    cond (nat_lt (position o l) (length l)) (Some (record { place = position o l; slot = slot_at l (position o l) })) None

-- a table has the first cell for each output of the first n of these lists
pub record TableOf (t : Firsts) (n : ℕ) (ls : ℕ → List Cell) : Type 0 where
  pub long : (length t.waiting ≡ 32) × (length t.slots ≡ 1024) × (length t.places ≡ 1024)
  pub waits : (i o : ℕ) → o < 32 → is_set (slice_index t.waiting o) i ≡ (nat_lt i n && nat_lt (position o (ls i)) (length (ls i)))
  pub slot : (i o : ℕ) → i < n → o < 32 → position o (ls i) < length (ls i) → slice_index t.slots (o * 32 + i) ≡ slot_at (ls i) (position o (ls i))
  pub place : (i o : ℕ) → i < n → o < 32 → position o (ls i) < length (ls i) → slice_index t.places (i * 32 + o) ≡ position o (ls i)

-- a table in which no cell is noted
abbrev pub none : Firsts
none = record { waiting = replicate 32 0; slots = replicate 1024 0; places = replicate 1024 0 }

-- a place in a list when a cell was put behind its first k
abbrev pub later : ℕ → ℕ → ℕ
later k x = min (x + cond (nat_le k x) 1 0) 65535

-- a place in a list when the cell behind its first k was taken out
abbrev pub sooner : ℕ → ℕ → ℕ
sooner k x = x - cond (nat_lt k x) 1 0

-- a table with each place in the list of input i changed
abbrev pub moved : ℕ → (ℕ → ℕ) → Firsts → Firsts
moved i f t =
    record {
      waiting = t.waiting;
      slots = t.slots;
      places = take (i * 32) t.places ++ (map f (take 32 (drop (i * 32) t.places)) ++ drop 32 (drop (i * 32) t.places));
    }

-- a table with this first cell of input i for output o
abbrev pub noted : ℕ → ℕ → First → Firsts → Firsts
noted i o first t =
    record {
      waiting = slice_set t.waiting o (bit_or (slice_index t.waiting o) (2 ^ i));
      slots = slice_set t.slots (o * 32 + i) first.slot;
      places = slice_set t.places (i * 32 + o) first.place;
    }

-- a table with no first cell of input i for output o, which it had
abbrev pub unnoted : ℕ → ℕ → Firsts → Firsts
unnoted i o t =
    record {
      waiting = slice_set t.waiting o (bit_xor (slice_index t.waiting o) (2 ^ i));
      slots = t.slots;
      places = t.places;
    }

-- whether input i has a first cell for output o that stands before the k-th of its list
abbrev pub stands : ℕ → ℕ → ℕ → Firsts → Bool
stands i o k t = is_set (slice_index t.waiting o) i && nat_lt (slice_index t.places (i * 32 + o)) k

-- when a cell was put behind the first k of the list of input i
abbrev pub after_insert : ℕ → ℕ → Cell → Firsts → Firsts
after_insert i k c t =
    cond (stands i c.output k t) (moved i (later k) t)
    (noted i c.output (record { place = k; slot = c.slot }) (moved i (later k) t))

-- when the first cell of input i for output o, behind k others, was taken out, and this one is the next
abbrev pub after_remove : ℕ → ℕ → ℕ → Option First → Firsts → Firsts
after_remove i o k None t = unnoted i o (moved i (sooner k) t)
after_remove i o k (Some first) t = noted i o first (moved i (sooner k) t)
