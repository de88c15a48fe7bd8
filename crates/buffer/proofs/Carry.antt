-- Carrying a cell from one row into another: the memory stays sound, the one row lacks the cell, the other has it behind its first j,
-- and the other rows hold what they held.
use Rattle.std.proofs.Common.{◌≡◌, ℕ, ◌+◌, ◌-◌, ◌*◌, ◌<◌, ◌≤◌, List, [], ◌++◌, length, get_or, take, drop, set, sym, ap, ◌∙◌, subst, arith}
use Rattle.std.specs.List.{AllByRecursion, insert, remove as removed}
use Rattle.std.proofs.lemmas.List.{set-set, set-get_or, get_or-set_same, get_or-set_other, take-set, length-take-le, length-drop}
use Rattle.crossbox.specs.declared.Cell.{Cell}
use Rattle.places.specs.declared.Head.{Head}
use Rattle.places.specs.Head.{vacant, head_of, cell_of}
use Rattle.buffer.specs.Rows.{moved_up, moved_down, edited}
use Rattle.buffer.specs.Memory.{Mem, Held, held_at, held, head_at, Sound, Owned, Distinct, row_length, place_at, next, put, remove, carry}
use Rattle.buffer.proofs.Safety.{row_few, row_end}
use Rattle.buffer.proofs.Parts.{length-edited, length_down}
use Rattle.buffer.proofs.Put.{put_sound, put-held, put-held_other}
use Rattle.buffer.proofs.Remove.{remove_sound, remove-held, remove-held_other}

-- a memory with another list of free places
abbrev respared : List ℕ → Mem → Mem
respared spare m =
    record {
      heads = m.heads;
      cells = m.cells;
      rows = m.rows;
      spare = spare;
      lens = m.lens;
      free = m.free;
      places = m.places;
      room = m.room;
      count = m.count;
    }

respared_sound : (m : Mem) (spare : List ℕ) → m.places ≤ length spare → take m.free spare ≡ take m.free m.spare → Sound m → Sound (respared spare m)
respared_sound m spare l e s =
    record {
      heads_reach = s.heads_reach;
      cells_reach = s.cells_reach;
      spare_reach = l;
      rows_reach = s.rows_reach;
      lens_count = s.lens_count;
      few = s.few;
      short = s.short;
      owned = s.owned;
      apart = s.apart;
      free_owned = subst (λ (xs : List ℕ). AllByRecursion (Owned m 0) xs) (sym e) s.free_owned;
      free_apart = subst (λ (xs : List ℕ). Distinct xs) (sym e) s.free_apart;
      whole = s.whole;
    }

-- what a carried cell's memory is, said of its parts
carried : (m : Mem) (r k q j : ℕ) (place free : ℕ) (len : ℕ) (heads : List Head) (cells : List (List ℕ)) →
    place ≡ place_at r k m → free ≡ m.free → len ≡ row_length m q →
    heads ≡ set m.heads (place_at r k m) (head_of (cell_of (head_at m (place_at r k m))) (q + 1)) → cells ≡ m.cells →
    ◌≡◌ {A = Mem} (record { heads = heads; cells = cells; rows = edited (q * m.room + j) (q * m.room + len + 1) (moved_up place) (edited (r * m.room + k) (r * m.room + row_length m r) moved_down m.rows); spare = m.spare; lens = set (set m.lens r (row_length m r - 1)) q (len + 1); free = free; places = m.places; room = m.room; count = m.count }) (carry r k q j m)
carried m r k q j place free len heads cells p f l h c = rw (p, f, l, h, c)

module _ (m : Mem) (r k q j : ℕ) (s : Sound m) (h : r < m.count) (lt : k < row_length m r) (i : q < m.count) (le : j ≤ row_length m q) (less : row_length m q < m.room) (ne : q ≡ r → ⊥) where
  between : Mem
  between = remove r k m

  cell : Cell
  cell = cell_of (head_at m (place_at r k m))

  body : List ℕ
  body = get_or m.cells (place_at r k m) []

  after : Mem
  after = put q j cell body between

  next_is : next between ≡ place_at r k m
  unfolding between
  next_is =
      let l : m.free < length m.spare = omega (arith, s.spare_reach, row_few m r s h) in
      let e : m.free + 1 - 1 ≡ m.free = omega arith in
      rw (e, get_or-set_same)

  length_is : row_length between q ≡ row_length m q
  unfolding between
  length_is = get_or-set_other m.lens r q (row_length m r - 1) 0 ne

  -- carrying is removing and putting, but that the row of free places is not touched
  carry_is : respared m.spare after ≡ carry r k q j m
  unfolding after between cell body
  carry_is =
      carried m r k q j (next (remove r k m)) (m.free + 1 - 1) (row_length (remove r k m) q) _ _ next_is (omega arith) length_is
      (ap (λ (p : ℕ). set (set m.heads (place_at r k m) vacant) p (head_of (cell_of (head_at m (place_at r k m))) (q + 1))) next_is
      ∙ set-set m.heads (place_at r k m) vacant (head_of (cell_of (head_at m (place_at r k m))) (q + 1)))
      (ap (λ (p : ℕ). set m.cells p (get_or m.cells (place_at r k m) [])) next_is ∙ set-get_or m.cells (place_at r k m) [])

  between_sound : Sound between
  unfolding between
  between_sound = remove_sound m r k s h lt

  left : 0 < between.free
  unfolding between
  left = omega arith

  le_between : j ≤ row_length between q
  le_between = omega (arith, length_is)

  less_between : row_length between q < m.room
  less_between = omega (arith, length_is)

  in_between : q < between.count
  unfolding between
  in_between = i

  room_between : row_length between q < between.room
  unfolding between
  room_between = less_between

  after_sound : Sound after
  unfolding after
  after_sound = put_sound between q j cell body between_sound in_between le_between room_between left

  pub carry_sound : Sound (carry r k q j m)
  unfolding after between
  carry_sound =
      subst (λ (x : Mem). Sound x) carry_is
      (respared_sound after m.spare s.spare_reach
      (let e : m.free + 1 - 1 ≡ m.free = omega arith in
      ap (λ (n : ℕ). take n m.spare) e ∙ sym (ap (λ (n : ℕ). take n (set m.spare m.free (place_at r k m))) e ∙ take-set m.spare m.free (place_at r k m))) after_sound)

  held_after : (x : ℕ) → held (carry r k q j m) x ≡ held after x
  held_after x = sym (ap (λ (z : Mem). held z x) carry_is)

  -- the one row lacks the cell
  pub carry-held_from : held (carry r k q j m) r ≡ removed (held m r) k
  unfolding after between
  carry-held_from =
      held_after r
      ∙ (put-held_other between q j cell body between_sound in_between le_between room_between left r h (λ e. ne (sym e))
      ∙ remove-held m r k s h lt)

  -- the other has it
  pub carry-held_to : held (carry r k q j m) q ≡ insert (held m q) j (held_at m (place_at r k m))
  unfolding after between cell body
  carry-held_to =
      held_after q
      ∙ (put-held between q j cell body between_sound in_between le_between room_between left
      ∙ ap (λ (xs : List Held). insert xs j (held_at m (place_at r k m))) (remove-held_other m r k s h lt q i ne))

  -- and the other rows hold what they held
  pub carry-held_other : (x : ℕ) → x < m.count → (x ≡ r → ⊥) → (x ≡ q → ⊥) → held (carry r k q j m) x ≡ held m x
  unfolding after between
  carry-held_other x l a b =
      held_after x
      ∙ (put-held_other between q j cell body between_sound in_between le_between room_between left x l b
      ∙ remove-held_other m r k s h lt x l a)

-- the rows that are lent stay as long when a place is moved out of one
pub rows_kept : (m : Mem) (r k : ℕ) (part : List ℕ) → Sound m → r < m.count → k < row_length m r →
    part ≡ moved_down (take (r * m.room + row_length m r - (r * m.room + k)) (drop (r * m.room + k) m.rows)) →
    length (take (r * m.room + k) m.rows ++ (part ++ drop (r * m.room + row_length m r - (r * m.room + k)) (drop (r * m.room + k) m.rows))) ≡ length m.rows
rows_kept m r k part s h lt e =
    let end = row_end m r s h in
    let room = s.short r h in
    let p : length (take (r * m.room + row_length m r - (r * m.room + k)) (drop (r * m.room + k) m.rows)) ≡ r * m.room + row_length m r - (r * m.room + k) =
    length-take-le _ (drop (r * m.room + k) m.rows) (simp length-drop (omega arith)) in
    ap (λ (xs : List ℕ). length (take (r * m.room + k) m.rows ++ (xs ++ drop (r * m.room + row_length m r - (r * m.room + k)) (drop (r * m.room + k) m.rows)))) e
    ∙ length-edited (r * m.room + k) (r * m.room + row_length m r) moved_down m.rows (omega arith) (omega arith) (length_down _ (omega arith) ∙ p)

-- what carrying leaves, in the shape in which the code leaves it
pub carry_exact : (m : Mem) (r k q j : ℕ) (down up : List ℕ) (head : Head) →
    head ≡ head_of (cell_of (head_at m (place_at r k m))) (q + 1) →
    down ≡ moved_down (take (r * m.room + row_length m r - (r * m.room + k)) (drop (r * m.room + k) m.rows)) →
    up ≡ moved_up (place_at r k m) (take (q * m.room + row_length m q + 1 - (q * m.room + j)) (drop (q * m.room + j) (take (r * m.room + k) m.rows ++ (down ++ drop (r * m.room + row_length m r - (r * m.room + k)) (drop (r * m.room + k) m.rows))))) →
    ◌≡◌ {A = Mem} (record { heads = set m.heads (place_at r k m) head; cells = m.cells; rows = take (q * m.room + j) (take (r * m.room + k) m.rows ++ (down ++ drop (r * m.room + row_length m r - (r * m.room + k)) (drop (r * m.room + k) m.rows))) ++ (up ++ drop (q * m.room + row_length m q + 1 - (q * m.room + j)) (drop (q * m.room + j) (take (r * m.room + k) m.rows ++ (down ++ drop (r * m.room + row_length m r - (r * m.room + k)) (drop (r * m.room + k) m.rows))))); spare = m.spare; lens = set (set m.lens r (row_length m r - 1)) q (row_length m q + 1); free = m.free; places = m.places; room = m.room; count = m.count }) (carry r k q j m)
carry_exact m r k q j down up head e d u = rw (e, u, d)
