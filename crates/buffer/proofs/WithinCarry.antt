-- Carrying a cell touches nothing beyond the places and the rows in use, and neither does it read that; rows within hold what they held.
use Rattle.std.proofs.Common.{◌≡◌, ℕ, ◌+◌, ◌-◌, ◌*◌, ◌<◌, ◌≤◌, List, [], map, length, take, drop, set, sym, refl, ap, ◌∙◌, arith}
use Rattle.std.proofs.lemmas.List.{places, same_lists, drop-set-lt, get_or-take, length-take, length-drop}
use Rattle.std.proofs.ByRecursion.{All-weaker}
use Rattle.places.specs.declared.Head.{Head}
use Rattle.places.specs.Head.{vacant, head_of, cell_of}
use Rattle.buffer.specs.Rows.{moved_up, moved_down, edited}
use Rattle.buffer.specs.Memory.{Mem, Sound, Owned, held_at, held, head_at, row_length, row, place_at, carry}
use Rattle.buffer.specs.Lent.{lent_to, beyond, within}
use Rattle.buffer.proofs.Safety.{row_end, place_in}
use Rattle.buffer.proofs.Parts.{edited_above, length-edited, length_up}
use Rattle.buffer.proofs.Put.{map_alike, held_alike}
use Rattle.buffer.proofs.Within.{lent_alike, mem_alike, take-set_lt, edited-within, down_long}

-- a part of a row that is moved up stays as long
up_fits : (x a e : ℕ) (xs : List ℕ) → a ≤ e → e ≤ length xs → length (moved_up x (take (e - a) (drop a xs))) ≡ e - a
up_fits x a e xs h l = length_up x _ ∙ simp (length-take, length-drop) (omega arith)

-- a row that ends within the first n is what it was
front_within : (n a l : ℕ) (xs : List ℕ) → a + l ≤ n → take l (drop a (take n xs)) ≡ take l (drop a xs)
front_within n a l xs h = same_lists _ _ (simp (length-take, length-drop) (omega arith)) (λ i d z. grind (arith, places))

module _ (m : Mem) (r : ℕ) (span : ℕ) (s : Sound m) (h : r < m.count) (in_span : r * m.room + m.room ≤ span) where
  -- a row within is what it was
  row_within : row (within m.places span m) r ≡ row m r
  row_within = front_within span (r * m.room) (row_length m r) m.rows (omega (arith, s.short r h))

  -- what a place in use holds does not depend on what lies beyond
  place_within : (p : ℕ) → Owned m (r + 1) p → held_at (within m.places span m) p ≡ held_at m p
  place_within p o = held_alike _ _ _ _ (get_or-take m.places m.heads p vacant o.0) (get_or-take m.places m.cells p [] o.0)

  -- neither does what a row within holds
  pub held-within : held (within m.places span m) r ≡ held m r
  held-within =
      ap (λ (ps : List ℕ). map (held_at (within m.places span m)) ps) row_within
      ∙ map_alike _ _ (row m r) (All-weaker (Owned m (r + 1)) _ place_within (row m r) (s.owned r h))

  module _ (k : ℕ) (lt : k < row_length m r) where
    -- the place of what stands in a row
    pub place_at-within : place_at r k (within m.places span m) ≡ place_at r k m
    place_at-within = let j : r * m.room + k < span = omega (arith, s.short r h) in get_or-take span m.rows (r * m.room + k) 0 j

    -- the head of what stands in a row
    pub head_within : head_at (within m.places span m) (place_at r k (within m.places span m)) ≡ head_at m (place_at r k m)
    head_within =
        ap (λ (p : ℕ). head_at (within m.places span m) p) place_at-within
        ∙ get_or-take m.places m.heads (place_at r k m) vacant (place_in m r k s h lt)

module _ (m : Mem) (r k q j : ℕ) (span : ℕ) (s : Sound m) (h : r < m.count) (lt : k < row_length m r) (i : q < m.count) (le : j ≤ row_length m q) (less : row_length m q < m.room)
    (from-span : r * m.room + m.room ≤ span) (to-span : q * m.room + m.room ≤ span) where
  -- where the rows change
  from_end : r * m.room + row_length m r ≤ length m.rows
  from_end = omega (arith, row_end m r s h, s.short r h)

  -- the rows when the place has left the one row
  lower : List ℕ
  lower = edited (r * m.room + k) (r * m.room + row_length m r) moved_down m.rows

  lower_long : length lower ≡ length m.rows
  unfolding lower
  lower_long = length-edited (r * m.room + k) (r * m.room + row_length m r) moved_down m.rows (omega arith) from_end (down_long m r k span s h from-span lt)

  to_end : q * m.room + row_length m q + 1 ≤ length lower
  to_end = omega (arith, lower_long, row_end m q s i)

  lower_above : drop span lower ≡ drop span m.rows
  unfolding lower
  lower_above = edited_above (r * m.room + k) (r * m.room + row_length m r) span moved_down m.rows (omega arith) from_end (down_long m r k span s h from-span lt) (omega (arith, s.short r h))

  lower_within : take span lower ≡ edited (r * m.room + k) (r * m.room + row_length m r) moved_down (take span m.rows)
  unfolding lower
  lower_within = edited-within span (r * m.room + k) (r * m.room + row_length m r) moved_down m.rows (omega arith) (omega (arith, s.short r h)) from_end (down_long m r k span s h from-span lt)

  -- the rows when it stands in the other
  upper_above : drop span (edited (q * m.room + j) (q * m.room + row_length m q + 1) (moved_up (place_at r k m)) lower) ≡ drop span m.rows
  upper_above =
      edited_above (q * m.room + j) (q * m.room + row_length m q + 1) span (moved_up (place_at r k m)) lower (omega arith) to_end (up_fits (place_at r k m) _ _ lower (omega arith) to_end) (omega arith)
      ∙ lower_above

  upper_within : take span (edited (q * m.room + j) (q * m.room + row_length m q + 1) (moved_up (place_at r k m)) lower) ≡ edited (q * m.room + j) (q * m.room + row_length m q + 1) (moved_up (place_at r k m)) (take span lower)
  upper_within =
      edited-within span (q * m.room + j) (q * m.room + row_length m q + 1) (moved_up (place_at r k m)) lower (omega arith) (omega arith) to_end (up_fits (place_at r k m) _ _ lower (omega arith) to_end)

  -- carrying leaves what lies beyond as it was
  pub carry-beyond : beyond m.places span (lent_to (carry r k q j m)) ≡ beyond m.places span (lent_to m)
  unfolding lower
  carry-beyond =
      let a = drop-set-lt m.places m.heads (place_at r k m) (head_of (cell_of (head_at m (place_at r k m))) (q + 1)) (place_in m r k s h lt) in
      lent_alike _ _ _ _ _ _ _ _ a refl upper_above refl

  -- and does not depend on it
  pub carry-within : within m.places span (carry r k q j m) ≡ carry r k q j (within m.places span m)
  unfolding lower
  carry-within =
      let p = place_at r k m in
      let e : p ≡ place_at r k (within m.places span m) = sym (place_at-within m r span s h from-span k lt) in
      let f : head_at m p ≡ head_at (within m.places span m) (place_at r k (within m.places span m)) = sym (head_within m r span s h from-span k lt) in
      mem_alike (carry r k q j (within m.places span m)) _ _ _ _
      (take-set_lt m.places m.heads p (head_of (cell_of (head_at m p)) (q + 1)) (place_in m r k s h lt)
      ∙ (ap (λ (z : ℕ). set (take m.places m.heads) z (head_of (cell_of (head_at m p)) (q + 1))) e
      ∙ ap (λ (x : Head). set (take m.places m.heads) (place_at r k (within m.places span m)) (head_of (cell_of x) (q + 1))) f))
      refl
      (upper_within
      ∙ (ap (λ (ys : List ℕ). edited (q * m.room + j) (q * m.room + row_length m q + 1) (moved_up p) ys) lower_within
      ∙ ap (λ (z : ℕ). edited (q * m.room + j) (q * m.room + row_length m q + 1) (moved_up z) (edited (r * m.room + k) (r * m.room + row_length m r) moved_down (take span m.rows))) e))
      refl
