-- Carrying a cell touches nothing beyond the places and the rows in use, and neither does it read that; rows within hold what they held.
use Rattle.std.proofs.Common.{◌≡◌, ℕ, ◌+◌, ◌-◌, ◌*◌, ◌<◌, ◌≤◌, List, [], map, take, drop, set, sym, refl, ap, ◌∙◌, arith}
use Rattle.std.proofs.lemmas.List.{places, same_lists, drop-set-lt, get_or-set_other, get_or-take, length-take, length-drop}
use Rattle.std.proofs.ByRecursion.{All-weaker}
use Rattle.places.specs.declared.Head.{Head}
use Rattle.places.specs.Head.{vacant, head_of, cell_of}
use Rattle.places.specs.Memory.{Mem, Shaped, Sound, Owned, held_at, held, head_at, row_length, base, row, place_at, linked, unlinked, carry}
use Rattle.places.specs.Lent.{lent_to, beyond, within}
use Rattle.places.proofs.Safety.{place_in}
use Rattle.places.proofs.Links.{unlinked_shaped}
use Rattle.places.proofs.Put.{map_alike, held_alike}
use Rattle.places.proofs.Within.{lent_alike, mem_alike, take-set_lt, linked-beyond, linked-within, unlinked-beyond, unlinked-within}

-- a row that ends within the first n is what it was
front_within : (n a l : ℕ) (xs : List ℕ) → a + l ≤ n → take l (drop a (take n xs)) ≡ take l (drop a xs)
front_within n a l xs h = same_lists _ _ (simp (length-take, length-drop) (omega arith)) (λ i d z. grind (arith, places))

module _ (m : Mem) (r : ℕ) (span : ℕ) (s : Sound m) (h : r < m.count) (in_span : r * m.room + m.room ≤ span) where
  -- a row within is what it was
  row_within : row (within m.places span m) r ≡ row m r
  row_within = front_within span (base m r) (row_length m r) m.rows (omega (arith, s.shaped.short r h))

  -- what a place in use holds does not depend on what lies beyond
  place_within : (p : ℕ) → Owned m (r + 1) p → held_at (within m.places span m) p ≡ held_at m p
  place_within p o = held_alike _ _ _ _ (get_or-take m.places m.heads p vacant o.0) (get_or-take m.places m.cells p [] o.0)

  -- neither does what a row within holds
  pub held-within : held (within m.places span m) r ≡ held m r
  held-within =
      ap (λ (ps : List ℕ). map (held_at (within m.places span m)) ps) row_within
      ∙ map_alike _ _ (row m r) (All-weaker (Owned m (r + 1)) _ place_within (row m r) (s.owned r h))

  module _ (k : ℕ) (lt : k < row_length m r) where
    -- the place of what stands in a row
    pub place_at-within : place_at r k (within m.places span m) ≡ place_at r k m
    place_at-within = let j : base m r + k < span = omega (arith, s.shaped.short r h) in get_or-take span m.rows (base m r + k) 0 j

    -- the head of what stands in a row
    pub head_within : head_at (within m.places span m) (place_at r k (within m.places span m)) ≡ head_at m (place_at r k m)
    head_within =
        ap (λ (p : ℕ). head_at (within m.places span m) p) place_at-within
        ∙ get_or-take m.places m.heads (place_at r k m) vacant (place_in m r k s h lt)

module _ (m : Mem) (r k q j : ℕ) (span : ℕ) (s : Sound m) (h : r < m.count) (lt : k < row_length m r) (i : q < m.count) (le : j ≤ row_length m q) (less : row_length m q < m.room) (ne : q ≡ r → ⊥)
    (from-span : r * m.room + m.room ≤ span) (to-span : q * m.room + m.room ≤ span) where
  -- when the place has left the one row
  between_shaped : Shaped (unlinked r k m)
  between_shaped = unlinked_shaped m r k s.shaped h lt

  length_is : row_length (unlinked r k m) q ≡ row_length m q
  length_is = get_or-set_other m.lens r q (row_length m r - 1) 0 ne

  -- the rows when it stands in the other
  rows_beyond : drop span (linked q j (place_at r k m) (unlinked r k m)).rows ≡ drop span m.rows
  rows_beyond =
      linked-beyond (unlinked r k m) q span between_shaped i to-span j (place_at r k m) (omega (arith, length_is)) (omega (arith, length_is))
      ∙ unlinked-beyond m r span s.shaped h from-span k lt

  rows_within : (n : ℕ) → take span (linked q j (place_at r k m) (unlinked r k m)).rows ≡ (linked q j (place_at r k m) (unlinked r k (within n span m))).rows
  rows_within n =
      linked-within (unlinked r k m) q span between_shaped i to-span j (place_at r k m) (omega (arith, length_is)) (omega (arith, length_is)) n
      ∙ ap (λ (z : Mem). (linked q j (place_at r k m) z).rows) (unlinked-within m r span s.shaped h from-span k lt n)

  -- carrying leaves what lies beyond as it was
  pub carry-beyond : beyond m.places span (lent_to (carry r k q j m)) ≡ beyond m.places span (lent_to m)
  carry-beyond =
      let a = drop-set-lt m.places m.heads (place_at r k m) (head_of (cell_of (head_at m (place_at r k m))) (q + 1)) (place_in m r k s h lt) in
      lent_alike _ _ _ _ _ _ _ _ a refl rows_beyond refl

  -- and does not depend on it
  pub carry-within : within m.places span (carry r k q j m) ≡ carry r k q j (within m.places span m)
  carry-within =
      let p = place_at r k m in
      let e : p ≡ place_at r k (within m.places span m) = sym (place_at-within m r span s h from-span k lt) in
      let f : head_at m p ≡ head_at (within m.places span m) (place_at r k (within m.places span m)) = sym (head_within m r span s h from-span k lt) in
      mem_alike (carry r k q j (within m.places span m)) _ _ _ _
      (take-set_lt m.places m.heads p (head_of (cell_of (head_at m p)) (q + 1)) (place_in m r k s h lt)
      ∙ (ap (λ (z : ℕ). set (take m.places m.heads) z (head_of (cell_of (head_at m p)) (q + 1))) e
      ∙ ap (λ (x : Head). set (take m.places m.heads) (place_at r k (within m.places span m)) (head_of (cell_of x) (q + 1))) f))
      refl
      (rows_within m.places
      ∙ ap (λ (z : ℕ). (linked q j z (unlinked r k (within m.places span m))).rows) e)
      refl
