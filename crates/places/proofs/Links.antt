-- What rows are after a place was taken out of one or put into one, as far as places are concerned: that row, the others, and that each
-- stands within its room.
use Rattle.std.proofs.Common.{◌≡◌, ℕ, suc, ◌+◌, ◌-◌, ◌*◌, ◌<◌, ◌≤◌, Bool, true, false, eqb, ◌⊎◌, List, length, take, drop, sym, refl, ap, ◌∙◌, subst, inl, inr, mul-le-mul_right, suc-mul, arith}
use Rattle.std.specs.List.{insert, remove}
use Rattle.std.proofs.lemmas.List.{length-set, length-drop, length-take-le, get_or-set_same, get_or-set_other}
use Rattle.std.proofs.lemmas.Bool.{cases_order, cases_eq, eqb-true, eqb-false}
use Rattle.places.specs.declared.Head.{Head}
use Rattle.places.specs.Rows.{moved_up, moved_down, slid_down, edited}
use Rattle.places.specs.Memory.{Mem, Shaped, row_length, row_start, base, row, full, slid, roomy, squeezed, linked, pulled, unlinked, refilled}
use Rattle.places.proofs.Safety.{row_end}
use Rattle.places.proofs.Parts.{edited_below, edited_above, length-edited, length_up, length_down, length-slid, row_up, row_down, row-slid, row_next}

-- the rows before and behind row r lie beside it
pub beside : (r q room : ℕ) → (q ≡ r → ⊥) → (q * room + room ≤ r * room) ⊎ (r * room + room ≤ q * room)
beside r q room ne =
    elim (cases_order q r) [
      | inl e ↦ absurd (ne e)
      | inr s ↦
          elim s [
            | inl l ↦ inl (let j : suc q ≤ r = omega arith in omega (arith, suc-mul q room, mul-le-mul_right room j))
            | inr l ↦ inr (let j : suc r ≤ q = omega arith in omega (arith, suc-mul r room, mul-le-mul_right room j))
          ]
    ]

-- the row of another number is as it was after a change within the room of row r
pub other_row : (m : Mem) (r q a e : ℕ) (f : List ℕ → List ℕ) → Shaped m → r < m.count → q < m.count → (q ≡ r → ⊥) → r * m.room ≤ a → a ≤ e → e ≤ r * m.room + m.room → length (f (take (e - a) (drop a m.rows))) ≡ e - a → take (row_length m q) (drop (base m q) (edited a e f m.rows)) ≡ row m q
other_row m r q a e f s h k ne b c d l =
    let end = row_end m r s h in
    let sh = s.short q k in
    elim (beside r q m.room ne) [
      | inl w ↦ edited_below a e (base m q) (row_length m q) f m.rows (omega arith) (omega arith)
      | inr w ↦ ap (λ (xs : List ℕ). take (row_length m q) xs) (edited_above a e (base m q) f m.rows c (omega arith) l (omega arith))
    ]

-- what stands in a row depends on its length, its start and the rows
row_alike : (m : Mem) (q n a : ℕ) (xs : List ℕ) → n ≡ row_length m q → a ≡ row_start m q → take (row_length m q) (drop (base m q) xs) ≡ row m q → take n (drop (q * m.room + a) xs) ≡ row m q
row_alike m q n a xs e f g =
    ap (λ (k : ℕ). take k (drop (q * m.room + a) xs)) e
    ∙ (ap (λ (k : ℕ). take (row_length m q) (drop (q * m.room + k) xs)) f ∙ g)

-- other heads, bytes and free places leave the rows
pub refilled_shaped : (heads : List Head) (cells : List (List ℕ)) (spare : List ℕ) (free : ℕ) (m : Mem) → Shaped m → Shaped (refilled heads cells spare free m)
refilled_shaped heads cells spare free m s =
    record {
      rows_reach = s.rows_reach;
      lens_count = s.lens_count;
      starts_count = s.starts_count;
      rows_few = s.rows_few;
      room_few = s.room_few;
      short = s.short;
    }

module _ (m : Mem) (r : ℕ) (s : Shaped m) (h : r < m.count) where
  in_lens : r < length m.lens
  in_lens = omega (arith, s.lens_count, s.rows_few)

  in_starts : r < length m.starts
  in_starts = omega (arith, s.starts_count, s.rows_few)

  -- the room of a row, as it is read
  part_long : length (take (r * m.room + m.room - r * m.room) (drop (r * m.room) m.rows)) ≡ r * m.room + m.room - r * m.room
  part_long = length-take-le _ (drop (r * m.room) m.rows) (let e = row_end m r s h in simp length-drop (omega arith))

  pub slide_length : length (slid_down (row_start m r) (take (r * m.room + m.room - r * m.room) (drop (r * m.room) m.rows))) ≡ r * m.room + m.room - r * m.room
  slide_length = length-slid (row_start m r) _ (omega (arith, part_long, s.short r h)) ∙ part_long

  pub slid_rows : (so : Bool) → length (slid so r m).rows ≡ length m.rows
  slid_rows true = length-edited (r * m.room) (r * m.room + m.room) (slid_down (row_start m r)) m.rows (omega arith) (row_end m r s h) slide_length
  slid_rows false = refl

  -- sliding leaves what stands in the rows
  slid_own : row (slid true r m) r ≡ row m r
  slid_own =
      ap (λ (a : ℕ). take (row_length m r) (drop (r * m.room + a) (slid true r m).rows)) (get_or-set_same m.starts r 0 0 in_starts)
      ∙ (ap (λ (a : ℕ). take (row_length m r) (drop a (slid true r m).rows)) (let e : r * m.room + 0 ≡ r * m.room = omega arith in e)
      ∙ row-slid (r * m.room) (row_start m r) (row_length m r) m.room m.rows (s.short r h) (row_end m r s h))

  slid_other : (q : ℕ) → q < m.count → (q ≡ r → ⊥) → row (slid true r m) q ≡ row m q
  slid_other q i ne =
      row_alike m q _ _ (slid true r m).rows refl (get_or-set_other m.starts r q 0 0 ne)
      (other_row m r q (r * m.room) (r * m.room + m.room) (slid_down (row_start m r)) s h i ne (omega arith) (omega arith) (omega arith) slide_length)

  pub slid-row : (so : Bool) (q : ℕ) → q < m.count → row (slid so r m) q ≡ row m q
  slid-row false q i = refl
  slid-row true q i =
      elim (cases_eq q r) [
        | inl e ↦ subst (λ (z : ℕ). row (slid true r m) z ≡ row m z) (sym e) slid_own
        | inr ne ↦ slid_other q i ne
      ]

  slid_short : (q : ℕ) → q < m.count → row_start (slid true r m) q + row_length m q ≤ m.room
  slid_short q i =
      elim (cases_eq q r) [
        | inl e ↦ subst (λ (z : ℕ). row_start (slid true r m) z + row_length m z ≤ m.room) (sym e) (omega (arith, get_or-set_same m.starts r 0 0 in_starts, s.short r h))
        | inr ne ↦ omega (arith, get_or-set_other m.starts r q 0 0 ne, s.short q i)
      ]

  pub slid_shaped : (so : Bool) → Shaped (slid so r m)
  slid_shaped false =
      record {
        rows_reach = s.rows_reach;
        lens_count = s.lens_count;
        starts_count = s.starts_count;
        rows_few = s.rows_few;
        room_few = s.room_few;
        short = s.short;
      }
  slid_shaped true =
      record {
        rows_reach = subst (λ (n : ℕ). m.count * m.room ≤ n) (sym (slid_rows true)) s.rows_reach;
        lens_count = s.lens_count;
        starts_count = length-set m.starts r 0 ∙ s.starts_count;
        rows_few = s.rows_few;
        room_few = s.room_few;
        short = slid_short;
      }

  -- and then there is room behind a row that is shorter than its room
  slid_room : (so : Bool) → full r m ≡ so → row_length m r < m.room → row_start (slid so r m) r + row_length m r < m.room
  slid_room true e l = omega (arith, get_or-set_same m.starts r 0 0 in_starts)
  slid_room false e l = let ne = eqb-false (row_start m r + row_length m r) m.room e in grind (arith, ne, s.short r h)

  pub roomy_room : row_length m r < m.room → row_start (roomy r m) r + row_length m r < m.room
  roomy_room = slid_room (full r m) refl

  module _ (k p : ℕ) (le : k ≤ row_length m r) (lt : row_start m r + row_length m r < m.room) where
    pub up_length : length (moved_up p (take (base m r + row_length m r + 1 - (base m r + k)) (drop (base m r + k) m.rows))) ≡ base m r + row_length m r + 1 - (base m r + k)
    up_length =
        let e = row_end m r s h in
        length_up p _ ∙ length-take-le _ (drop (base m r + k) m.rows) (simp length-drop (omega arith))

    pub squeezed_rows : length (squeezed r k p m).rows ≡ length m.rows
    squeezed_rows = length-edited (base m r + k) (base m r + row_length m r + 1) (moved_up p) m.rows (omega arith) (omega (arith, row_end m r s h)) up_length

    pub squeezed-row : row (squeezed r k p m) r ≡ insert (row m r) k p
    squeezed-row =
        let e = row_end m r s h in
        ap (λ (n : ℕ). take n (drop (base m r) (squeezed r k p m).rows)) (get_or-set_same m.lens r (row_length m r + 1) 0 in_lens)
        ∙ row_up (base m r) k (row_length m r) p m.rows le (omega arith)

    pub squeezed_other : (q : ℕ) → q < m.count → (q ≡ r → ⊥) → row (squeezed r k p m) q ≡ row m q
    squeezed_other q i ne =
        row_alike m q _ _ (squeezed r k p m).rows (get_or-set_other m.lens r q (row_length m r + 1) 0 ne) refl
        (other_row m r q (base m r + k) (base m r + row_length m r + 1) (moved_up p) s h i ne (omega arith) (omega arith) (omega arith) up_length)

    squeezed_short : (q : ℕ) → q < m.count → row_start m q + row_length (squeezed r k p m) q ≤ m.room
    squeezed_short q i =
        elim (cases_eq q r) [
          | inl e ↦ subst (λ (z : ℕ). row_start m z + row_length (squeezed r k p m) z ≤ m.room) (sym e) (omega (arith, get_or-set_same m.lens r (row_length m r + 1) 0 in_lens))
          | inr ne ↦ omega (arith, get_or-set_other m.lens r q (row_length m r + 1) 0 ne, s.short q i)
        ]

    pub squeezed_shaped : Shaped (squeezed r k p m)
    squeezed_shaped =
        record {
          rows_reach = subst (λ (n : ℕ). m.count * m.room ≤ n) (sym squeezed_rows) s.rows_reach;
          lens_count = length-set m.lens r (row_length m r + 1) ∙ s.lens_count;
          starts_count = s.starts_count;
          rows_few = s.rows_few;
          room_few = s.room_few;
          short = squeezed_short;
        }

module _ (m : Mem) (r k p : ℕ) (s : Shaped m) (h : r < m.count) (le : k ≤ row_length m r) (lt : row_length m r < m.room) where
  roomy_shaped : Shaped (roomy r m)
  roomy_shaped = slid_shaped m r s h (full r m)

  -- the row that gets the place
  pub linked-row : row (linked r k p m) r ≡ insert (row m r) k p
  linked-row =
      squeezed-row (roomy r m) r roomy_shaped h k p le (roomy_room m r s h lt)
      ∙ ap (λ (ps : List ℕ). insert ps k p) (slid-row m r s h (full r m) r h)

  -- the other rows
  pub linked_other : (q : ℕ) → q < m.count → (q ≡ r → ⊥) → row (linked r k p m) q ≡ row m q
  linked_other q i ne =
      squeezed_other (roomy r m) r roomy_shaped h k p le (roomy_room m r s h lt) q i ne
      ∙ slid-row m r s h (full r m) q i

  pub linked_shaped : Shaped (linked r k p m)
  linked_shaped = squeezed_shaped (roomy r m) r roomy_shaped h k p le (roomy_room m r s h lt)

module _ (m : Mem) (r : ℕ) (s : Shaped m) (h : r < m.count) where
  part_length : (k : ℕ) → k < row_length m r → length (take (base m r + row_length m r - (base m r + k)) (drop (base m r + k) m.rows)) ≡ base m r + row_length m r - (base m r + k)
  part_length k lt =
      let e = row_end m r s h in
      let l = s.short r h in
      length-take-le _ (drop (base m r + k) m.rows) (simp length-drop (omega arith))

  -- the part of a row that is moved down stays as long
  pub down_length : (k : ℕ) → k < row_length m r → length (moved_down (take (base m r + row_length m r - (base m r + k)) (drop (base m r + k) m.rows))) ≡ base m r + row_length m r - (base m r + k)
  down_length k lt = length_down _ (omega (arith, part_length k lt)) ∙ part_length k lt

  pub pulled_rows : (first : Bool) (k : ℕ) → k < row_length m r → length (pulled first r k m).rows ≡ length m.rows
  pulled_rows true k lt = refl
  pulled_rows false k lt = length-edited (base m r + k) (base m r + row_length m r) moved_down m.rows (omega arith) (omega (arith, row_end m r s h, s.short r h)) (down_length k lt)

  -- the row that loses the place
  pulled-row : (first : Bool) (k : ℕ) → (first ≡ true → k ≡ 0) → k < row_length m r → row (pulled first r k m) r ≡ remove (row m r) k
  pulled-row true k z lt =
      ap (λ (n : ℕ). take n (drop (base (pulled true r k m) r) m.rows)) (get_or-set_same m.lens r (row_length m r - 1) 0 (in_lens m r s h))
      ∙ (ap (λ (n : ℕ). take (row_length m r - 1) (drop (r * m.room + n) m.rows)) (get_or-set_same m.starts r (row_start m r + 1) 0 (in_starts m r s h))
      ∙ row_next (r * m.room) (row_start m r) (row_length m r) k m.rows (z refl))
  pulled-row false k z lt =
      let e = row_end m r s h in
      let l = s.short r h in
      ap (λ (n : ℕ). take n (drop (base m r) (pulled false r k m).rows)) (get_or-set_same m.lens r (row_length m r - 1) 0 (in_lens m r s h))
      ∙ row_down (base m r) k (row_length m r) m.rows lt (omega arith)

  -- the other rows
  pulled_other : (first : Bool) (k : ℕ) → k < row_length m r → (q : ℕ) → q < m.count → (q ≡ r → ⊥) → row (pulled first r k m) q ≡ row m q
  pulled_other true k lt q i ne =
      row_alike m q _ _ m.rows (get_or-set_other m.lens r q (row_length m r - 1) 0 ne) (get_or-set_other m.starts r q (row_start m r + 1) 0 ne) refl
  pulled_other false k lt q i ne =
      let l = s.short r h in
      row_alike m q _ _ (pulled false r k m).rows (get_or-set_other m.lens r q (row_length m r - 1) 0 ne) refl
      (other_row m r q (base m r + k) (base m r + row_length m r) moved_down s h i ne (omega arith) (omega arith) (omega arith) (down_length k lt))

  own_short : (first : Bool) (k : ℕ) → k < row_length m r → row_start (pulled first r k m) r + row_length (pulled first r k m) r ≤ m.room
  own_short true k lt = omega (arith, s.short r h, get_or-set_same m.lens r (row_length m r - 1) 0 (in_lens m r s h), get_or-set_same m.starts r (row_start m r + 1) 0 (in_starts m r s h))
  own_short false k lt = omega (arith, s.short r h, get_or-set_same m.lens r (row_length m r - 1) 0 (in_lens m r s h))

  other_short : (first : Bool) (k q : ℕ) → q < m.count → (q ≡ r → ⊥) → row_start (pulled first r k m) q + row_length (pulled first r k m) q ≤ m.room
  other_short true k q i ne = omega (arith, s.short q i, get_or-set_other m.lens r q (row_length m r - 1) 0 ne, get_or-set_other m.starts r q (row_start m r + 1) 0 ne)
  other_short false k q i ne = omega (arith, s.short q i, get_or-set_other m.lens r q (row_length m r - 1) 0 ne)

  pulled_short : (first : Bool) (k : ℕ) → k < row_length m r → (q : ℕ) → q < m.count → row_start (pulled first r k m) q + row_length (pulled first r k m) q ≤ m.room
  pulled_short first k lt q i =
      elim (cases_eq q r) [
        | inl e ↦ subst (λ (z : ℕ). row_start (pulled first r k m) z + row_length (pulled first r k m) z ≤ m.room) (sym e) (own_short first k lt)
        | inr ne ↦ other_short first k q i ne
      ]

  starts_long : (first : Bool) (k : ℕ) → length (pulled first r k m).starts ≡ 64
  starts_long true k = length-set m.starts r (row_start m r + 1) ∙ s.starts_count
  starts_long false k = s.starts_count

module _ (m : Mem) (r k : ℕ) (s : Shaped m) (h : r < m.count) (lt : k < row_length m r) where
  pub unlinked_rows : length (unlinked r k m).rows ≡ length m.rows
  unlinked_rows = pulled_rows m r s h (eqb k 0) k lt

  -- the row that loses the place
  pub unlinked-row : row (unlinked r k m) r ≡ remove (row m r) k
  unlinked-row = pulled-row m r s h (eqb k 0) k (eqb-true k 0) lt

  -- the other rows
  pub unlinked_other : (q : ℕ) → q < m.count → (q ≡ r → ⊥) → row (unlinked r k m) q ≡ row m q
  unlinked_other = pulled_other m r s h (eqb k 0) k lt

  pub unlinked_shaped : Shaped (unlinked r k m)
  unlinked_shaped =
      record {
        rows_reach = subst (λ (n : ℕ). m.count * m.room ≤ n) (sym unlinked_rows) s.rows_reach;
        lens_count = length-set m.lens r (row_length m r - 1) ∙ s.lens_count;
        starts_count = starts_long m r s h (eqb k 0) k;
        rows_few = s.rows_few;
        room_few = s.room_few;
        short = pulled_short m r s h (eqb k 0) k lt;
      }
