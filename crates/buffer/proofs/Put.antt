-- Putting a cell into a row: the memory stays sound, the row gets the cell behind its first k, and the other rows hold what they held.
use Rattle.std.proofs.Common.{◌≡◌, ℕ, zero, suc, ◌+◌, ◌-◌, ◌*◌, ◌<◌, ◌≤◌, ◌⊎◌, List, [], ◌∷◌, ◌++◌, map, length, take, drop, sym, refl, ap, ◌∙◌, subst, inl, inr, mul-le-mul_right, suc-mul, arith}
use Rattle.std.specs.List.{AllByRecursion, insert}
use Rattle.std.proofs.lemmas.List.{length-set, length-take, length-drop, get_or-take, get_or-set_same, get_or-set_other, take_more, take-take, length-take-le}
use Rattle.std.proofs.ByRecursion.{All-weaker, All-get_or, All-take}
use Rattle.std.proofs.lemmas.List.Sums.{sum_by-set}
use Rattle.std.proofs.lemmas.Bool.{cases_order, cases_eq}
use Rattle.crossbox.specs.declared.Cell.{Cell}
use Rattle.places.specs.declared.Head.{Head}
use Rattle.places.specs.Head.{head_of, cell_of, vacant}
use Rattle.buffer.specs.Rows.{moved_up, edited}
use Rattle.buffer.specs.Memory.{Mem, Held, held_at, held, head_at, Sound, Owned, Distinct, row_length, row, next, put}
use Rattle.buffer.proofs.Safety.{row_end, next_in}
use Rattle.buffer.proofs.Parts.{edited_below, edited_above, length-edited, length_up, row_up}
use Rattle.buffer.proofs.Distinct.{Lacks, all_inserted, all_both, distinct_inserted, distinct-take, distinct_last}

-- two functions that agree on a list map it alike
pub map_alike : {X Y : Type 0} (f g : X → Y) (xs : List X) → AllByRecursion (λ x. f x ≡ g x) xs → map f xs ≡ map g xs
map_alike f g [] h = refl
map_alike f g (x ∷ xs) h = ap (λ y. y ∷ map f xs) h.0 ∙ ap (λ ys. g x ∷ ys) (map_alike f g xs h.1)

pub map_inserted : {X Y : Type 0} (f : X → Y) (xs : List X) (k : ℕ) (x : X) → map f (insert xs k x) ≡ insert (map f xs) k (f x)
map_inserted f xs zero x = refl
map_inserted f [] (suc k) x = refl
map_inserted f (y ∷ ys) (suc k) x = ap (λ zs. f y ∷ zs) (map_inserted f ys k x)

-- heads and bytes that are alike hold alike
pub held_alike : (g h : Head) (b d : List ℕ) → g ≡ h → b ≡ d → ◌≡◌ {A = Held} (record { cell = cell_of g; body = b }) (record { cell = cell_of h; body = d })
held_alike g h b d e f =
    ap (λ (x : Head). record { cell = cell_of x; body = b }) e ∙ ap (λ (x : List ℕ). record { cell = cell_of h; body = x }) f

-- the rows before and behind row r lie beside it
pub beside : (r q room : ℕ) → (q ≡ r → ⊥) → (q * room + room ≤ r * room) ⊎ (r * room + room ≤ q * room)
beside r q room ne =
    elim (cases_order q r) [
      | inl e ↦ absurd (ne e)
      | inr s ↦
          elim s [
            | inl l ↦ inl (let j : suc q ≤ r = omega arith in omega (arith, suc-mul q room, mul-le-mul_right room j))
            | inr l ↦ inr (let j : suc r ≤ q = omega arith in omega (arith, suc-mul r room, mul-le-mul_right room j))
          ]
    ]

-- the row of another number is as it was after a change within row r
pub other_row : (m : Mem) (r q a e : ℕ) (f : List ℕ → List ℕ) → Sound m → r < m.count → q < m.count → (q ≡ r → ⊥) → r * m.room ≤ a → a ≤ e → e ≤ r * m.room + m.room → length (f (take (e - a) (drop a m.rows))) ≡ e - a → take (row_length m q) (drop (q * m.room) (edited a e f m.rows)) ≡ row m q
other_row m r q a e f s h k ne b c d l =
    let end = row_end m r s h in
    let sh = s.short q k in
    elim (beside r q m.room ne) [
      | inl w ↦ edited_below a e (q * m.room) (row_length m q) f m.rows (omega arith) (omega arith)
      | inr w ↦ ap (λ (xs : List ℕ). take (row_length m q) xs) (edited_above a e (q * m.room) f m.rows c (omega arith) l (omega arith))
    ]

module _ (m : Mem) (r k : ℕ) (c : Cell) (body : List ℕ) (s : Sound m) (h : r < m.count) (le : k ≤ row_length m r) (lt : row_length m r < m.room) (some : 0 < m.free) where
  in_lens : r < length m.lens
  in_lens = omega (arith, s.lens_count)

  up_length : length (moved_up (next m) (take (r * m.room + row_length m r + 1 - (r * m.room + k)) (drop (r * m.room + k) m.rows))) ≡ r * m.room + row_length m r + 1 - (r * m.room + k)
  up_length =
      let e = row_end m r s h in
      length_up (next m) _ ∙ length-take-le _ (drop (r * m.room + k) m.rows) (simp length-drop (omega arith))

  -- the row that gets the cell
  pub put-row : row (put r k c body m) r ≡ insert (row m r) k (next m)
  put-row =
      let e = row_end m r s h in
      ap (λ (n : ℕ). take n (drop (r * m.room) (put r k c body m).rows)) (get_or-set_same m.lens r (row_length m r + 1) 0 in_lens)
      ∙ row_up (r * m.room) k (row_length m r) (next m) m.rows le (omega arith)

  -- the other rows
  pub put_other : (q : ℕ) → q < m.count → (q ≡ r → ⊥) → row (put r k c body m) q ≡ row m q
  put_other q i ne =
      ap (λ (n : ℕ). take n (drop (q * m.room) (put r k c body m).rows)) (get_or-set_other m.lens r q (row_length m r + 1) 0 ne)
      ∙ other_row m r q (r * m.room + k) (r * m.room + row_length m r + 1) (moved_up (next m)) s h i ne (omega arith) (omega arith) (omega arith) up_length

  -- the place that is used next was free
  pub next_owned : Owned m 0 (next m)
  next_owned =
      let i : m.free - 1 < length (take m.free m.spare) = simp length-take (omega (arith, s.spare_reach, s.whole)) in
      let j : m.free - 1 < m.free = omega arith in
      subst (λ (p : ℕ). Owned m 0 p) (get_or-take m.free m.spare (m.free - 1) 0 j) (All-get_or (Owned m 0) (take m.free m.spare) (m.free - 1) 0 i s.free_owned)

  -- a place in a row is not the one that is used next
  row_lacks : (q : ℕ) → q < m.count → Lacks (next m) (row m q)
  row_lacks q i =
      All-weaker (Owned m (q + 1)) (λ p. next m ≡ p → ⊥) (λ p o e. let z : ◌≡◌ {A = ℕ} 0 (q + 1) = sym next_owned.1 ∙ (ap (λ (x : ℕ). (head_at m x).owner) e ∙ o.1) in omega arith) (row m q) (s.owned q i)

  -- places but the one that was used are as they were
  pub head_elsewhere : (p : ℕ) → (next m ≡ p → ⊥) → head_at (put r k c body m) p ≡ head_at m p
  head_elsewhere p ne = get_or-set_other m.heads (next m) p (head_of c (r + 1)) vacant (λ e. ne (sym e))

  pub put_elsewhere : (p : ℕ) → (next m ≡ p → ⊥) → held_at (put r k c body m) p ≡ held_at m p
  put_elsewhere p ne =
      held_alike _ _ _ _ (head_elsewhere p ne) (get_or-set_other m.cells (next m) p body [] (λ e. ne (sym e)))

  pub head_there : head_at (put r k c body m) (next m) ≡ head_of c (r + 1)
  head_there =
      let i : next m < length m.heads = omega (arith, next_in m s some, s.heads_reach) in
      get_or-set_same m.heads (next m) (head_of c (r + 1)) vacant i

  pub put_there : held_at (put r k c body m) (next m) ≡ record { cell = c; body = body }
  put_there =
      let i : next m < length m.cells = omega (arith, next_in m s some, s.cells_reach) in
      held_alike _ _ _ _ head_there (get_or-set_same m.cells (next m) body [] i)

  -- the row gets the cell behind its first k
  pub put-held : held (put r k c body m) r ≡ insert (held m r) k (record { cell = c; body = body })
  put-held =
      ap (λ (ps : List ℕ). map (held_at (put r k c body m)) ps) put-row
      ∙ (map_inserted (held_at (put r k c body m)) (row m r) k (next m)
      ∙ (ap (λ (x : Held). insert (map (held_at (put r k c body m)) (row m r)) k x) put_there
      ∙ ap (λ (xs : List Held). insert xs k (record { cell = c; body = body })) (map_alike _ _ (row m r) (All-weaker _ _ put_elsewhere (row m r) (row_lacks r h)))))

  -- and the other rows hold what they held
  pub put-held_other : (q : ℕ) → q < m.count → (q ≡ r → ⊥) → held (put r k c body m) q ≡ held m q
  put-held_other q i ne =
      ap (λ (ps : List ℕ). map (held_at (put r k c body m)) ps) (put_other q i ne)
      ∙ map_alike _ _ (row m q) (All-weaker _ _ put_elsewhere (row m q) (row_lacks q i))

  -- a place that was another's stays so
  keeps : (o p : ℕ) → Owned m o p × (next m ≡ p → ⊥) → Owned (put r k c body m) o p
  keeps o p g = (g.0.0, ap (λ (x : Head). x.owner) (head_elsewhere p g.1) ∙ g.0.1)

  still : (q : ℕ) → q < m.count → AllByRecursion (Owned (put r k c body m) (q + 1)) (row m q)
  still q i = All-weaker _ _ (keeps (q + 1)) (row m q) (all_both _ _ (row m q) (s.owned q i) (row_lacks q i))

  free_split : take m.free m.spare ≡ take (m.free - 1) m.spare ++ (next m ∷ [])
  free_split =
      let e : m.free - 1 + 1 ≡ m.free = omega arith in
      ap (λ (n : ℕ). take n m.spare) (sym e) ∙ take_more m.spare (m.free - 1) 0 (omega (arith, s.spare_reach, s.whole))

  free_lacks : Lacks (next m) (take (m.free - 1) m.spare)
  free_lacks = distinct_last _ (next m) (subst (λ (xs : List ℕ). Distinct xs) free_split s.free_apart)

  short_after : (q : ℕ) → q < m.count → row_length (put r k c body m) q ≤ m.room
  short_after q i =
      elim (cases_eq q r) [
        | inl e ↦ subst (λ (z : ℕ). row_length (put r k c body m) z ≤ m.room) (sym e) (let l = in_lens in rw get_or-set_same (omega arith))
        | inr ne ↦ subst (λ (z : ℕ). z ≤ m.room) (sym (get_or-set_other m.lens r q (row_length m r + 1) 0 ne)) (s.short q i)
      ]

  owned_after : (q : ℕ) → q < m.count → AllByRecursion (Owned (put r k c body m) (q + 1)) (row (put r k c body m) q)
  owned_after q i =
      elim (cases_eq q r) [
        | inl e ↦ subst (λ (z : ℕ). AllByRecursion (Owned (put r k c body m) (z + 1)) (row (put r k c body m) z)) (sym e) (subst (λ (xs : List ℕ). AllByRecursion (Owned (put r k c body m) (r + 1)) xs) (sym put-row) (all_inserted _ (row m r) k (next m) (next_owned.0, ap (λ (x : Head). x.owner) head_there) (still r h)))
        | inr ne ↦ subst (λ (xs : List ℕ). AllByRecursion (Owned (put r k c body m) (q + 1)) xs) (sym (put_other q i ne)) (still q i)
      ]

  apart_after : (q : ℕ) → q < m.count → Distinct (row (put r k c body m) q)
  apart_after q i =
      elim (cases_eq q r) [
        | inl e ↦ subst (λ (z : ℕ). Distinct (row (put r k c body m) z)) (sym e) (subst (λ (xs : List ℕ). Distinct xs) (sym put-row) (distinct_inserted (row m r) k (next m) (row_lacks r h) (s.apart r h)))
        | inr ne ↦ subst (λ (xs : List ℕ). Distinct xs) (sym (put_other q i ne)) (s.apart q i)
      ]

  pub put_sound : Sound (put r k c body m)
  put_sound =
      record {
        heads_reach = simp length-set s.heads_reach;
        cells_reach = simp length-set s.cells_reach;
        spare_reach = s.spare_reach;
        rows_reach = subst (λ (n : ℕ). m.count * m.room ≤ n) (sym rows_length) s.rows_reach;
        lens_count = simp length-set s.lens_count;
        few = s.few;
        short = short_after;
        owned = owned_after;
        apart = apart_after;
        free_owned = All-weaker _ _ (keeps 0) (take (m.free - 1) m.spare) (all_both _ _ _ free_before free_lacks);
        free_apart = subst (λ (xs : List ℕ). Distinct xs) (take-take (m.free - 1) m.free m.spare (omega arith)) (distinct-take (m.free - 1) _ s.free_apart);
        whole = omega (arith, s.whole, sum_by-set (λ x. x) m.lens r (row_length m r + 1) 0 in_lens);
      }
    where
      rows_length : length (put r k c body m).rows ≡ length m.rows
      rows_length = length-edited (r * m.room + k) (r * m.room + row_length m r + 1) (moved_up (next m)) m.rows (omega arith) (omega (arith, row_end m r s h)) up_length

      free_before : AllByRecursion (Owned m 0) (take (m.free - 1) m.spare)
      free_before = subst (λ (xs : List ℕ). AllByRecursion (Owned m 0) xs) (take-take (m.free - 1) m.free m.spare (omega arith)) (All-take (Owned m 0) (m.free - 1) _ s.free_owned)
