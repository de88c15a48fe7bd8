-- Letting a cell go: the memory stays sound, the row lacks that cell, and the other rows hold what they held.
use Rattle.std.proofs.Common.{◌≡◌, ℕ, suc, ◌+◌, ◌-◌, ◌*◌, ◌<◌, ◌≤◌, List, [], ◌∷◌, ◌++◌, map, length, take, drop, sym, refl, ap, ◌∙◌, subst, inl, inr, arith}
use Rattle.std.specs.List.{AllByRecursion, remove as removed}
use Rattle.std.proofs.lemmas.List.{length-set, length-drop, get_or-set_same, get_or-set_other, take_more_set, length-take-le, map-append, take-map, drop-map}
use Rattle.std.proofs.ByRecursion.{All-weaker, All-get_or, All-append}
use Rattle.std.proofs.lemmas.List.Sums.{sum_by-set}
use Rattle.std.proofs.lemmas.Bool.{cases_eq}
use Rattle.places.specs.declared.Head.{Head}
use Rattle.places.specs.Head.{vacant}
use Rattle.buffer.specs.Rows.{moved_down}
use Rattle.buffer.specs.Memory.{Mem, held_at, held, head_at, Sound, Owned, Distinct, row_length, row, place_at, remove}
use Rattle.buffer.proofs.Safety.{row_end, row_few, row-length, row_at, place_in}
use Rattle.buffer.proofs.Parts.{length-edited, length_down, row_down}
use Rattle.buffer.proofs.Distinct.{Lacks, all_removed, all_both, distinct_removed, removed_lacks, distinct_push}
use Rattle.buffer.proofs.Put.{map_alike, held_alike, other_row}

pub map_removed : {X Y : Type 0} (f : X → Y) (xs : List X) (k : ℕ) → map f (removed xs k) ≡ removed (map f xs) k
map_removed f xs k =
    map-append f (take k xs) (drop (suc k) xs)
    ∙ (ap (λ ys. ys ++ map f (drop (suc k) xs)) (sym (take-map f k xs)) ∙ ap (λ ys. take k (map f xs) ++ ys) (sym (drop-map f (suc k) xs)))

module _ (m : Mem) (r k : ℕ) (s : Sound m) (h : r < m.count) (lt : k < row_length m r) where
  in_lens : r < length m.lens
  in_lens = omega (arith, s.lens_count)

  in_row : k < length (row m r)
  in_row = omega (arith, row-length m r s h)

  part_length : length (take (r * m.room + row_length m r - (r * m.room + k)) (drop (r * m.room + k) m.rows)) ≡ r * m.room + row_length m r - (r * m.room + k)
  part_length =
      let e = row_end m r s h in
      let l = s.short r h in
      length-take-le _ (drop (r * m.room + k) m.rows) (simp length-drop (omega arith))

  down_length : length (moved_down (take (r * m.room + row_length m r - (r * m.room + k)) (drop (r * m.room + k) m.rows))) ≡ r * m.room + row_length m r - (r * m.room + k)
  down_length = length_down _ (omega (arith, part_length)) ∙ part_length

  -- the row that loses the cell
  pub remove-row : row (remove r k m) r ≡ removed (row m r) k
  remove-row =
      let e = row_end m r s h in
      let l = s.short r h in
      ap (λ (n : ℕ). take n (drop (r * m.room) (remove r k m).rows)) (get_or-set_same m.lens r (row_length m r - 1) 0 in_lens)
      ∙ row_down (r * m.room) k (row_length m r) m.rows lt (omega arith)

  -- the other rows
  pub remove_other : (q : ℕ) → q < m.count → (q ≡ r → ⊥) → row (remove r k m) q ≡ row m q
  remove_other q i ne =
      let l = s.short r h in
      ap (λ (n : ℕ). take n (drop (q * m.room) (remove r k m).rows)) (get_or-set_other m.lens r q (row_length m r - 1) 0 ne)
      ∙ other_row m r q (r * m.room + k) (r * m.room + row_length m r) moved_down s h i ne (omega arith) (omega arith) (omega arith) down_length

  gone_owned : Owned m (r + 1) (place_at r k m)
  gone_owned =
      subst (λ (p : ℕ). Owned m (r + 1) p) (row_at m r k lt) (All-get_or (Owned m (r + 1)) (row m r) k 0 in_row (s.owned r h))

  -- the place that is let go stands in no other row
  other_lacks : (q : ℕ) → q < m.count → (q ≡ r → ⊥) → Lacks (place_at r k m) (row m q)
  other_lacks q i ne =
      All-weaker (Owned m (q + 1)) (λ p. place_at r k m ≡ p → ⊥) (λ p o e. ne (let z : q + 1 ≡ r + 1 = sym o.1 ∙ (ap (λ (x : ℕ). (head_at m x).owner) (sym e) ∙ gone_owned.1) in omega arith)) (row m q) (s.owned q i)

  own_lacks : Lacks (place_at r k m) (removed (row m r) k)
  own_lacks = subst (λ (p : ℕ). Lacks p (removed (row m r) k)) (row_at m r k lt) (removed_lacks (row m r) k in_row (s.apart r h))

  free_lacks : Lacks (place_at r k m) (take m.free m.spare)
  free_lacks =
      All-weaker (Owned m 0) (λ p. place_at r k m ≡ p → ⊥) (λ p o e. let z : ◌≡◌ {A = ℕ} 0 (r + 1) = sym o.1 ∙ (ap (λ (x : ℕ). (head_at m x).owner) (sym e) ∙ gone_owned.1) in omega arith) (take m.free m.spare) s.free_owned

  head_elsewhere : (p : ℕ) → (place_at r k m ≡ p → ⊥) → head_at (remove r k m) p ≡ head_at m p
  head_elsewhere p ne = get_or-set_other m.heads (place_at r k m) p vacant vacant (λ e. ne (sym e))

  -- places but the one that was let go are as they were
  pub remove_elsewhere : (p : ℕ) → (place_at r k m ≡ p → ⊥) → held_at (remove r k m) p ≡ held_at m p
  remove_elsewhere p ne = held_alike _ _ _ _ (head_elsewhere p ne) refl

  -- the row lacks the cell
  pub remove-held : held (remove r k m) r ≡ removed (held m r) k
  remove-held =
      ap (λ (ps : List ℕ). map (held_at (remove r k m)) ps) remove-row
      ∙ (map_alike _ _ (removed (row m r) k) (All-weaker _ _ remove_elsewhere (removed (row m r) k) own_lacks)
      ∙ map_removed (held_at m) (row m r) k)

  -- and the other rows hold what they held
  pub remove-held_other : (q : ℕ) → q < m.count → (q ≡ r → ⊥) → held (remove r k m) q ≡ held m q
  remove-held_other q i ne =
      ap (λ (ps : List ℕ). map (held_at (remove r k m)) ps) (remove_other q i ne)
      ∙ map_alike _ _ (row m q) (All-weaker _ _ remove_elsewhere (row m q) (other_lacks q i ne))

  keeps : (o p : ℕ) → Owned m o p × (place_at r k m ≡ p → ⊥) → Owned (remove r k m) o p
  keeps o p g = (g.0.0, ap (λ (x : Head). x.owner) (head_elsewhere p g.1) ∙ g.0.1)

  head_there : head_at (remove r k m) (place_at r k m) ≡ vacant
  head_there =
      let i : place_at r k m < length m.heads = omega (arith, place_in m r k s h lt, s.heads_reach) in
      get_or-set_same m.heads (place_at r k m) vacant vacant i

  free_after : take (m.free + 1) (remove r k m).spare ≡ take m.free m.spare ++ (place_at r k m ∷ [])
  free_after = take_more_set m.spare m.free (place_at r k m) (omega (arith, s.spare_reach, row_few m r s h))

  short_after : (q : ℕ) → q < m.count → row_length (remove r k m) q ≤ m.room
  short_after q i =
      elim (cases_eq q r) [
        | inl e ↦ subst (λ (z : ℕ). row_length (remove r k m) z ≤ m.room) (sym e) (let l = in_lens in let u = s.short r h in rw get_or-set_same (omega arith))
        | inr ne ↦ subst (λ (z : ℕ). z ≤ m.room) (sym (get_or-set_other m.lens r q (row_length m r - 1) 0 ne)) (s.short q i)
      ]

  owned_after : (q : ℕ) → q < m.count → AllByRecursion (Owned (remove r k m) (q + 1)) (row (remove r k m) q)
  owned_after q i =
      elim (cases_eq q r) [
        | inl e ↦ subst (λ (z : ℕ). AllByRecursion (Owned (remove r k m) (z + 1)) (row (remove r k m) z)) (sym e) (subst (λ (xs : List ℕ). AllByRecursion (Owned (remove r k m) (r + 1)) xs) (sym remove-row) (All-weaker _ _ (keeps (r + 1)) (removed (row m r) k) (all_both _ _ _ (all_removed _ (row m r) k (s.owned r h)) own_lacks)))
        | inr ne ↦ subst (λ (xs : List ℕ). AllByRecursion (Owned (remove r k m) (q + 1)) xs) (sym (remove_other q i ne)) (All-weaker _ _ (keeps (q + 1)) (row m q) (all_both _ _ _ (s.owned q i) (other_lacks q i ne)))
      ]

  apart_after : (q : ℕ) → q < m.count → Distinct (row (remove r k m) q)
  apart_after q i =
      elim (cases_eq q r) [
        | inl e ↦ subst (λ (z : ℕ). Distinct (row (remove r k m) z)) (sym e) (subst (λ (xs : List ℕ). Distinct xs) (sym remove-row) (distinct_removed (row m r) k (s.apart r h)))
        | inr ne ↦ subst (λ (xs : List ℕ). Distinct xs) (sym (remove_other q i ne)) (s.apart q i)
      ]

  pub remove_sound : Sound (remove r k m)
  remove_sound =
      record {
        heads_reach = simp length-set s.heads_reach;
        cells_reach = s.cells_reach;
        spare_reach = simp length-set s.spare_reach;
        rows_reach = subst (λ (n : ℕ). m.count * m.room ≤ n) (sym rows_length) s.rows_reach;
        lens_count = simp length-set s.lens_count;
        few = s.few;
        short = short_after;
        owned = owned_after;
        apart = apart_after;
        free_owned = subst (λ (xs : List ℕ). AllByRecursion (Owned (remove r k m) 0) xs) (sym free_after) (All-append _ _ (place_at r k m ∷ []) (All-weaker _ _ (keeps 0) _ (all_both _ _ _ s.free_owned free_lacks)) ((gone_owned.0, ap (λ (x : Head). x.owner) head_there), tt));
        free_apart = subst (λ (xs : List ℕ). Distinct xs) (sym free_after) (distinct_push _ (place_at r k m) free_lacks s.free_apart);
        whole = omega (arith, s.whole, sum_by-set (λ x. x) m.lens r (row_length m r - 1) 0 in_lens);
      }
    where
      rows_length : length (remove r k m).rows ≡ length m.rows
      rows_length = length-edited (r * m.room + k) (r * m.room + row_length m r) moved_down m.rows (omega arith) (omega (arith, row_end m r s h, s.short r h)) down_length
