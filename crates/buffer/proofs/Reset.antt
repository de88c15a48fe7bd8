-- A memory that was made empty is sound, and so is a fresh one.
use Rattle.std.proofs.Common.{◌≡◌, ℕ, zero, suc, ◌+◌, ◌*◌, ◌<◌, ◌≤◌, true, leb, List, [], length, take, drop, replicate, sum, sym, refl, ap, ◌∙◌, subst, arith}
use Rattle.std.specs.List.{range_with_len, AllByRecursion}
use Rattle.std.proofs.lemmas.List.{length-replicate, length-append, length-drop, get_or-replicate, get_or_append_left, take_at}
use Rattle.std.proofs.ByRecursion.{All-weaker}
use Rattle.std.proofs.lemmas.List.FromFn.{length-range_with_len}
use Rattle.std.proofs.lemmas.List.Sums.{sum_by-cons}
use Rattle.std.proofs.lemmas.Bool.{and_parts, leb-true}
use Rattle.places.specs.declared.Head.{Head}
use Rattle.places.specs.Head.{vacant}
use Rattle.buffer.specs.Memory.{Lent, Mem, Sound, Owned, Distinct, row_length, row, reset, fresh, enough}

sum_zeros : (n : ℕ) → sum (replicate n 0) ≡ 0
sum_zeros zero = refl
sum_zeros (suc n) = sum_by-cons (λ x. x) 0 (replicate n 0) ∙ omega (arith, sum_zeros n)

counting_from : (a n : ℕ) → AllByRecursion (λ p. (a ≤ p) × (p < a + n)) (range_with_len a n)
counting_from a zero = tt
counting_from a (suc n) =
    ((omega arith, omega arith), All-weaker _ _ (λ p h. (omega arith, omega arith)) (range_with_len (a + 1) n) (counting_from (a + 1) n))

counting_apart : (a n : ℕ) → Distinct (range_with_len a n)
unfolding Distinct
counting_apart a zero = tt
counting_apart a (suc n) =
    (All-weaker _ _ (λ p h e. omega arith) (range_with_len (a + 1) n) (counting_from (a + 1) n), counting_apart (a + 1) n)

zero_row : (m : Mem) (r : ℕ) → row_length m r ≡ 0 → row m r ≡ []
zero_row m r e = ap (λ (n : ℕ). take n (drop (r * m.room) m.rows)) e

nothing : Distinct []
unfolding Distinct
nothing = tt

module _ (m : Mem) (n : ℕ) (s : Sound m) (few : n ≤ 8224) (hs : n ≤ length m.heads) (cs : n ≤ length m.cells) (ss : n ≤ length m.spare) where
  no_rows : (r : ℕ) → r < m.count → row_length (reset n m) r ≡ 0
  no_rows r h = get_or-replicate m.count r 0 0 h

  -- every row is empty
  pub reset-row : (r : ℕ) → r < m.count → row (reset n m) r ≡ []
  reset-row r h = zero_row (reset n m) r (no_rows r h)

  free_row : take n (reset n m).spare ≡ range_with_len 0 n
  free_row = take_at (range_with_len 0 n) _ n (length-range_with_len 0 n)

  free_head : (p : ℕ) → (0 ≤ p) × (p < 0 + n) → Owned (reset n m) 0 p
  free_head p h =
      let i : p < n = omega arith in
      let j : p < length (replicate n vacant) = rw length-replicate i in
      (i, ap (λ (x : Head). x.owner) (get_or_append_left (replicate n vacant) (drop n m.heads) vacant p j ∙ get_or-replicate n p vacant vacant i))

  pub reset_sound : Sound (reset n m)
  reset_sound =
      record {
        heads_reach = simp (length-append, length-replicate, length-drop) (omega arith);
        cells_reach = cs;
        spare_reach = simp (length-append, length-range_with_len, length-drop) (omega arith);
        rows_reach = s.rows_reach;
        lens_count = length-replicate m.count 0;
        few = few;
        short = λ r h. omega (arith, no_rows r h);
        owned = λ r h. subst (λ (xs : List ℕ). AllByRecursion (Owned (reset n m) (r + 1)) xs) (sym (reset-row r h)) tt;
        apart = λ r h. subst (λ (xs : List ℕ). Distinct xs) (sym (reset-row r h)) nothing;
        free_owned = subst (λ (xs : List ℕ). AllByRecursion (Owned (reset n m) 0) xs) (sym free_row) (All-weaker _ _ free_head (range_with_len 0 n) (counting_from 0 n));
        free_apart = subst (λ (xs : List ℕ). Distinct xs) (sym free_row) (counting_apart 0 n);
        whole = omega (arith, sum_zeros m.count);
      }

module _ (count room : ℕ) (l : Lent) (e : enough count room l ≡ true) where
  fresh-row : (r : ℕ) → r < count → row (fresh count room l) r ≡ []
  fresh-row r h = zero_row (fresh count room l) r (get_or-replicate count r 0 0 h)

  pub fresh_sound : Sound (fresh count room l)
  fresh_sound =
      record {
        heads_reach = omega arith;
        cells_reach = omega arith;
        spare_reach = omega arith;
        rows_reach = leb-true (count * room) (length l.rows) (and_parts _ _ e).0;
        lens_count = length-replicate count 0;
        few = omega arith;
        short = λ r h. omega (arith, get_or-replicate {A = ℕ} count r 0 0 h);
        owned = λ r h. subst (λ (xs : List ℕ). AllByRecursion (Owned (fresh count room l) (r + 1)) xs) (sym (fresh-row r h)) tt;
        apart = λ r h. subst (λ (xs : List ℕ). Distinct xs) (sym (fresh-row r h)) nothing;
        free_owned = tt;
        free_apart = nothing;
        whole = omega (arith, sum_zeros count);
      }

  -- what is lent is enough for all places
  pub lent_enough_lem : (8224 ≤ length l.heads) × (8224 ≤ length l.cells) × (8224 ≤ length l.spare)
  lent_enough_lem =
      let a = (and_parts (leb (count * room) (length l.rows)) _ e).1 in
      let b = (and_parts (leb 8224 (length l.heads)) _ a).1 in (
        leb-true 8224 (length l.heads) (and_parts (leb 8224 (length l.heads)) _ a).0,
        leb-true 8224 (length l.cells) (and_parts (leb 8224 (length l.cells)) (leb 8224 (length l.spare)) b).0,
        leb-true 8224 (length l.spare) (and_parts (leb 8224 (length l.cells)) (leb 8224 (length l.spare)) b).1,
      )
