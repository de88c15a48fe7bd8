-- Loops and chains over the first n lines, with what an array has for each.
use Rattle.std.proofs.Common.{◌≡◌, ℕ, ◌<◌, ◌≤◌, List, length, take, get_or, Some, None, Option, Iter, Bor, ap, ◌∙◌, arith}
use Rattle.std.specs.declared.ops.Range.{Range}
use Rattle.std.specs.declared.iter.Zip.{Zip}
use Rattle.std.specs.declared.iter.Take.{Take}
use Rattle.std.specs.List.{range_with_len, zip}
use Rattle.std.specs.Iterator.{Yields}
use Rattle.std.specs.Iterator.Adapters.{zip_first, zip_second, take_source, take_count, take_steps}
use Rattle.std.specs.Slice.Iter.{iter_rest}
use Rattle.std.proofs.iter.Yields.{fronts, nat_range_steps}
use Rattle.std.proofs.lemmas.List.{get_or_default, get_or-take, length-take-le}
use Rattle.std.proofs.lemmas.List.FromFn.{length-range_with_len, get_or-range_with_len}
use Rattle.std.proofs.lemmas.Slice.Zip.{length-zip, get_or-zip}
use Rattle.std.proofs.lemmas.Iterator.{YieldsList, zips, YieldsList-from_range, YieldsList-from_slice, YieldsList-from_take, YieldsList-from_zip}
use Rattle.std.proofs.lemmas.Iterator.Consumers.{YieldsList-at, YieldsList-turn, YieldsList-end}

abbrev pub numbered : (A : Type 0) → Zip (Range ℕ) (Iter A) → Option (ℕ × Bor A) → Zip (Range ℕ) (Iter A) → Type 0
numbered A s r t = zips {A = ℕ} {B = Bor A} nat_range_steps fronts s r t

-- the numbers of the lines beside an array, as `(0..n).zip(array)`
module _ {A : Type 0} (n : ℕ) (array : List A) (s : Zip (Range ℕ) (Iter A)) (first : zip_first s ≡ record { start = 0; end = n }) (second : iter_rest (zip_second s) ≡ array) where
  pub each_line : YieldsList (numbered A) (λ p. (p.0, p.1.now)) s (zip (range_with_len 0 n) array)
  each_line =
      YieldsList-from_zip (YieldsList-from_range 0 n n first (omega arith)) (YieldsList-from_slice array second)

  module _ (l : n ≤ length array) (loop : Zip (Range ℕ) (Iter A)) (begins : loop ≡ s) (xs : List (ℕ × Bor A)) (t u : Zip (Range ℕ) (Iter A)) (r : Option (ℕ × Bor A)) (y : Yields (numbered A) loop xs t) (step : numbered A t r u) where
    as_many : length (zip (range_with_len 0 n) array) ≡ n
    as_many =
        length-zip (range_with_len 0 n) array ∙ (let e = length-range_with_len 0 n in omega arith)

    -- each turn of a loop is at the next line
    pub line_turn : (x : ℕ × Bor A) → r ≡ Some x → (d : A) → (length xs < n) × ((x.0 ≡ length xs) × (x.1.now ≡ get_or array (length xs) d))
    line_turn x e d =
        let k = length xs in
        let p = YieldsList-turn (YieldsList-at begins each_line) xs t y r u x e step in
        let h : k < n = omega (arith, p.0, as_many) in
        let q = p.1 ∙ get_or-zip (range_with_len 0 n) array k (x.0, x.1.now) (omega (arith, h, length-range_with_len 0 n)) (omega (arith, h)) in (
          h,
          (
            ap (λ (z : ℕ × A). z.0) q ∙ (get_or-range_with_len 0 n k x.0 h ∙ omega arith),
            ap (λ (z : ℕ × A). z.1) q ∙ get_or_default array k x.1.now d (omega (arith, h)),
          ),
        )

    -- and its end is behind them all
    pub lines_end : r ≡ None → length xs ≡ n
    lines_end e = (YieldsList-end (YieldsList-at begins each_line) xs t y r u e step).1 ∙ as_many

-- the first n of an array alone, as `array.iter().take(n)`
module _ {A : Type 0} (n : ℕ) (array : List A) (l : n ≤ length array) (s : Take (Iter A)) (source : iter_rest (take_source s) ≡ array) (count : take_count s ≡ n)
    (loop : Take (Iter A)) (begins : loop ≡ s) (xs : List (Bor A)) (t u : Take (Iter A)) (r : Option (Bor A)) (y : Yields (take_steps fronts) loop xs t) (step : take_steps fronts t r u) where
  first_ones : YieldsList (take_steps fronts) (λ y. y.now) loop (take n array)
  first_ones = YieldsList-at begins (YieldsList-from_take n (YieldsList-from_slice array source) count)

  pub first_turn : (x : Bor A) → r ≡ Some x → (d : A) → (length xs < n) × (x.now ≡ get_or array (length xs) d)
  first_turn x e d =
      let k = length xs in
      let p = YieldsList-turn first_ones xs t y r u x e step in
      let h : k < n = omega (arith, p.0, length-take-le n array l) in (
        h,
        p.1 ∙ (get_or-take n array k x.now h ∙ get_or_default array k x.now d (omega (arith, h))),
      )

  pub firsts_end : r ≡ None → length xs ≡ n
  firsts_end e = (YieldsList-end first_ones xs t y r u e step).1 ∙ length-take-le n array l
