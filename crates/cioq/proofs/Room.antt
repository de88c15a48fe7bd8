-- Where there are lines, a place is free, and no row is full.
use Rattle.std.proofs.Common.{ℕ, ◌+◌, ◌*◌, ◌<◌, ◌≤◌, min, length, take, drop, sum, subst, mul-le-mul_right, arith}
use Rattle.std.specs.List.{AllByRecursion}
use Rattle.std.proofs.lemmas.List.{length-take, get_or-take, get_or-drop}
use Rattle.std.proofs.ByRecursion.{All-from_get_or, sum_by_le}
use Rattle.std.proofs.lemmas.List.Sums.{sum_by-take-drop}
use Rattle.buffer.specs.Memory.{row_length}
use Rattle.buffer.proofs.Safety.{row_few}
use Rattle.cioq.specs.State.{State, Good}

module _ (s : State) (g : Good s) where
  full_counts : AllByRecursion (λ x. x ≤ 256) (take s.lines s.counts)
  full_counts =
      All-from_get_or (λ x. x ≤ 256) (take s.lines s.counts) 0
      (λ i h.
      let l : i < min s.lines (length s.counts) = subst (λ k. i < k) (length-take s.lines s.counts) h in
      let j : i < s.lines = omega arith in
      let e = get_or-take s.lines s.counts i 0 j in
      let u = g.full i in
      omega arith)

  no_counts : AllByRecursion (λ x. x ≤ 0) (drop s.lines s.counts)
  no_counts =
      All-from_get_or (λ x. x ≤ 0) (drop s.lines s.counts) 0
      (λ i h.
      let e = get_or-drop s.lines s.counts i 0 in
      let u = g.idle (s.lines + i) (omega arith) in
      omega arith)

  -- at most 256 cells are held for each line
  held_few : sum s.counts ≤ 256 * s.lines
  held_few =
      let a = sum_by_le (λ x. x) 256 (take s.lines s.counts) full_counts in
      let b = sum_by_le (λ x. x) 0 (drop s.lines s.counts) no_counts in
      let n : length (take s.lines s.counts) ≤ s.lines = omega (arith, length-take s.lines s.counts) in
      omega (arith, sum_by-take-drop (λ x. x) s.counts s.lines, mul-le-mul_right 256 n)

  pub place_left : 0 < s.lines → 0 < s.mem.free
  place_left h = omega (arith, g.whole, held_few)

  pub row_room : (r : ℕ) → 0 < s.lines → r < 64 → row_length s.mem r < s.mem.room
  row_room r h l =
      omega (arith, place_left h, row_few s.mem r g.sound (omega (arith, g.rows)), g.sound.few, g.rooms)
