-- What the operations leave, in the shapes in which the code leaves it.
use Rattle.std.proofs.Common.{◌≡◌, ℕ, ◌+◌, ◌-◌, ◌*◌, ◌≤◌, List, ◌++◌, length, get_or, take, drop, set, replicate, ◌∙◌, arith}
use Rattle.std.specs.List.{range_with_len}
use Rattle.std.proofs.lemmas.List.{length-take-le}
use Rattle.crossbox.specs.declared.Cell.{Cell}
use Rattle.places.specs.declared.Head.{Head}
use Rattle.places.specs.Head.{vacant, head_of}
use Rattle.buffer.specs.Rows.{moved_up, moved_down}
use Rattle.buffer.specs.Memory.{Mem, row_length, put, remove, reset, place_at}

module _ (m : Mem) (r k : ℕ) (free : ℕ) (part : List ℕ) where
  pub put_exact : (c : Cell) (body : List ℕ) (top : ℕ) (h : Head) → free ≡ m.free - 1 → top ≡ m.free - 1 → h ≡ head_of c (r + 1) → part ≡ moved_up (get_or m.spare top 0) (take (r * m.room + row_length m r + 1 - (r * m.room + k)) (drop (r * m.room + k) m.rows)) → ◌≡◌ {A = Mem} (record { heads = set m.heads (get_or m.spare top 0) h; cells = set m.cells (get_or m.spare top 0) body; rows = take (r * m.room + k) m.rows ++ (part ++ drop (r * m.room + row_length m r + 1 - (r * m.room + k)) (drop (r * m.room + k) m.rows)); spare = m.spare; lens = set m.lens r (row_length m r + 1); free = free; places = m.places; room = m.room; count = m.count }) (put r k c body m)
  put_exact c body top h f t e q =
      rw (q, f, t, e)

  pub remove_exact : (top : ℕ) → free ≡ m.free + 1 → top ≡ m.free → part ≡ moved_down (take (r * m.room + row_length m r - (r * m.room + k)) (drop (r * m.room + k) m.rows)) → ◌≡◌ {A = Mem} (record { heads = set m.heads (place_at r k m) vacant; cells = m.cells; rows = take (r * m.room + k) m.rows ++ (part ++ drop (r * m.room + row_length m r - (r * m.room + k)) (drop (r * m.room + k) m.rows)); spare = set m.spare top (place_at r k m); lens = set m.lens r (row_length m r - 1); free = free; places = m.places; room = m.room; count = m.count }) (remove r k m)
  remove_exact top f t q =
      rw (q, f, t)

pub reset_exact : (m : Mem) (n : ℕ) (heads : List Head) (spare : List ℕ) → n ≤ length m.heads → n ≤ length m.spare → heads ≡ replicate (length (take (n - 0) m.heads)) vacant → spare ≡ range_with_len 0 (length (take (n - 0) m.spare)) → ◌≡◌ {A = Mem} (record { heads = heads ++ drop (n - 0) m.heads; cells = m.cells; rows = m.rows; spare = spare ++ drop (n - 0) m.spare; lens = replicate m.count 0; free = n; places = n; room = m.room; count = m.count }) (reset n m)
reset_exact m n heads spare h s e f =
    let z : n - 0 ≡ n = omega arith in
    let hl : length (take (n - 0) m.heads) ≡ n = length-take-le (n - 0) m.heads (omega arith) ∙ z in
    let sl : length (take (n - 0) m.spare) ≡ n = length-take-le (n - 0) m.spare (omega arith) ∙ z in
    rw (e, f, hl, sl, z)
