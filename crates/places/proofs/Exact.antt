-- What the operations leave, in the shapes in which the code leaves it.
use Rattle.std.proofs.Common.{◌≡◌, ℕ, ◌+◌, ◌-◌, ◌*◌, ◌<◌, ◌≤◌, Bool, true, false, List, ◌++◌, length, get_or, take, drop, set, replicate, sym, ap, ◌∙◌, subst, arith}
use Rattle.std.specs.List.{range_with_len}
use Rattle.std.proofs.lemmas.List.{length-take-le, get_or-set_other}
use Rattle.std.proofs.lemmas.Bool.{eq-eqb, ne_eqb}
use Rattle.crossbox.specs.declared.Cell.{Cell}
use Rattle.places.specs.declared.Head.{Head}
use Rattle.places.specs.Head.{vacant, head_of, cell_of}
use Rattle.places.specs.Rows.{moved_up, moved_down, slid_down}
use Rattle.places.specs.Memory.{Mem, Shaped, row_length, row_start, base, head_at, next, full, slid, roomy, squeezed, linked, pulled, unlinked, refilled, put, remove, carry, reset, place_at}
use Rattle.places.proofs.Safety.{row_end}
use Rattle.places.proofs.Links.{slid_shaped, roomy_room, unlinked_shaped}

-- a place taken out of a row: the first
pub unlink_first : (m : Mem) (r k : ℕ) → k ≡ 0 → pulled true r k m ≡ unlinked r k m
unlink_first m r k e = ap (λ (b : Bool). pulled b r k m) (sym (eq-eqb k 0 e))

-- or another
pub unlink_behind : (m : Mem) (r k : ℕ) (part : List ℕ) → (k ≡ 0 → ⊥) →
    part ≡ moved_down (take (base m r + row_length m r - (base m r + k)) (drop (base m r + k) m.rows)) →
    ◌≡◌ {A = Mem} (record { heads = m.heads; cells = m.cells; rows = take (base m r + k) m.rows ++ (part ++ drop (base m r + row_length m r - (base m r + k)) (drop (base m r + k) m.rows)); spare = m.spare; lens = set m.lens r (row_length m r - 1); starts = m.starts; free = m.free; places = m.places; room = m.room; count = m.count }) (unlinked r k m)
unlink_behind m r k part ne e =
    let f : pulled false r k m ≡ unlinked r k m = ap (λ (b : Bool). pulled b r k m) (sym (ne_eqb k 0 ne)) in
    ap (λ (ys : List ℕ). record { heads = m.heads; cells = m.cells; rows = take (base m r + k) m.rows ++ (ys ++ drop (base m r + row_length m r - (base m r + k)) (drop (base m r + k) m.rows)); spare = m.spare; lens = set m.lens r (row_length m r - 1); starts = m.starts; free = m.free; places = m.places; room = m.room; count = m.count }) e
    ∙ f

-- room behind a row: by sliding it
pub roomy-slid : (m : Mem) (r : ℕ) (part : List ℕ) → row_start m r + row_length m r ≡ m.room →
    part ≡ slid_down (row_start m r) (take (r * m.room + m.room - r * m.room) (drop (r * m.room) m.rows)) →
    ◌≡◌ {A = Mem} (record { heads = m.heads; cells = m.cells; rows = take (r * m.room) m.rows ++ (part ++ drop (r * m.room + m.room - r * m.room) (drop (r * m.room) m.rows)); spare = m.spare; lens = m.lens; starts = set m.starts r 0; free = m.free; places = m.places; room = m.room; count = m.count }) (roomy r m)
roomy-slid m r part e f =
    let g : slid true r m ≡ roomy r m = ap (λ (b : Bool). slid b r m) (sym (eq-eqb (row_start m r + row_length m r) m.room e)) in
    ap (λ (ys : List ℕ). record { heads = m.heads; cells = m.cells; rows = take (r * m.room) m.rows ++ (ys ++ drop (r * m.room + m.room - r * m.room) (drop (r * m.room) m.rows)); spare = m.spare; lens = m.lens; starts = set m.starts r 0; free = m.free; places = m.places; room = m.room; count = m.count }) f
    ∙ g

-- or as it is
pub roomy-same : (m : Mem) (r : ℕ) → (row_start m r + row_length m r ≡ m.room → ⊥) → m ≡ roomy r m
roomy-same m r ne = ap (λ (b : Bool). slid b r m) (sym (ne_eqb (row_start m r + row_length m r) m.room ne))

-- a place put into a row, z being the memory with room behind it
pub link_exact : (m z : Mem) (r k p : ℕ) (part : List ℕ) → z ≡ roomy r m →
    part ≡ moved_up p (take (base z r + row_length z r + 1 - (base z r + k)) (drop (base z r + k) z.rows)) →
    ◌≡◌ {A = Mem} (record { heads = z.heads; cells = z.cells; rows = take (base z r + k) z.rows ++ (part ++ drop (base z r + row_length z r + 1 - (base z r + k)) (drop (base z r + k) z.rows)); spare = z.spare; lens = set z.lens r (row_length z r + 1); starts = z.starts; free = z.free; places = z.places; room = z.room; count = z.count }) (linked r k p m)
link_exact m z r k p part e f =
    ap (λ (ys : List ℕ). record { heads = z.heads; cells = z.cells; rows = take (base z r + k) z.rows ++ (ys ++ drop (base z r + row_length z r + 1 - (base z r + k)) (drop (base z r + k) z.rows)); spare = z.spare; lens = set z.lens r (row_length z r + 1); starts = z.starts; free = z.free; places = z.places; room = z.room; count = z.count }) f
    ∙ ap (λ (y : Mem). squeezed r k p y) e

-- where a place is put, with room behind the row
pub link_end : (m z : Mem) (r : ℕ) → z ≡ roomy r m → Shaped m → r < m.count → row_length m r < m.room → base z r + row_length z r + 1 ≤ length z.rows
link_end m z r e s h lt =
    subst (λ (y : Mem). base y r + row_length y r + 1 ≤ length y.rows) (sym e)
    (omega (arith, roomy_room m r s h lt, row_end (roomy r m) r (slid_shaped m r s h (full r m)) h))

-- a cell put into a row: its place, with its head and its bytes
pub put_exact : (m z : Mem) (r k : ℕ) (c : Cell) (body : List ℕ) (free top : ℕ) (h : Head) → free ≡ m.free - 1 → top ≡ m.free - 1 → h ≡ head_of c (r + 1) →
    z ≡ linked r k (get_or m.spare top 0) (refilled (set m.heads (get_or m.spare top 0) h) (set m.cells (get_or m.spare top 0) body) m.spare free m) → z ≡ put r k c body m
put_exact m z r k c body free top h f t e q =
    q
    ∙ (ap (λ (n : ℕ). linked r k (get_or m.spare n 0) (refilled (set m.heads (get_or m.spare n 0) h) (set m.cells (get_or m.spare n 0) body) m.spare free m)) t
    ∙ (ap (λ (n : ℕ). linked r k (next m) (refilled (set m.heads (next m) h) (set m.cells (next m) body) m.spare n m)) f
    ∙ ap (λ (x : Head). linked r k (next m) (refilled (set m.heads (next m) x) (set m.cells (next m) body) m.spare (m.free - 1) m)) e))

-- a cell let go, z being the memory when its place has left the row
pub remove_exact : (m z : Mem) (r k place free top : ℕ) → z ≡ unlinked r k m → place ≡ place_at r k m → free ≡ z.free + 1 → top ≡ z.free →
    refilled (set z.heads place vacant) z.cells (set z.spare top place) free z ≡ remove r k m
remove_exact m z r k place free top e p f t =
    ap (λ (n : ℕ). refilled (set z.heads place vacant) z.cells (set z.spare top place) n z) f
    ∙ (ap (λ (n : ℕ). refilled (set z.heads place vacant) z.cells (set z.spare n place) (z.free + 1) z) t
    ∙ (ap (λ (n : ℕ). refilled (set z.heads n vacant) z.cells (set z.spare z.free n) (z.free + 1) z) p
    ∙ ap (λ (y : Mem). refilled (set y.heads (place_at r k m) vacant) y.cells (set y.spare y.free (place_at r k m)) (y.free + 1) y) e))

-- a cell carried, z being the memory when its place has left the one row, and y when it stands in the other
pub carry_exact : (m z y : Mem) (r k q j place : ℕ) (head : Head) → z ≡ unlinked r k m → place ≡ place_at r k m → y ≡ linked q j place z →
    head ≡ head_of (cell_of (head_at y place)) (q + 1) →
    refilled (set y.heads place head) y.cells y.spare y.free y ≡ carry r k q j m
carry_exact m z y r k q j place head e p l h =
    ap (λ (x : Head). refilled (set y.heads place x) y.cells y.spare y.free y) h
    ∙ (ap (λ (w : Mem). refilled (set w.heads place (head_of (cell_of (head_at w place)) (q + 1))) w.cells w.spare w.free w) l
    ∙ (ap (λ (w : Mem). refilled (set w.heads place (head_of (cell_of (head_at w place)) (q + 1))) w.cells w.spare w.free (linked q j place w)) e
    ∙ ap (λ (n : ℕ). refilled (set m.heads n (head_of (cell_of (head_at m n)) (q + 1))) m.cells m.spare m.free (linked q j n (unlinked r k m))) p))

-- the memory between is fit for the place that is carried
pub between_shaped : (m z : Mem) (r k : ℕ) → z ≡ unlinked r k m → Shaped m → r < m.count → k < row_length m r → Shaped z
between_shaped m z r k e s h lt = subst (λ (y : Mem). Shaped y) (sym e) (unlinked_shaped m r k s h lt)

pub between_length : (m z : Mem) (r k q : ℕ) → z ≡ unlinked r k m → (q ≡ r → ⊥) → row_length z q ≡ row_length m q
between_length m z r k q e ne =
    ap (λ (y : Mem). row_length y q) e ∙ get_or-set_other m.lens r q (row_length m r - 1) 0 ne

pub reset_exact : (m : Mem) (n : ℕ) (heads : List Head) (spare : List ℕ) → n ≤ length m.heads → n ≤ length m.spare → heads ≡ replicate (length (take (n - 0) m.heads)) vacant → spare ≡ range_with_len 0 (length (take (n - 0) m.spare)) → ◌≡◌ {A = Mem} (record { heads = heads ++ drop (n - 0) m.heads; cells = m.cells; rows = m.rows; spare = spare ++ drop (n - 0) m.spare; lens = replicate 64 0; starts = replicate 64 0; free = n; places = n; room = m.room; count = m.count }) (reset n m)
reset_exact m n heads spare h s e f =
    let z : n - 0 ≡ n = omega arith in
    let hl : length (take (n - 0) m.heads) ≡ n = length-take-le (n - 0) m.heads (omega arith) ∙ z in
    let sl : length (take (n - 0) m.spare) ≡ n = length-take-le (n - 0) m.spare (omega arith) ∙ z in
    rw (e, f, hl, sl, z)
