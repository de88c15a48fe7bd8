-- No operation touches what lies beyond the places in use and the rows in use, and none reads it.
use Rattle.std.proofs.Common.{◌≡◌, ℕ, zero, suc, ◌+◌, ◌-◌, ◌*◌, ◌<◌, ◌≤◌, List, [], ◌∷◌, ◌++◌, length, take, drop, set, replicate, sym, refl, ap, ◌∙◌, arith}
use Rattle.std.specs.List.{range_with_len}
use Rattle.std.proofs.lemmas.List.{places, same_lists, drop-set-lt, get_or-take, length-take, length-drop, length-append, length-replicate, take_at, drop_at, append-nil, drop_all}
use Rattle.std.proofs.lemmas.List.FromFn.{length-range_with_len}
use Rattle.crossbox.specs.declared.Cell.{Cell}
use Rattle.places.specs.declared.Head.{Head}
use Rattle.places.specs.Head.{vacant, head_of}
use Rattle.buffer.specs.Rows.{moved_up, moved_down, edited}
use Rattle.buffer.specs.Memory.{Lent, Mem, Sound, row_length, next, put, place_at, remove, reset}
use Rattle.buffer.specs.Lent.{lent_to, beyond, within}
use Rattle.buffer.proofs.Safety.{row_end, row_few, next_in, place_in}
use Rattle.buffer.proofs.Parts.{edited_above, length_up, length_down}

-- lists that are alike are lent alike
pub lent_alike : (h h' : List Head) (c c' : List (List ℕ)) (r r' s s' : List ℕ) → h ≡ h' → c ≡ c' → r ≡ r' → s ≡ s' → ◌≡◌ {A = Lent} (record { heads = h; cells = c; rows = r; spare = s }) (record { heads = h'; cells = c'; rows = r'; spare = s' })
lent_alike h h' c c' r r' s s' p q u v = rw (p, q, u, v)

-- a memory to which lists are lent that are alike
pub mem_alike : (m : Mem) (h : List Head) (c : List (List ℕ)) (r s : List ℕ) → h ≡ m.heads → c ≡ m.cells → r ≡ m.rows → s ≡ m.spare → ◌≡◌ {A = Mem} (record { heads = h; cells = c; rows = r; spare = s; lens = m.lens; free = m.free; places = m.places; room = m.room; count = m.count }) m
mem_alike m h c r s p q u v = rw (p, q, u, v)

-- a change among the first n
pub take-set_lt : {X : Type 0} (n : ℕ) (xs : List X) (i : ℕ) (x : X) → i < n → take n (set xs i x) ≡ set (take n xs) i x
take-set_lt zero xs i x h = absurd (omega arith)
take-set_lt (suc n) [] i x h = refl
take-set_lt (suc n) (y ∷ ys) zero x h = refl
take-set_lt (suc n) (y ∷ ys) (suc i) x h = ap (λ zs. y ∷ zs) (take-set_lt n ys i x (omega arith))

-- a part within the first n is what it was
part-within : (n a e : ℕ) (xs : List ℕ) → a ≤ e → e ≤ n → take (e - a) (drop a (take n xs)) ≡ take (e - a) (drop a xs)
part-within n a e xs h l = same_lists _ _ (simp (length-take, length-drop) (omega arith)) (λ i d z. grind (arith, places))

joined_within : (n a k : ℕ) (ys xs : List ℕ) → length ys ≡ k → a + k ≤ n → a + k ≤ length xs → take n (take a xs ++ (ys ++ drop k (drop a xs))) ≡ take a (take n xs) ++ (ys ++ drop k (drop a (take n xs)))
joined_within n a k ys xs e h l =
    same_lists _ _ (simp (length-take, length-append, length-drop) (omega arith)) (λ i d z. grind (arith, places))

-- so is a change of it
pub edited-within : (n a e : ℕ) (f : List ℕ → List ℕ) (xs : List ℕ) → a ≤ e → e ≤ n → e ≤ length xs → length (f (take (e - a) (drop a xs))) ≡ e - a → take n (edited a e f xs) ≡ edited a e f (take n xs)
edited-within n a e f xs h l k q =
    joined_within n a (e - a) (f (take (e - a) (drop a xs))) xs q (omega arith) (omega arith)
    ∙ ap (λ (ys : List ℕ). take a (take n xs) ++ (f ys ++ drop (e - a) (drop a (take n xs)))) (sym (part-within n a e xs h l))

module _ (m : Mem) (r k : ℕ) (span : ℕ) (s : Sound m) (h : r < m.count) (in_span : r * m.room + m.room ≤ span) where
  module _ (c : Cell) (body : List ℕ) (le : k ≤ row_length m r) (lt : row_length m r < m.room) (some : 0 < m.free) where
    up_long : length (moved_up (next m) (take (r * m.room + row_length m r + 1 - (r * m.room + k)) (drop (r * m.room + k) m.rows))) ≡ r * m.room + row_length m r + 1 - (r * m.room + k)
    up_long =
        let e = row_end m r s h in
        length_up (next m) _ ∙ simp (length-take, length-drop) (omega arith)

    pub put-beyond : beyond m.places span (lent_to (put r k c body m)) ≡ beyond m.places span (lent_to m)
    put-beyond =
        let i = next_in m s some in
        let a = drop-set-lt m.places m.heads (next m) (head_of c (r + 1)) i in
        let b = drop-set-lt m.places m.cells (next m) body i in
        let d = edited_above (r * m.room + k) (r * m.room + row_length m r + 1) span (moved_up (next m)) m.rows (omega arith) (omega (arith, row_end m r s h)) up_long (omega arith) in
        lent_alike _ _ _ _ _ _ _ _ a b d refl

    pub put-within : within m.places span (put r k c body m) ≡ put r k c body (within m.places span m)
    put-within =
        let i = next_in m s some in
        let j : m.free - 1 < m.places = omega (arith, s.whole) in
        let n : next m ≡ next (within m.places span m) = sym (get_or-take m.places m.spare (m.free - 1) 0 j) in
        let a = take-set_lt m.places m.heads (next m) (head_of c (r + 1)) i in
        let b = take-set_lt m.places m.cells (next m) body i in
        let d = edited-within span (r * m.room + k) (r * m.room + row_length m r + 1) (moved_up (next m)) m.rows (omega arith) (omega arith) (omega (arith, row_end m r s h)) up_long in
        mem_alike (put r k c body (within m.places span m)) _ _ _ _
        (a ∙ ap (λ (p : ℕ). set (take m.places m.heads) p (head_of c (r + 1))) n)
        (b ∙ ap (λ (p : ℕ). set (take m.places m.cells) p body) n)
        (d ∙ ap (λ (p : ℕ). edited (r * m.room + k) (r * m.room + row_length m r + 1) (moved_up p) (take span m.rows)) n)
        refl

  module _ (lt : k < row_length m r) where
    -- the part of a row that is moved down stays as long
    pub down_long : length (moved_down (take (r * m.room + row_length m r - (r * m.room + k)) (drop (r * m.room + k) m.rows))) ≡ r * m.room + row_length m r - (r * m.room + k)
    down_long =
        let e = row_end m r s h in
        let l = s.short r h in
        let p : length (take (r * m.room + row_length m r - (r * m.room + k)) (drop (r * m.room + k) m.rows)) ≡ r * m.room + row_length m r - (r * m.room + k) = simp (length-take, length-drop) (omega arith) in
        length_down _ (omega arith) ∙ p

    pub remove-beyond : beyond m.places span (lent_to (remove r k m)) ≡ beyond m.places span (lent_to m)
    remove-beyond =
        let i = place_in m r k s h lt in
        let f : m.free < m.places = omega (arith, row_few m r s h) in
        let a = drop-set-lt m.places m.heads (place_at r k m) vacant i in
        let d = edited_above (r * m.room + k) (r * m.room + row_length m r) span moved_down m.rows (omega arith) (omega (arith, row_end m r s h, s.short r h)) down_long (omega (arith, s.short r h)) in
        let g = drop-set-lt m.places m.spare m.free (place_at r k m) f in
        lent_alike _ _ _ _ _ _ _ _ a refl d g

    pub remove-within : within m.places span (remove r k m) ≡ remove r k (within m.places span m)
    remove-within =
        let i = place_in m r k s h lt in
        let f : m.free < m.places = omega (arith, row_few m r s h) in
        let j : r * m.room + k < span = omega (arith, s.short r h) in
        let n : place_at r k m ≡ place_at r k (within m.places span m) = sym (get_or-take span m.rows (r * m.room + k) 0 j) in
        let a = take-set_lt m.places m.heads (place_at r k m) vacant i in
        let d = edited-within span (r * m.room + k) (r * m.room + row_length m r) moved_down m.rows (omega arith) (omega (arith, s.short r h)) (omega (arith, row_end m r s h, s.short r h)) down_long in
        let g = take-set_lt m.places m.spare m.free (place_at r k m) f in
        mem_alike (remove r k (within m.places span m)) _ _ _ _
        (a ∙ ap (λ (p : ℕ). set (take m.places m.heads) p vacant) n)
        refl
        d
        (g ∙ ap (λ (p : ℕ). set (take m.places m.spare) m.free p) n)

module _ (m : Mem) (n : ℕ) (hs : n ≤ length m.heads) (ss : n ≤ length m.spare) (span : ℕ) where
  pub reset-beyond : beyond n span (lent_to (reset n m)) ≡ beyond n span (lent_to m)
  reset-beyond =
      let a = drop_at (replicate n vacant) (drop n m.heads) n (length-replicate n vacant) in
      let g = drop_at (range_with_len 0 n) (drop n m.spare) n (length-range_with_len 0 n) in
      lent_alike _ _ _ _ _ _ _ _ a refl refl g

  pub reset-within : within n span (reset n m) ≡ reset n (within n span m)
  reset-within =
      let none : drop n (take n m.heads) ≡ [] = drop_all n (take n m.heads) (simp length-take (omega arith)) in
      let empty : drop n (take n m.spare) ≡ [] = drop_all n (take n m.spare) (simp length-take (omega arith)) in
      let a = take_at (replicate n vacant) (drop n m.heads) n (length-replicate n vacant) in
      let g = take_at (range_with_len 0 n) (drop n m.spare) n (length-range_with_len 0 n) in
      mem_alike (reset n (within n span m)) _ _ _ _
      (a ∙ (sym (append-nil (replicate n vacant)) ∙ ap (λ (hs : List Head). replicate n vacant ++ hs) (sym none)))
      refl
      refl
      (g ∙ (sym (append-nil (range_with_len 0 n)) ∙ ap (λ (xs : List ℕ). range_with_len 0 n ++ xs) (sym empty)))
