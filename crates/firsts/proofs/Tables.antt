-- The table of first cells stays one as cells are put into lists and taken out of them.
use Rattle.std.proofs.Common.{◌≡◌, ℕ, zero, suc, ◌+◌, ◌-◌, ◌*◌, ◌^◌, ◌<◌, ◌≤◌, Bool, true, false, not, ◌&&◌, ◌||◌, eqb, ltb, List, [], ◌∷◌, ◌++◌, map, length, get_or, take, drop, Some, None, Option, sym, refl, ap, ◌∙◌, subst, inl, inr, arith}
use lib.Bits.{bit_or, bit_xor}
use Rattle.std.specs.List.{insert, remove}
use Rattle.std.proofs.lemmas.List.Edits.{length-insert, get_or-insert_below, get_or-insert_at, get_or-insert_above, length-remove, get_or-remove_below, get_or-remove_above}
use Rattle.std.proofs.lemmas.List.{length-append, length-map, length-take, length-drop, length-set, length-replicate, get_or-map, get_or-take, get_or-drop, get_or_append_left, get_or-append_right, get_or-set_same, get_or-set_other, get_or-replicate}
use Rattle.std.proofs.lemmas.Bool.{cases_Bool, cases_eq, cases_lt, cases_order, cond-true, cond-false, cond_both, eq-eqb, ne_eqb, ltb-true, lt-ltb, and_parts}
use Rattle.std.proofs.lemmas.Bool.Decides.{nat_tests}
use Rattle.crossbox.specs.declared.Cell.{Cell}
use Rattle.bits.specs.Bits.{is_set}
use Rattle.bits.proofs.Sets.{none-set, with_is, without_is}
use Rattle.firsts.specs.declared.Firsts.{Firsts}
use Rattle.firsts.specs.declared.First.{First}
use Rattle.firsts.specs.Firsts.{position, slot_at, first_of, TableOf, none, moved, later, sooner, noted, unnoted, stands, after_insert, after_remove}
use Rattle.firsts.proofs.Positions.{position_le, insert_own, insert_other, remove_other, apart}

-- how long the lists of a table are
abbrev Long : Firsts → Type 0
Long t = (length t.waiting ≡ 32) × (length t.slots ≡ 1024) × (length t.places ≡ 1024)

-- lists that are alike have the same table
pub table_alike : (t : Firsts) (n : ℕ) (ls ks : ℕ → List Cell) → ((i : ℕ) → i < n → ls i ≡ ks i) → TableOf t n ls → TableOf t n ks
table_alike t n ls ks e m =
    record {
      long = m.long;
      waits = λ i o h. m.waits i o h ∙ alike i o;
      slot = λ i o h k w. subst (λ (l : List Cell). position o l < length l → get_or t.slots (o * 32 + i) 0 ≡ slot_at l (position o l)) (e i h) (m.slot i o h k) w;
      place = λ i o h k w. subst (λ (l : List Cell). position o l < length l → get_or t.places (i * 32 + o) 0 ≡ position o l) (e i h) (m.place i o h k) w;
    }
  where
    alike : (i o : ℕ) → (ltb i n && ltb (position o (ls i)) (length (ls i))) ≡ (ltb i n && ltb (position o (ks i)) (length (ks i)))
    alike i o =
        elim (cases_Bool (ltb i n)) [
          | inl t ↦ ap (λ (l : List Cell). ltb i n && ltb (position o l) (length l)) (e i (ltb-true i n t))
          | inr t ↦ grind (arith, t)
        ]

-- the table in which none is noted is one of empty lists
pub table_empty : (n : ℕ) (ls : ℕ → List Cell) → ((i : ℕ) → i < n → ls i ≡ []) → TableOf none n ls
table_empty n ls e =
    table_alike none n (λ i. []) ls (λ i h. sym (e i h))
    (record {
      long = (refl, length-replicate {A = ℕ} 1024 0, length-replicate {A = ℕ} 1024 0);
      waits = λ i o h. ap (λ (x : ℕ). is_set x i) (get_or-replicate {A = ℕ} 32 o 0 0 h) ∙ (none-set i ∙ grind (arith, nat_tests, position_le o []));
      slot = λ i o h k w. absurd (omega arith);
      place = λ i o h k w. absurd (omega arith);
    })

-- a pair that has a cell is noted
pub pair_noted : (t : Firsts) (n : ℕ) (ls : ℕ → List Cell) → TableOf t n ls → (i o : ℕ) → i < n → o < 32 → position o (ls i) < length (ls i) → is_set (get_or t.waiting o 0) i ≡ true
pair_noted t n ls m i o hi ho w =
    m.waits i o ho ∙ (ap (λ (b : Bool). b && ltb (position o (ls i)) (length (ls i))) (lt-ltb i n hi) ∙ lt-ltb (position o (ls i)) (length (ls i)) w)

-- what must be shown where the list of input i alone is another
module _ (t u : Firsts) (n : ℕ) (ls ks : ℕ → List Cell) (i : ℕ) (m : TableOf t n ls) (hi : i < n) (same : (j : ℕ) → j < n → (j ≡ i → ⊥) → ks j ≡ ls j) where
  renewed : n ≤ 32 → Long u →
      ((j o : ℕ) → (j ≡ i → ⊥) → o < 32 → is_set (get_or u.waiting o 0) j ≡ is_set (get_or t.waiting o 0) j) →
      ((j o : ℕ) → (j ≡ i → ⊥) → j < 32 → o < 32 → (get_or u.slots (o * 32 + j) 0 ≡ get_or t.slots (o * 32 + j) 0) × (get_or u.places (j * 32 + o) 0 ≡ get_or t.places (j * 32 + o) 0)) →
      ((o : ℕ) → o < 32 → is_set (get_or u.waiting o 0) i ≡ ltb (position o (ks i)) (length (ks i))) →
      ((o : ℕ) → o < 32 → position o (ks i) < length (ks i) → (get_or u.slots (o * 32 + i) 0 ≡ slot_at (ks i) (position o (ks i))) × (get_or u.places (i * 32 + o) 0 ≡ position o (ks i))) →
      TableOf u n ks
  renewed few l w x y z =
      record {
        long = l;
        waits = λ j o h.
            elim (cases_eq j i) [
              | inl e ↦ subst (λ (p : ℕ). is_set (get_or u.waiting o 0) p ≡ (ltb p n && ltb (position o (ks p)) (length (ks p)))) (sym e) (y o h ∙ sym (ap (λ (b : Bool). b && ltb (position o (ks i)) (length (ks i))) (lt-ltb i n hi)))
              | inr ne ↦ w j o ne h ∙ (m.waits j o h ∙ other j o ne)
            ];
        slot = λ j o h k p.
            elim (cases_eq j i) [
              | inl e ↦ subst (λ (q : ℕ). position o (ks q) < length (ks q) → get_or u.slots (o * 32 + q) 0 ≡ slot_at (ks q) (position o (ks q))) (sym e) (λ v. (z o k v).0) p
              | inr ne ↦ (x j o ne (omega arith) k).0 ∙ subst (λ (q : List Cell). position o q < length q → get_or t.slots (o * 32 + j) 0 ≡ slot_at q (position o q)) (sym (same j h ne)) (m.slot j o h k) p
            ];
        place = λ j o h k p.
            elim (cases_eq j i) [
              | inl e ↦ subst (λ (q : ℕ). position o (ks q) < length (ks q) → get_or u.places (q * 32 + o) 0 ≡ position o (ks q)) (sym e) (λ v. (z o k v).1) p
              | inr ne ↦ (x j o ne (omega arith) k).1 ∙ subst (λ (q : List Cell). position o q < length q → get_or t.places (j * 32 + o) 0 ≡ position o q) (sym (same j h ne)) (m.place j o h k) p
            ];
      }
    where
      other : (j o : ℕ) → (j ≡ i → ⊥) → (ltb j n && ltb (position o (ls j)) (length (ls j))) ≡ (ltb j n && ltb (position o (ks j)) (length (ks j)))
      other j o ne =
          elim (cases_Bool (ltb j n)) [
            | inl b ↦ ap (λ (q : List Cell). ltb j n && ltb (position o q) (length q)) (sym (same j (ltb-true j n b) ne))
            | inr b ↦ grind (arith, b)
          ]

-- the places of one input changed
module _ (t : Firsts) (long : length t.places ≡ 1024) (i : ℕ) (hi : i < 32) (f : ℕ → ℕ) where
  pub moved_long : length (moved i f t).places ≡ 1024
  moved_long = simp (length-append, length-map, length-take, length-drop) (omega arith)

  pub moved_own : (o : ℕ) → o < 32 → get_or (moved i f t).places (i * 32 + o) 0 ≡ f (get_or t.places (i * 32 + o) 0)
  moved_own o h =
      let b : length (take (i * 32) t.places) ≡ i * 32 = length-take (i * 32) t.places ∙ omega arith in
      let w : length (take 32 (drop (i * 32) t.places)) ≡ 32 = simp (length-take, length-drop) (omega arith) in
      let v : length (map f (take 32 (drop (i * 32) t.places))) ≡ 32 = length-map (take 32 (drop (i * 32) t.places)) f ∙ w in
      get_or-append_right (take (i * 32) t.places) _ (i * 32) (i * 32 + o) 0 b (omega arith)
      ∙ (ap (λ (k : ℕ). get_or (map f (take 32 (drop (i * 32) t.places)) ++ drop 32 (drop (i * 32) t.places)) k 0) (let z : i * 32 + o - i * 32 ≡ o = omega arith in z)
      ∙ (get_or_append_left (map f (take 32 (drop (i * 32) t.places))) (drop 32 (drop (i * 32) t.places)) 0 o (omega arith)
      ∙ (get_or-map f (take 32 (drop (i * 32) t.places)) o 0 0 (omega arith)
      ∙ ap f (get_or-take 32 (drop (i * 32) t.places) o 0 h ∙ get_or-drop (i * 32) t.places o 0))))

  pub moved_other : (j o : ℕ) → (j ≡ i → ⊥) → j < 32 → o < 32 → get_or (moved i f t).places (j * 32 + o) 0 ≡ get_or t.places (j * 32 + o) 0
  moved_other j o ne hj h =
      let b : length (take (i * 32) t.places) ≡ i * 32 = length-take (i * 32) t.places ∙ omega arith in
      let w : length (take 32 (drop (i * 32) t.places)) ≡ 32 = simp (length-take, length-drop) (omega arith) in
      let v : length (map f (take 32 (drop (i * 32) t.places))) ≡ 32 = length-map (take 32 (drop (i * 32) t.places)) f ∙ w in
      elim (cases_order j i) [
        | inl a ↦ absurd (ne a)
        | inr (inl a) ↦ get_or_append_left (take (i * 32) t.places) _ 0 (j * 32 + o) (omega arith) ∙ get_or-take (i * 32) t.places (j * 32 + o) 0 (omega arith)
        | inr (inr a) ↦
            get_or-append_right (take (i * 32) t.places) _ (i * 32) (j * 32 + o) 0 b (omega arith)
            ∙ (get_or-append_right (map f (take 32 (drop (i * 32) t.places))) _ 32 (j * 32 + o - i * 32) 0 v (omega arith)
            ∙ (get_or-drop 32 (drop (i * 32) t.places) (j * 32 + o - i * 32 - 32) 0
            ∙ (get_or-drop (i * 32) t.places (32 + (j * 32 + o - i * 32 - 32)) 0
            ∙ ap (λ (k : ℕ). get_or t.places k 0) (let z : i * 32 + (32 + (j * 32 + o - i * 32 - 32)) ≡ j * 32 + o = omega arith in z))))
      ]

-- the slots of a list, one put in or taken out
map_inserted : (k : ℕ) (c : Cell) (l : List Cell) → map (λ (d : Cell). d.slot) (insert l k c) ≡ insert (map (λ (d : Cell). d.slot) l) k c.slot
map_inserted zero c l = refl
map_inserted (suc k) c [] = refl
map_inserted (suc k) c (d ∷ l) = ap (λ (xs : List ℕ). d.slot ∷ xs) (map_inserted k c l)

map_removed : (k : ℕ) (l : List Cell) → map (λ (d : Cell). d.slot) (remove l k) ≡ remove (map (λ (d : Cell). d.slot) l) k
map_removed zero [] = refl
map_removed zero (c ∷ l) = refl
map_removed (suc k) [] = refl
map_removed (suc k) (c ∷ l) = ap (λ (xs : List ℕ). c.slot ∷ xs) (map_removed k l)

module _ (k : ℕ) (c : Cell) (l : List Cell) (h : k ≤ length l) where
  abbrev long_slots : Type 0
  long_slots = k ≤ length (map (λ (d : Cell). d.slot) l)

  in_slots : long_slots
  in_slots = omega (arith, length-map l (λ (d : Cell). d.slot))

  slot_below : (x : ℕ) → x < k → slot_at (insert l k c) x ≡ slot_at l x
  slot_below x b = ap (λ (xs : List ℕ). get_or xs x 0) (map_inserted k c l) ∙ get_or-insert_below (map (λ (d : Cell). d.slot) l) k c.slot 0 x b in_slots

  slot_here : slot_at (insert l k c) k ≡ c.slot
  slot_here = ap (λ (xs : List ℕ). get_or xs k 0) (map_inserted k c l) ∙ get_or-insert_at (map (λ (d : Cell). d.slot) l) k c.slot 0 in_slots

  slot_above : (x : ℕ) → k ≤ x → slot_at (insert l k c) (x + 1) ≡ slot_at l x
  slot_above x b = ap (λ (xs : List ℕ). get_or xs (x + 1) 0) (map_inserted k c l) ∙ get_or-insert_above (map (λ (d : Cell). d.slot) l) k c.slot 0 x b in_slots

module _ (k : ℕ) (l : List Cell) (h : k < length l) where
  out_slots : k < length (map (λ (d : Cell). d.slot) l)
  out_slots = omega (arith, length-map l (λ (d : Cell). d.slot))

  slot_before : (x : ℕ) → x < k → slot_at (remove l k) x ≡ slot_at l x
  slot_before x b = ap (λ (xs : List ℕ). get_or xs x 0) (map_removed k l) ∙ get_or-remove_below (map (λ (d : Cell). d.slot) l) k 0 x b out_slots

  slot_behind : (x : ℕ) → k ≤ x → slot_at (remove l k) x ≡ slot_at l (x + 1)
  slot_behind x b = ap (λ (xs : List ℕ). get_or xs x 0) (map_removed k l) ∙ get_or-remove_above (map (λ (d : Cell). d.slot) l) k 0 x b out_slots

-- a cell was put behind the first k of the list of input i
module _ (t : Firsts) (n : ℕ) (ls ks : ℕ → List Cell) (i k : ℕ) (c : Cell) (m : TableOf t n ls) (few : n ≤ 32) (hi : i < n) (ho : c.output < 32) (hk : k ≤ length (ls i)) (short : length (ls i) < 65535)
    (own : ks i ≡ insert (ls i) k c) (same : (j : ℕ) → j < n → (j ≡ i → ⊥) → ks j ≡ ls j) where
  one-longer : length (insert (ls i) k c) ≡ length (ls i) + 1
  one-longer = length-insert (ls i) k c hk

  -- another output's cell is noted as before
  other_waits : (o : ℕ) → o < 32 → (c.output ≡ o → ⊥) → is_set (get_or t.waiting o 0) i ≡ ltb (position o (insert (ls i) k c)) (length (insert (ls i) k c))
  other_waits o h ne =
      let w = m.waits i o h in
      let a = lt-ltb i n hi in
      let p = insert_other o k c (ls i) ne hk in
      let le = position_le o (ls i) in
      let g : ltb (position o (ls i)) (length (ls i)) ≡ ltb (position o (insert (ls i) k c)) (length (insert (ls i) k c)) = grind (arith, nat_tests, p, le, hk, one-longer) in
      w ∙ (ap (λ (b : Bool). b && ltb (position o (ls i)) (length (ls i))) a ∙ g)

  -- and it stands one place later if it stood behind
  other_first : (o : ℕ) → o < 32 → (c.output ≡ o → ⊥) → position o (insert (ls i) k c) < length (insert (ls i) k c) → (get_or t.slots (o * 32 + i) 0 ≡ slot_at (insert (ls i) k c) (position o (insert (ls i) k c))) × (later k (get_or t.places (i * 32 + o) 0) ≡ position o (insert (ls i) k c))
  other_first o h ne v =
      let p = insert_other o k c (ls i) ne hk in
      let le = position_le o (ls i) in
      let q : position o (ls i) < length (ls i) = grind (arith, nat_tests, p, le, hk, one-longer, v) in
      let a = m.slot i o hi h q in
      let b = m.place i o hi h q in
      elim (cases_lt (position o (ls i)) k) [
        | inl z ↦
            let e : position o (insert (ls i) k c) ≡ position o (ls i) = grind (arith, nat_tests, p, z) in (
              a ∙ (sym (slot_below k c (ls i) hk (position o (ls i)) z) ∙ ap (λ (x : ℕ). slot_at (insert (ls i) k c) x) (sym e)),
              ap (later k) b ∙ (let y : later k (position o (ls i)) ≡ position o (ls i) = grind (arith, nat_tests, z, q, short) in y ∙ sym e),
            )
        | inr z ↦
            let e : position o (insert (ls i) k c) ≡ position o (ls i) + 1 = grind (arith, nat_tests, p, z) in (
              a ∙ (sym (slot_above k c (ls i) hk (position o (ls i)) z) ∙ ap (λ (x : ℕ). slot_at (insert (ls i) k c) x) (sym e)),
              ap (later k) b ∙ (let y : later k (position o (ls i)) ≡ position o (ls i) + 1 = grind (arith, nat_tests, z, q, short) in y ∙ sym e),
            )
      ]

  -- the cell's own output has a first one already, which stands before
  stood : stands i c.output k t ≡ true → (position c.output (ls i) < length (ls i)) × (position c.output (ls i) < k)
  stood z =
      let parts = and_parts (is_set (get_or t.waiting c.output 0) i) (ltb (get_or t.places (i * 32 + c.output) 0) k) z in
      let w = sym (m.waits i c.output ho) ∙ parts.0 in
      let v = ltb-true (position c.output (ls i)) (length (ls i)) (and_parts (ltb i n) (ltb (position c.output (ls i)) (length (ls i))) w).1 in
      let b = m.place i c.output hi ho v in
      (v, omega (arith, ltb-true (get_or t.places (i * 32 + c.output) 0) k parts.1))

  -- or it has none that stands before
  none_before : stands i c.output k t ≡ false → k ≤ position c.output (ls i)
  none_before z =
      elim (cases_lt (position c.output (ls i)) k) [
        | inl y ↦
            let v : position c.output (ls i) < length (ls i) = omega arith in
            let b = m.place i c.output hi ho v in
            let a = lt-ltb i n hi in
            let x = lt-ltb (position c.output (ls i)) (length (ls i)) v in
            let w : is_set (get_or t.waiting c.output 0) i ≡ true = m.waits i c.output ho ∙ (ap (λ (q : Bool). q && ltb (position c.output (ls i)) (length (ls i))) a ∙ x) in
            let u : ltb (get_or t.places (i * 32 + c.output) 0) k ≡ true = lt-ltb (get_or t.places (i * 32 + c.output) 0) k (omega arith) in
            absurd (grind (arith, z, w, u))
        | inr y ↦ y
      ]

  -- what the table has of input i must be shown of its list as it is now
  abbrev Bit : Firsts → ℕ → Type 0
  Bit u o = is_set (get_or u.waiting o 0) i ≡ ltb (position o (insert (ls i) k c)) (length (insert (ls i) k c))

  abbrev First' : Firsts → ℕ → Type 0
  First' u o =
      position o (insert (ls i) k c) < length (insert (ls i) k c) →
      (get_or u.slots (o * 32 + i) 0 ≡ slot_at (insert (ls i) k c) (position o (insert (ls i) k c))) × (get_or u.places (i * 32 + o) 0 ≡ position o (insert (ls i) k c))

  shown : (u : Firsts) → Long u →
      ((j o : ℕ) → (j ≡ i → ⊥) → o < 32 → is_set (get_or u.waiting o 0) j ≡ is_set (get_or t.waiting o 0) j) →
      ((j o : ℕ) → (j ≡ i → ⊥) → j < 32 → o < 32 → (get_or u.slots (o * 32 + j) 0 ≡ get_or t.slots (o * 32 + j) 0) × (get_or u.places (j * 32 + o) 0 ≡ get_or t.places (j * 32 + o) 0)) →
      ((o : ℕ) → o < 32 → Bit u o) → ((o : ℕ) → o < 32 → First' u o) → TableOf u n ks
  shown u l w x y z =
      renewed t u n ls ks i m hi same few l w x
      (λ o h. subst (λ (q : List Cell). is_set (get_or u.waiting o 0) i ≡ ltb (position o q) (length q)) (sym own) (y o h))
      (λ o h. subst (λ (q : List Cell). position o q < length q → (get_or u.slots (o * 32 + i) 0 ≡ slot_at q (position o q)) × (get_or u.places (i * 32 + o) 0 ≡ position o q)) (sym own) (z o h))

  -- the first cell of its pair stands before
  kept_bit : stands i c.output k t ≡ true → Bit (moved i (later k) t) c.output
  kept_bit z =
      let v = stood z in
      let p = insert_own c.output k c (ls i) refl hk in
      let a = lt-ltb i n hi in
      let w = m.waits i c.output ho in
      let x = lt-ltb (position c.output (ls i)) (length (ls i)) v.0 in
      let g : ltb (position c.output (insert (ls i) k c)) (length (insert (ls i) k c)) ≡ true = lt-ltb (position c.output (insert (ls i) k c)) (length (insert (ls i) k c)) (grind (arith, nat_tests, p, v.0, v.1, one-longer)) in
      w ∙ (ap (λ (b : Bool). b && ltb (position c.output (ls i)) (length (ls i))) a ∙ (x ∙ sym g))

  kept_first : stands i c.output k t ≡ true → First' (moved i (later k) t) c.output
  kept_first z y =
      let v = stood z in
      let p = insert_own c.output k c (ls i) refl hk in
      let e : position c.output (insert (ls i) k c) ≡ position c.output (ls i) = grind (arith, nat_tests, p, v.1) in
      let b = m.place i c.output hi ho v.0 in
      let small = v.1 in
      let inside = v.0 in (
        m.slot i c.output hi ho v.0 ∙ (sym (slot_below k c (ls i) hk (position c.output (ls i)) v.1) ∙ ap (λ (x : ℕ). slot_at (insert (ls i) k c) x) (sym e)),
        moved_own t m.long.2 i (omega arith) (later k) c.output ho ∙ (ap (later k) b ∙ (let q : later k (position c.output (ls i)) ≡ position c.output (ls i) = grind (arith, nat_tests, small, inside, short) in q ∙ sym e)),
      )

  kept_table : stands i c.output k t ≡ true → TableOf (moved i (later k) t) n ks
  kept_table z =
      shown (moved i (later k) t) (m.long.0, m.long.1, moved_long t m.long.2 i (omega arith) (later k)) (λ j o ne h. refl)
      (λ j o ne hj h. (refl, moved_other t m.long.2 i (omega arith) (later k) j o ne hj h))
      (λ o h.
      elim (cases_eq c.output o) [
        | inl e ↦ subst (λ (x : ℕ). Bit (moved i (later k) t) x) e (kept_bit z)
        | inr ne ↦ other_waits o h ne
      ])
      (λ o h.
      elim (cases_eq c.output o) [
        | inl e ↦ subst (λ (x : ℕ). First' (moved i (later k) t) x) e (kept_first z)
        | inr ne ↦ λ v. ((other_first o h ne v).0, moved_own t m.long.2 i (omega arith) (later k) o h ∙ (other_first o h ne v).1)
      ])

  -- the cell is the first of its pair
  u : Firsts
  u = noted i c.output (record { place = k; slot = c.slot }) (moved i (later k) t)

  set-bit : (j : ℕ) → is_set (get_or u.waiting c.output 0) j ≡ (eqb j i || is_set (get_or t.waiting c.output 0) j)
  unfolding u
  set-bit j =
      ap (λ (x : ℕ). is_set x j) (get_or-set_same t.waiting c.output (bit_or (get_or t.waiting c.output 0) (2 ^ i)) 0 (omega (arith, m.long.0)))
      ∙ with_is (get_or t.waiting c.output 0) i (2 ^ i) refl j

  first_at : stands i c.output k t ≡ false → position c.output (insert (ls i) k c) ≡ k
  first_at z =
      let p = insert_own c.output k c (ls i) refl hk in
      let b = none_before z in
      grind (arith, nat_tests, p, b)

  new-table : stands i c.output k t ≡ false → TableOf u n ks
  unfolding u
  new-table z =
      let e = first_at z in
      let lp = moved_long t m.long.2 i (omega arith) (later k) in
      shown u (length-set t.waiting c.output (bit_or (get_or t.waiting c.output 0) (2 ^ i)) ∙ m.long.0, length-set t.slots (c.output * 32 + i) c.slot ∙ m.long.1, length-set (moved i (later k) t).places (i * 32 + c.output) k ∙ lp)
      (λ j o ne h.
      elim (cases_eq c.output o) [
        | inl q ↦ subst (λ (x : ℕ). is_set (get_or u.waiting x 0) j ≡ is_set (get_or t.waiting x 0) j) q (set-bit j ∙ ap (λ (b : Bool). b || is_set (get_or t.waiting c.output 0) j) (ne_eqb j i ne))
        | inr q ↦ ap (λ (x : ℕ). is_set x j) (get_or-set_other t.waiting c.output o (bit_or (get_or t.waiting c.output 0) (2 ^ i)) 0 (λ y. q (sym y)))
      ])
      (λ j o ne hj h. (
        get_or-set_other t.slots (c.output * 32 + i) (o * 32 + j) c.slot 0 (λ y. ne (omega arith)),
        get_or-set_other (moved i (later k) t).places (i * 32 + c.output) (j * 32 + o) k 0 (λ y. ne (omega arith)) ∙ moved_other t m.long.2 i (omega arith) (later k) j o ne hj h,
      ))
      (λ o h.
      elim (cases_eq c.output o) [
        | inl q ↦ subst (λ (x : ℕ). Bit u x) q (set-bit i ∙ (ap (λ (b : Bool). b || is_set (get_or t.waiting c.output 0) i) (eq-eqb i i refl) ∙ sym (lt-ltb (position c.output (insert (ls i) k c)) (length (insert (ls i) k c)) (omega (arith, e, one-longer)))))
        | inr q ↦ ap (λ (x : ℕ). is_set x i) (get_or-set_other t.waiting c.output o (bit_or (get_or t.waiting c.output 0) (2 ^ i)) 0 (λ y. q (sym y))) ∙ other_waits o h q
      ])
      (λ o h.
      elim (cases_eq c.output o) [
        | inl q ↦ subst (λ (x : ℕ). First' u x) q (λ v. (
          get_or-set_same t.slots (c.output * 32 + i) c.slot 0 (omega (arith, m.long.1)) ∙ (sym (slot_here k c (ls i) hk) ∙ ap (λ (x : ℕ). slot_at (insert (ls i) k c) x) (sym e)),
          get_or-set_same (moved i (later k) t).places (i * 32 + c.output) k 0 (omega (arith, lp)) ∙ sym e,
        ))
        | inr q ↦ λ v. (
          get_or-set_other t.slots (c.output * 32 + i) (o * 32 + i) c.slot 0 (λ y. q (omega arith)) ∙ (other_first o h q v).0,
          get_or-set_other (moved i (later k) t).places (i * 32 + c.output) (i * 32 + o) k 0 (λ y. q (omega arith)) ∙ (moved_own t m.long.2 i (omega arith) (later k) o h ∙ (other_first o h q v).1),
        )
      ])

  -- the table stays one when a cell is put into a list
  pub insert_table : TableOf (after_insert i k c t) n ks
  unfolding u
  insert_table =
      cond_both (stands i c.output k t) (moved i (later k) t) (noted i c.output (record { place = k; slot = c.slot }) (moved i (later k) t)) (λ z. TableOf z n ks) kept_table new-table

-- the first cell of input i for output o was taken out
module _ (t : Firsts) (n : ℕ) (ls ks : ℕ → List Cell) (i o k : ℕ) (m : TableOf t n ls) (few : n ≤ 32) (hi : i < n) (ho : o < 32) (at' : k ≡ position o (ls i)) (hk : k < length (ls i))
    (own : ks i ≡ remove (ls i) k) (same : (j : ℕ) → j < n → (j ≡ i → ⊥) → ks j ≡ ls j) where
  one_shorter : length (remove (ls i) k) + 1 ≡ length (ls i)
  one_shorter = length-remove (ls i) k hk

  rest : Firsts
  rest = moved i (sooner k) t

  abbrev Bit' : Firsts → ℕ → Type 0
  Bit' u p = is_set (get_or u.waiting p 0) i ≡ ltb (position p (remove (ls i) k)) (length (remove (ls i) k))

  abbrev Left : Firsts → ℕ → Type 0
  Left u p =
      position p (remove (ls i) k) < length (remove (ls i) k) →
      (get_or u.slots (p * 32 + i) 0 ≡ slot_at (remove (ls i) k) (position p (remove (ls i) k))) × (get_or u.places (i * 32 + p) 0 ≡ position p (remove (ls i) k))

  had : is_set (get_or t.waiting o 0) i ≡ true
  had = pair_noted t n ls m i o hi ho (omega arith)

  differ : (p : ℕ) → (p ≡ o → ⊥) → position p (ls i) ≡ k → ⊥
  differ p ne e = ne (apart o p (ls i) (e ∙ at') (omega arith))

  elsewhere : (p : ℕ) → p < 32 → (p ≡ o → ⊥) → Bit' t p
  elsewhere p h ne =
      let w = m.waits i p h in
      let a = lt-ltb i n hi in
      let q = remove_other o p k (ls i) ne at' hk in
      let le = position_le p (ls i) in
      let d = differ p ne in
      let g : ltb (position p (ls i)) (length (ls i)) ≡ ltb (position p (remove (ls i) k)) (length (remove (ls i) k)) = grind (arith, nat_tests, q, le, hk, one_shorter, d) in
      w ∙ (ap (λ (b : Bool). b && ltb (position p (ls i)) (length (ls i))) a ∙ g)

  left-first : (p : ℕ) → p < 32 → (p ≡ o → ⊥) → Left rest p
  unfolding rest
  left-first p h ne v =
      let q = remove_other o p k (ls i) ne at' hk in
      let le = position_le p (ls i) in
      let d = differ p ne in
      let y : position p (ls i) < length (ls i) = grind (arith, nat_tests, q, le, hk, one_shorter, v, d) in
      let a = m.slot i p hi h y in
      let b = m.place i p hi h y in
      let moved_to = moved_own t m.long.2 i (omega arith) (sooner k) p h ∙ (ap (sooner k) b ∙ sym q) in
      elim (cases_lt (position p (ls i)) k) [
        | inl z ↦
            let e : position p (remove (ls i) k) ≡ position p (ls i) = grind (arith, nat_tests, q, z) in
            (a ∙ (sym (slot_before k (ls i) hk (position p (ls i)) z) ∙ ap (λ (x : ℕ). slot_at (remove (ls i) k) x) (sym e)), moved_to)
        | inr z ↦
            let above : k < position p (ls i) = grind (arith, z, d) in
            let e : position p (ls i) ≡ position p (remove (ls i) k) + 1 = grind (arith, nat_tests, q, above) in
            (a ∙ (ap (λ (x : ℕ). slot_at (ls i) x) e ∙ sym (slot_behind k (ls i) hk (position p (remove (ls i) k)) (omega arith))), moved_to)
      ]

  remains : (u : Firsts) → Long u →
      ((j p : ℕ) → (j ≡ i → ⊥) → p < 32 → is_set (get_or u.waiting p 0) j ≡ is_set (get_or t.waiting p 0) j) →
      ((j p : ℕ) → (j ≡ i → ⊥) → j < 32 → p < 32 → (get_or u.slots (p * 32 + j) 0 ≡ get_or t.slots (p * 32 + j) 0) × (get_or u.places (j * 32 + p) 0 ≡ get_or t.places (j * 32 + p) 0)) →
      ((p : ℕ) → p < 32 → Bit' u p) → ((p : ℕ) → p < 32 → Left u p) → TableOf u n ks
  remains u l w x y z =
      renewed t u n ls ks i m hi same few l w x
      (λ p h. subst (λ (q : List Cell). is_set (get_or u.waiting p 0) i ≡ ltb (position p q) (length q)) (sym own) (y p h))
      (λ p h. subst (λ (q : List Cell). position p q < length q → (get_or u.slots (p * 32 + i) 0 ≡ slot_at q (position p q)) × (get_or u.places (i * 32 + p) 0 ≡ position p q)) (sym own) (z p h))

  rest_long : length rest.places ≡ 1024
  unfolding rest
  rest_long = moved_long t m.long.2 i (omega arith) (sooner k)

  rest_other : (j p : ℕ) → (j ≡ i → ⊥) → j < 32 → p < 32 → get_or rest.places (j * 32 + p) 0 ≡ get_or t.places (j * 32 + p) 0
  unfolding rest
  rest_other j p ne hj h = moved_other t m.long.2 i (omega arith) (sooner k) j p ne hj h

  -- another of the pair is the first now
  module _ (first : First) (v : position o (remove (ls i) k) < length (remove (ls i) k)) (is : first.place ≡ position o (remove (ls i) k)) (of' : first.slot ≡ slot_at (remove (ls i) k) (position o (remove (ls i) k))) where
    bit-now : (j : ℕ) → is_set (get_or (noted i o first rest).waiting o 0) j ≡ (eqb j i || is_set (get_or t.waiting o 0) j)
    unfolding rest
    bit-now j =
        ap (λ (x : ℕ). is_set x j) (get_or-set_same t.waiting o (bit_or (get_or t.waiting o 0) (2 ^ i)) 0 (omega (arith, m.long.0)))
        ∙ with_is (get_or t.waiting o 0) i (2 ^ i) refl j

    next-table : TableOf (noted i o first rest) n ks
    unfolding rest
    next-table =
        remains (noted i o first rest) (length-set t.waiting o (bit_or (get_or t.waiting o 0) (2 ^ i)) ∙ m.long.0, length-set t.slots (o * 32 + i) first.slot ∙ m.long.1, length-set rest.places (i * 32 + o) first.place ∙ rest_long)
        (λ j p ne h.
        elim (cases_eq o p) [
          | inl q ↦ subst (λ (x : ℕ). is_set (get_or (noted i o first rest).waiting x 0) j ≡ is_set (get_or t.waiting x 0) j) q (bit-now j ∙ ap (λ (b : Bool). b || is_set (get_or t.waiting o 0) j) (ne_eqb j i ne))
          | inr q ↦ ap (λ (x : ℕ). is_set x j) (get_or-set_other t.waiting o p (bit_or (get_or t.waiting o 0) (2 ^ i)) 0 (λ y. q (sym y)))
        ])
        (λ j p ne hj h. (
          get_or-set_other t.slots (o * 32 + i) (p * 32 + j) first.slot 0 (λ y. ne (omega arith)),
          get_or-set_other rest.places (i * 32 + o) (j * 32 + p) first.place 0 (λ y. ne (omega arith)) ∙ rest_other j p ne hj h,
        ))
        (λ p h.
        elim (cases_eq o p) [
          | inl q ↦ subst (λ (x : ℕ). Bit' (noted i o first rest) x) q (bit-now i ∙ (ap (λ (b : Bool). b || is_set (get_or t.waiting o 0) i) (eq-eqb i i refl) ∙ sym (lt-ltb (position o (remove (ls i) k)) (length (remove (ls i) k)) v)))
          | inr q ↦ ap (λ (x : ℕ). is_set x i) (get_or-set_other t.waiting o p (bit_or (get_or t.waiting o 0) (2 ^ i)) 0 (λ y. q (sym y))) ∙ elsewhere p h (λ y. q (sym y))
        ])
        (λ p h.
        elim (cases_eq o p) [
          | inl q ↦ subst (λ (x : ℕ). Left (noted i o first rest) x) q (λ w. (
            get_or-set_same t.slots (o * 32 + i) first.slot 0 (omega (arith, m.long.1)) ∙ of',
            get_or-set_same rest.places (i * 32 + o) first.place 0 (omega (arith, rest_long)) ∙ is,
          ))
          | inr q ↦ λ w. (
            get_or-set_other t.slots (o * 32 + i) (p * 32 + i) first.slot 0 (λ y. q (omega arith)) ∙ (left-first p h (λ y. q (sym y)) w).0,
            get_or-set_other rest.places (i * 32 + o) (i * 32 + p) first.place 0 (λ y. q (omega arith)) ∙ (left-first p h (λ y. q (sym y)) w).1,
          )
        ])

  -- none of the pair is left
  module _ (v : length (remove (ls i) k) ≤ position o (remove (ls i) k)) where
    bit-gone : (j : ℕ) → is_set (get_or (unnoted i o rest).waiting o 0) j ≡ (not (eqb j i) && is_set (get_or t.waiting o 0) j)
    unfolding rest
    bit-gone j =
        ap (λ (x : ℕ). is_set x j) (get_or-set_same t.waiting o (bit_xor (get_or t.waiting o 0) (2 ^ i)) 0 (omega (arith, m.long.0)))
        ∙ without_is (get_or t.waiting o 0) i (2 ^ i) refl had j

    last_table : TableOf (unnoted i o rest) n ks
    unfolding rest
    last_table =
        let no : ltb (position o (remove (ls i) k)) (length (remove (ls i) k)) ≡ false = grind (arith, nat_tests, v) in
        remains (unnoted i o rest) (length-set t.waiting o (bit_xor (get_or t.waiting o 0) (2 ^ i)) ∙ m.long.0, m.long.1, rest_long)
        (λ j p ne h.
        elim (cases_eq o p) [
          | inl q ↦ subst (λ (x : ℕ). is_set (get_or (unnoted i o rest).waiting x 0) j ≡ is_set (get_or t.waiting x 0) j) q (bit-gone j ∙ ap (λ (b : Bool). not b && is_set (get_or t.waiting o 0) j) (ne_eqb j i ne))
          | inr q ↦ ap (λ (x : ℕ). is_set x j) (get_or-set_other t.waiting o p (bit_xor (get_or t.waiting o 0) (2 ^ i)) 0 (λ y. q (sym y)))
        ])
        (λ j p ne hj h. (refl, rest_other j p ne hj h))
        (λ p h.
        elim (cases_eq o p) [
          | inl q ↦ subst (λ (x : ℕ). Bit' (unnoted i o rest) x) q (bit-gone i ∙ (ap (λ (b : Bool). not b && is_set (get_or t.waiting o 0) i) (eq-eqb i i refl) ∙ sym no))
          | inr q ↦ ap (λ (x : ℕ). is_set x i) (get_or-set_other t.waiting o p (bit_xor (get_or t.waiting o 0) (2 ^ i)) 0 (λ y. q (sym y))) ∙ elsewhere p h (λ y. q (sym y))
        ])
        (λ p h.
        elim (cases_eq o p) [
          | inl q ↦ subst (λ (x : ℕ). Left (unnoted i o rest) x) q (λ w. absurd (omega arith))
          | inr q ↦ left-first p h (λ y. q (sym y))
        ])

  -- the table stays one when the first cell of a pair is taken out, and the next of the pair is noted
  pub remove-table : TableOf (after_remove i o k (first_of o (remove (ls i) k)) t) n ks
  unfolding rest
  remove-table =
      elim (cases_Bool (ltb (position o (remove (ls i) k)) (length (remove (ls i) k)))) [
        | inl b ↦ subst (λ (z : Option First). TableOf (after_remove i o k z t) n ks) (sym (cond-true _ (Some found) None b)) (next-table found (ltb-true (position o (remove (ls i) k)) (length (remove (ls i) k)) b) refl refl)
        | inr b ↦ subst (λ (z : Option First). TableOf (after_remove i o k z t) n ks) (sym (cond-false _ (Some found) None b)) (last_table (grind (arith, nat_tests, b)))
      ]
    where
      found : First
      found = record { place = position o (remove (ls i) k); slot = slot_at (remove (ls i) k) (position o (remove (ls i) k)) }
