-- The table of first cells in the making: one cell more, and the whole of a box.
use Rattle.std.proofs.Common.{◌≡◌, ℕ, zero, suc, ◌+◌, ◌*◌, ◌<◌, ◌≤◌, Bool, true, false, cond, ◌||◌, eqb, List, [], ◌∷◌, ◌++◌, length, get_or, set, replicate, Some, Option, sym, refl, ap, ◌∙◌, subst, inl, inr, arith}
use Rattle.std.proofs.lemmas.List.{append-nil, get_or-set_same, get_or-set_other, length-set}
use Rattle.std.proofs.lemmas.Bool.{cases_Bool, cases_eq, cond-true, cond-false, eq-eqb, ne_eqb}
use Rattle.std.proofs.lemmas.Bool.Decides.{nat_tests}
use Rattle.crossbox.specs.declared.Cell.{Cell}
use Rattle.crossbox.specs.Cells.{ahead, same, is_in}
use Rattle.crossbox.specs.Ideal.{first}
use Rattle.crossbox.specs.Box.{Box, for_output}
use Rattle.crossbox.specs.Matching.{some}
use Rattle.crossbox.specs.Shape.{WellPlaced, InOrder}
use Rattle.matching.specs.declared.Firsts.{Firsts}
use Rattle.bits.specs.Bits.{is_set}
use Rattle.matching.specs.Table.{Ties, first_for}
use Rattle.matching.specs.Making.{TableOf, grown}
use Rattle.bits.proofs.Sets.{none-set}
use Rattle.matching.proofs.Heads.{first_in, some_for}

-- lists that are alike have the same table
pub table_alike : (t : Firsts) (ls ks : ℕ → List Cell) → ((i : ℕ) → ls i ≡ ks i) → TableOf t ls → TableOf t ks
table_alike t ls ks e m =
    record {
      long = m.long;
      waits = λ i o. m.waits i o ∙ ap (λ (l : List Cell). some (for_output o l)) (e i);
      slot = λ i o c h k f. m.slot i o c h k (ap (λ (l : List Cell). first_for o l) (e i) ∙ f);
      place = λ i o c h k f. m.place i o c h k (ap (λ (l : List Cell). first_for o l) (e i) ∙ f) ∙ ap (λ (l : List Cell). ahead c l) (e i);
    }

-- a table with no bit set is one of empty lists
pub table_empty : (t : Firsts) → (length t.waiting ≡ 32) × (length t.slots ≡ 1024) × (length t.places ≡ 1024) → ((o : ℕ) → get_or t.waiting o 0 ≡ 0) → TableOf t (λ i. [])
unfolding for_output
table_empty t l e =
    record {
      long = l;
      waits = λ i o. ap (λ (x : ℕ). is_set x i) (e o) ∙ none-set i;
      slot = λ i o c h k f. absurd (let z : ◌≡◌ {A = ℕ} 0 1 = cc in omega arith);
      place = λ i o c h k f. absurd (let z : ◌≡◌ {A = ℕ} 0 1 = cc in omega arith);
    }

-- what is for an output, of a list and one cell more
for_push : (o : ℕ) (c : Cell) (l : List Cell) → for_output o (l ++ (c ∷ [])) ≡ for_output o l ++ cond (eqb c.output o) (c ∷ []) []
unfolding for_output
for_push o c [] = refl
for_push o c (d ∷ l) =
    elim (cases_Bool (eqb d.output o)) [
      | inl e ↦ subst (λ w. cond w (d ∷ for_output o (l ++ (c ∷ []))) (for_output o (l ++ (c ∷ []))) ≡ cond w (d ∷ for_output o l) (for_output o l) ++ cond (eqb c.output o) (c ∷ []) []) (sym e) (ap (λ (z : List Cell). d ∷ z) (for_push o c l))
      | inr e ↦ subst (λ w. cond w (d ∷ for_output o (l ++ (c ∷ []))) (for_output o (l ++ (c ∷ []))) ≡ cond w (d ∷ for_output o l) (for_output o l) ++ cond (eqb c.output o) (c ∷ []) []) (sym e) (for_push o c l)
    ]

for_other : (o : ℕ) (c : Cell) (l : List Cell) → (c.output ≡ o → ⊥) → for_output o (l ++ (c ∷ [])) ≡ for_output o l
for_other o c l ne =
    for_push o c l ∙ (ap (λ (z : List Cell). for_output o l ++ z) (cond-false (eqb c.output o) (c ∷ []) [] (ne_eqb c.output o ne)) ∙ append-nil (for_output o l))

for_own : (o : ℕ) (c : Cell) (l : List Cell) → c.output ≡ o → for_output o (l ++ (c ∷ [])) ≡ for_output o l ++ (c ∷ [])
for_own o c l e = for_push o c l ∙ ap (λ (z : List Cell). for_output o l ++ z) (cond-true (eqb c.output o) (c ∷ []) [] (eq-eqb c.output o e))

first_push : (l k : List Cell) → some l ≡ true → (first (l ++ k) ≡ first l) × (some (l ++ k) ≡ true)
first_push [] k e = absurd (let z : ◌≡◌ {A = ℕ} 0 1 = cc in omega arith)
first_push (c ∷ l) k e = (refl, refl)

no_first : (l : List Cell) → some l ≡ false → l ≡ []
no_first [] e = refl
no_first (c ∷ l) e = absurd (let z : ◌≡◌ {A = ℕ} 0 1 = cc in omega arith)

-- a cell of a list stands where it stood when one is added at the end
ahead_push : (d c : Cell) (l : List Cell) → is_in d l ≡ true → ahead d (l ++ (c ∷ [])) ≡ ahead d l
unfolding ahead is_in
ahead_push d c [] h = absurd (let z : ◌≡◌ {A = ℕ} 0 1 = cc in omega arith)
ahead_push d c (x ∷ l) h =
    elim (cases_Bool (same d x)) [
      | inl e ↦ subst (λ w. cond w 0 (suc (ahead d (l ++ (c ∷ [])))) ≡ cond w 0 (suc (ahead d l))) (sym e) refl
      | inr e ↦ subst (λ w. cond w 0 (suc (ahead d (l ++ (c ∷ [])))) ≡ cond w 0 (suc (ahead d l))) (sym e) (ap suc (ahead_push d c l (subst (λ w. (w || is_in d l) ≡ true) e h)))
    ]

-- a cell that no cell before it equals stands behind all
ahead-new : (c : Cell) (l : List Cell) → same c c ≡ true → is_in c l ≡ false → ahead c (l ++ (c ∷ [])) ≡ length l
unfolding ahead is_in
ahead-new c [] r h = cond-true (same c c) 0 1 r
ahead-new c (x ∷ l) r h =
    let e : same c x ≡ false = or_left_false (same c x) (is_in c l) h in
    cond-false (same c x) 0 (suc (ahead c (l ++ (c ∷ [])))) e ∙ ap suc (ahead-new c l r (or_right_false (same c x) (is_in c l) h))
  where
    or_left_false : (a b : Bool) → (a || b) ≡ false → a ≡ false
    or_left_false true b h = h
    or_left_false false b h = refl

    or_right_false : (a b : Bool) → (a || b) ≡ false → b ≡ false
    or_right_false true b h = absurd (let z : ◌≡◌ {A = ℕ} 0 1 = cc in omega arith)
    or_right_false false b h = h

same_self : (c : Cell) → same c c ≡ true
unfolding same
same_self c = grind (arith, nat_tests)

-- no cell of a list that has none for an output is one for it
not_in : (o : ℕ) (c : Cell) (l : List Cell) → some (for_output o l) ≡ false → c.output ≡ o → is_in c l ≡ false
not_in o c l e f =
    elim (cases_Bool (is_in c l)) [
      | inl i ↦ absurd (let s = some_for o c l i f in let z : ◌≡◌ {A = ℕ} 0 1 = cc in omega arith)
      | inr i ↦ i
    ]

grown_own : (i : ℕ) (c : Cell) (ls : ℕ → List Cell) → grown i c ls i ≡ ls i ++ (c ∷ [])
grown_own i c ls = cond-true (eqb i i) (ls i ++ (c ∷ [])) (ls i) (eq-eqb i i refl)

grown_other : (i j : ℕ) (c : Cell) (ls : ℕ → List Cell) → (j ≡ i → ⊥) → grown i c ls j ≡ ls j
grown_other i j c ls ne = cond-false (eqb j i) (ls j ++ (c ∷ [])) (ls j) (ne_eqb j i ne)

-- what must be shown of input i alone, where a cell is added to its list
module _ (t u : Firsts) (ls : ℕ → List Cell) (i : ℕ) (c : Cell) (m : TableOf t ls) where
  pub grow : (length u.waiting ≡ 32) × (length u.slots ≡ 1024) × (length u.places ≡ 1024) →
      ((j o : ℕ) → (j ≡ i → ⊥) → is_set (get_or u.waiting o 0) j ≡ is_set (get_or t.waiting o 0) j) →
      ((j o : ℕ) → (j ≡ i → ⊥) → j < 32 → o < 32 → (get_or u.slots (o * 32 + j) 0 ≡ get_or t.slots (o * 32 + j) 0) × (get_or u.places (j * 32 + o) 0 ≡ get_or t.places (j * 32 + o) 0)) →
      ((o : ℕ) → is_set (get_or u.waiting o 0) i ≡ some (for_output o (ls i ++ (c ∷ [])))) →
      ((o : ℕ) (d : Cell) → i < 32 → o < 32 → first_for o (ls i ++ (c ∷ [])) ≡ Some d → (get_or u.slots (o * 32 + i) 0 ≡ d.slot) × (get_or u.places (i * 32 + o) 0 ≡ ahead d (ls i ++ (c ∷ [])))) →
      TableOf u (grown i c ls)
  grow l w x y z =
      record {
        long = l;
        waits = λ j o.
            elim (cases_eq j i) [
              | inl e ↦ subst (λ (k : ℕ). is_set (get_or u.waiting o 0) k ≡ some (for_output o (grown i c ls k))) (sym e) (y o ∙ ap (λ (q : List Cell). some (for_output o q)) (sym (grown_own i c ls)))
              | inr ne ↦ w j o ne ∙ (m.waits j o ∙ ap (λ (q : List Cell). some (for_output o q)) (sym (grown_other i j c ls ne)))
            ];
        slot = λ j o d h k f.
            elim (cases_eq j i) [
              | inl e ↦ subst (λ (p : ℕ). get_or u.slots (o * 32 + p) 0 ≡ d.slot) (sym e) (z o d (omega arith) k (ap (λ (q : List Cell). first_for o q) (sym (grown_own i c ls)) ∙ subst (λ (p : ℕ). first_for o (grown i c ls p) ≡ Some d) e f)).0
              | inr ne ↦ (x j o ne h k).0 ∙ m.slot j o d h k (ap (λ (q : List Cell). first_for o q) (sym (grown_other i j c ls ne)) ∙ f)
            ];
        place = λ j o d h k f.
            elim (cases_eq j i) [
              | inl e ↦ subst (λ (p : ℕ). get_or u.places (p * 32 + o) 0 ≡ ahead d (grown i c ls p)) (sym e) ((z o d (omega arith) k (ap (λ (q : List Cell). first_for o q) (sym (grown_own i c ls)) ∙ subst (λ (p : ℕ). first_for o (grown i c ls p) ≡ Some d) e f)).1 ∙ ap (λ (q : List Cell). ahead d q) (sym (grown_own i c ls)))
              | inr ne ↦ (x j o ne h k).1 ∙ (m.place j o d h k (ap (λ (q : List Cell). first_for o q) (sym (grown_other i j c ls ne)) ∙ f) ∙ ap (λ (q : List Cell). ahead d q) (sym (grown_other i j c ls ne)))
            ];
      }

-- a pair that is noted already
module _ (t : Firsts) (ls : ℕ → List Cell) (i : ℕ) (c : Cell) (m : TableOf t ls) where
  -- what is found first for an output that the list had
  kept_first : (o : ℕ) (d : Cell) → i < 32 → o < 32 → first_for o (ls i ++ (c ∷ [])) ≡ first_for o (ls i) → first_for o (ls i ++ (c ∷ [])) ≡ Some d → (get_or t.slots (o * 32 + i) 0 ≡ d.slot) × (get_or t.places (i * 32 + o) 0 ≡ ahead d (ls i ++ (c ∷ [])))
  kept_first o d h k s f =
      let g : first_for o (ls i) ≡ Some d = sym s ∙ f in
      (m.slot i o d h k g, m.place i o d h k g ∙ sym (ahead_push d c (ls i) (first_in o (ls i) d g).0))

  pub noted-before : is_set (get_or t.waiting c.output 0) i ≡ true → TableOf t (grown i c ls)
  noted-before e =
      let has : some (for_output c.output (ls i)) ≡ true = sym (m.waits i c.output) ∙ e in
      grow t t ls i c m m.long (λ j o ne. refl) (λ j o ne h k. (refl, refl))
      (λ o.
      elim (cases_eq c.output o) [
        | inl q ↦ subst (λ (p : ℕ). is_set (get_or t.waiting p 0) i ≡ some (for_output p (ls i ++ (c ∷ [])))) q (e ∙ sym (ap (λ (z : List Cell). some z) (for_own c.output c (ls i) refl) ∙ (first_push (for_output c.output (ls i)) (c ∷ []) has).1))
        | inr ne ↦ m.waits i o ∙ ap (λ (z : List Cell). some z) (sym (for_other o c (ls i) ne))
      ])
      (λ o d h k f.
      elim (cases_eq c.output o) [
        | inl q ↦ kept_first o d h k (subst (λ (p : ℕ). first_for p (ls i ++ (c ∷ [])) ≡ first_for p (ls i)) q (ap (λ (z : List Cell). first z) (for_own c.output c (ls i) refl) ∙ (first_push (for_output c.output (ls i)) (c ∷ []) has).0)) f
        | inr ne ↦ kept_first o d h k (ap (λ (z : List Cell). first z) (for_other o c (ls i) ne)) f
      ])

-- a pair that is noted now
module _ (t : Firsts) (ls : ℕ → List Cell) (i : ℕ) (c : Cell) (m : TableOf t ls) (hi : i < 32) (ho : c.output < 32) where
  pub noted-now : (bits k : ℕ) → is_set (get_or t.waiting c.output 0) i ≡ false → ((j : ℕ) → is_set bits j ≡ (eqb j i || is_set (get_or t.waiting c.output 0) j)) → k ≡ length (ls i) → TableOf (record { waiting = set t.waiting c.output bits; slots = set t.slots (c.output * 32 + i) c.slot; places = set t.places (i * 32 + c.output) k }) (grown i c ls)
  noted-now bits k e w p =
      let none : some (for_output c.output (ls i)) ≡ false = sym (m.waits i c.output) ∙ e in
      let empty : for_output c.output (ls i) ≡ [] = no_first (for_output c.output (ls i)) none in
      let own : for_output c.output (ls i ++ (c ∷ [])) ≡ c ∷ [] = for_own c.output c (ls i) refl ∙ ap (λ (z : List Cell). z ++ (c ∷ [])) empty in
      let lw = m.long.0 in
      let lsl = m.long.1 in
      let lp = m.long.2 in
      grow t _ ls i c m (length-set t.waiting c.output bits ∙ lw, length-set t.slots (c.output * 32 + i) c.slot ∙ lsl, length-set t.places (i * 32 + c.output) k ∙ lp)
      (λ j o ne.
      elim (cases_eq o c.output) [
        | inl q ↦ subst (λ (z : ℕ). is_set (get_or (set t.waiting c.output bits) z 0) j ≡ is_set (get_or t.waiting z 0) j) (sym q) (ap (λ (x : ℕ). is_set x j) (get_or-set_same t.waiting c.output bits 0 (omega arith)) ∙ (w j ∙ ap (λ (z : Bool). z || is_set (get_or t.waiting c.output 0) j) (ne_eqb j i ne)))
        | inr n ↦ ap (λ (x : ℕ). is_set x j) (get_or-set_other t.waiting c.output o bits 0 n)
      ])
      (λ j o ne h l. (get_or-set_other t.slots (c.output * 32 + i) (o * 32 + j) c.slot 0 (λ z. ne (omega arith)), get_or-set_other t.places (i * 32 + c.output) (j * 32 + o) k 0 (λ z. ne (omega arith))))
      (λ o.
      elim (cases_eq o c.output) [
        | inl q ↦ subst (λ (z : ℕ). is_set (get_or (set t.waiting c.output bits) z 0) i ≡ some (for_output z (ls i ++ (c ∷ [])))) (sym q) (ap (λ (x : ℕ). is_set x i) (get_or-set_same t.waiting c.output bits 0 (omega arith)) ∙ (w i ∙ (ap (λ (z : Bool). z || is_set (get_or t.waiting c.output 0) i) (eq-eqb i i refl) ∙ ap (λ (z : List Cell). some z) (sym own))))
        | inr n ↦ ap (λ (x : ℕ). is_set x i) (get_or-set_other t.waiting c.output o bits 0 n) ∙ (m.waits i o ∙ ap (λ (z : List Cell). some z) (sym (for_other o c (ls i) (λ z. n (sym z)))))
      ])
      (λ o d h l f.
      elim (cases_eq o c.output) [
        | inl q ↦
            let g : ◌≡◌ {A = Option Cell} (Some c) (Some d) = sym (ap (λ (z : List Cell). first z) own) ∙ subst (λ (z : ℕ). first_for z (ls i ++ (c ∷ [])) ≡ Some d) q f in
            let cd : c ≡ d = cc in (
              ap (λ (z : ℕ). get_or (set t.slots (c.output * 32 + i) c.slot) (z * 32 + i) 0) q ∙ (get_or-set_same t.slots (c.output * 32 + i) c.slot 0 (omega arith) ∙ ap (λ (z : Cell). z.slot) cd),
              ap (λ (z : ℕ). get_or (set t.places (i * 32 + c.output) k) (i * 32 + z) 0) q ∙ (get_or-set_same t.places (i * 32 + c.output) k 0 (omega arith) ∙ (p ∙ (sym (ahead-new c (ls i) (same_self c) (not_in c.output c (ls i) none refl)) ∙ ap (λ (z : Cell). ahead z (ls i ++ (c ∷ []))) cd))),
            )
        | inr n ↦
            let g : first_for o (ls i) ≡ Some d = ap (λ (z : List Cell). first z) (sym (for_other o c (ls i) (λ z. n (sym z)))) ∙ f in (
              get_or-set_other t.slots (c.output * 32 + i) (o * 32 + i) c.slot 0 (λ z. n (omega arith)) ∙ m.slot i o d h l g,
              get_or-set_other t.places (i * 32 + c.output) (i * 32 + o) k 0 (λ z. n (omega arith)) ∙ (m.place i o d h l g ∙ sym (ahead_push d c (ls i) (first_in o (ls i) d g).0)),
            )
      ])

-- the table of all lists of a box ties to it
pub table_ties : (t : Firsts) (n : ℕ) (b : Box) → n ≤ 32 → WellPlaced n b → InOrder b → TableOf t b.waiting → Ties t n b
table_ties t n b few placed order m =
    record {
      placed = placed;
      order = order;
      waits = m.waits;
      slot = λ i o c f. let w = below i o c f in m.slot i o c (omega (arith, w.0)) (omega (arith, w.1)) f;
      place = λ i o c f. let w = below i o c f in m.place i o c (omega (arith, w.0)) (omega (arith, w.1)) f;
    }
  where
    below : (i o : ℕ) (c : Cell) → first_for o (b.waiting i) ≡ Some c → (i < n) × (o < n)
    below i o c f =
        let q = first_in o (b.waiting i) c f in
        let p = placed i c q.0 in
        (p.1, subst (λ (z : ℕ). z < n) q.1 p.2)

pub zero_at : (n o : ℕ) → ◌≡◌ {A = ℕ} (get_or (replicate n 0) o 0) 0
zero_at zero o = refl
zero_at (suc n) zero = refl
zero_at (suc n) (suc o) = zero_at n o
