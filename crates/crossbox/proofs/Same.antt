-- The box has the cells of the ideal queue, and the first of the queue is the earliest in the store.
use Rattle.std.proofs.Common.{◌≡◌, ℕ, zero, suc, ◌+◌, ◌<◌, Bool, true, false, cond, ◌&&◌, ◌||◌, eqb, ltb, ◌⊎◌, List, [], ◌∷◌, ◌++◌, length, Some, sym, refl, ap, ◌∙◌, subst, inl, inr, append-nil, arith}
use Rattle.std.proofs.lemmas.Bool.{cases_Bool, or_cases, or_left, and_parts, eqb-true}
use Rattle.std.proofs.lemmas.Bool.Decides.{nat_tests}
use Rattle.crossbox.specs.declared.Arrival.{Arrival}
use Rattle.crossbox.specs.declared.Arrival.TheVariants.{Nothing, For}
use Rattle.crossbox.specs.declared.Cell.{Cell}
use Rattle.crossbox.specs.Cells.{Arrivals, earlier, same, is_in}
use Rattle.crossbox.specs.Ideal.{admit, admitted, cells_for, first, rest}
use Rattle.crossbox.specs.Box.{Box, Stable, taken, taken_for, room_for, arriving, transfer, depart, departs, held_for}
use Rattle.crossbox.specs.Shape.{leads, rises}
use Rattle.crossbox.specs.Slack.{Slack}
use Rattle.crossbox.proofs.Cells.{same_eq, same_refl, same_sym, same_output, same_input, same_slot, earlier-not, earlier_differs}
use Rattle.crossbox.proofs.Lists.{is_in-append, is_in-put_at, is_in-without_all, count-some}
use Rattle.crossbox.proofs.Stores.{leads_in, earliest-first, depart_drops, is_in-behind}
use Rattle.crossbox.proofs.Shape.{Placed, none-is_in, went}
use Rattle.crossbox.proofs.Held.{admitted-length}

-- the cells of q are those that stand in the store of o or wait for o
abbrev pub SameCells : List Cell → ℕ → Box → Type 0
SameCells q o b =
    (c : Cell) → is_in c q ≡ (is_in c (b.store o) || (is_in c (b.waiting c.input) && eqb c.output o))

-- arrivals

is_in-cells_for : (c : Cell) (t i o : ℕ) (x : Arrival) → is_in c (cells_for t i o x) ≡ true → (c.slot ≡ t) × (c.input ≡ i) × (c.output ≡ o)
unfolding is_in
is_in-cells_for c t i o Nothing h = absurd (grind arith)
is_in-cells_for c t i o (For p) h =
    let e : Cell = record { slot = t; input = i; output = p } in
    let u = same_slot c e in
    let v = same_input c e in
    let w = same_output c e in
    (grind (arith, u), grind (arith, v), grind (arith, nat_tests, w))

is_in-admit : (c : Cell) (room : ℕ) (cs q : List Cell) → is_in c (admit room cs q) ≡ (is_in c q || (ltb (length q) room && is_in c cs))
is_in-admit c room cs q = let i = is_in-append c q cs in grind (arith, i)

-- the cell has been admitted by now
abbrev now_in : ℕ → ℕ → ℕ → Arrivals → List Cell → Cell → Bool
now_in room t o a q c =
    ltb (length (admitted room c.input t o a q)) room && is_in c (cells_for t c.input o (a c.input))

is_in-admitted : (room k t o : ℕ) (a : Arrivals) (q : List Cell) (c : Cell) → is_in c (admitted room k t o a q) ≡ (is_in c q || (ltb c.input k && now_in room t o a q c))
unfolding admitted
is_in-admitted room zero t o a q c = grind (arith, nat_tests)
is_in-admitted room (suc k) t o a q c =
    let ih = is_in-admitted room k t o a q c in
    let r = admitted room k t o a q in
    let s = is_in-admit c room (cells_for t k o (a k)) r in
    let at : ℕ → Bool = λ z. ltb (length (admitted room z t o a q)) room && is_in c (cells_for t z o (a z)) in
    let here : c.input ≡ k → at c.input ≡ at k = λ e. ap at e in
    let there = is_in-cells_for c t k o (a k) in
    grind (arith, nat_tests, ih, s, here, there)

taken-cells : (room n t o i : ℕ) (a : Arrivals) (b : Box) (x : Arrival) (turn : Bool) (c : Cell) → (is_in c (cond (turn && room_for room n i a b x) (taken t i x b) (b.waiting i)) && eqb c.output o) ≡ ((is_in c (b.waiting i) && eqb c.output o) || (turn && (ltb (held_for n o b + taken_for room (held_for n o b) o a i) room && is_in c (cells_for t i o x))))
unfolding is_in
taken-cells room n t o i a b x false c = grind arith
taken-cells room n t o i a b Nothing true c = grind arith
taken-cells room n t o i a b (For p) true c =
    let e : Cell = record { slot = t; input = i; output = p } in
    let f = is_in-put_at c (length (b.store p)) e (b.waiting i) in
    let test : ℕ → Bool = λ z. ltb (held_for n z b + taken_for room (held_for n z b) z a i) room in
    let g : eqb p o ≡ true → test p ≡ test o = λ h. ap test (eqb-true p o h) in
    let s : same c e ≡ true → eqb c.output o ≡ eqb p o = λ h. ap (λ z. eqb z o) (same_output c e h) in
    grind (arith, f, g, s)

pub same-arriving : (k room n t o : ℕ) (a : Arrivals) (b : Box) (q : List Cell) → held_for n o b ≡ length q → SameCells q o b → SameCells (admitted room k t o a q) o (arriving k room n t a b)
same-arriving k room n t o a b q e s c =
    let i = c.input in
    let x = is_in-admitted room k t o a q c in
    let y = taken-cells room n t o i a b (a i) (ltb i k) c in
    let l = admitted-length room i t o a q in
    let z : ltb (held_for n o b + taken_for room (held_for n o b) o a i) room ≡ ltb (length (admitted room i t o a q)) room =
    ap (λ h. ltb (h + taken_for room h o a i) room) e ∙ ap (λ h. ltb h room) (sym l) in
    let w = s c in
    grind (arith, x, y, z, w)

leads_push : (c e : Cell) (l : List Cell) → leads c l ≡ true → earlier c e ≡ true → leads c (l ++ e ∷ []) ≡ true
unfolding leads
leads_push c e [] h g = grind arith
leads_push c e (d ∷ l) h g = let ih = leads_push c e l in grind (arith, ih)

rises_push : (e : Cell) (l : List Cell) → rises l ≡ true → ((c : Cell) → is_in c l ≡ true → earlier c e ≡ true) → rises (l ++ e ∷ []) ≡ true
unfolding rises leads is_in
rises_push e [] h f = refl
rises_push e (d ∷ l) h f =
    let s = same_refl d in
    let ih = rises_push e l (grind arith) (λ c g. f c (grind arith)) in
    let d-e : earlier d e ≡ true = f d (grind (arith, s)) in
    let p = leads_push d e l in
    grind (arith, ih, p)

rises-admit : (room t i o : ℕ) (x : Arrival) (q : List Cell) → rises q ≡ true → ((c e : Cell) → is_in c q ≡ true → e.slot ≡ t → e.input ≡ i → earlier c e ≡ true) → rises (admit room (cells_for t i o x) q) ≡ true
rises-admit room t i o x q h f =
    elim (cases_Bool (ltb (length q) room)) [
      | inl l ↦ subst (λ z. rises (cond z (q ++ cells_for t i o x) q) ≡ true) (sym l) (onto t i o x q h f)
      | inr l ↦ subst (λ z. rises (cond z (q ++ cells_for t i o x) q) ≡ true) (sym l) h
    ]
  where
    onto : (t i o : ℕ) (x : Arrival) (q : List Cell) → rises q ≡ true → ((c e : Cell) → is_in c q ≡ true → e.slot ≡ t → e.input ≡ i → earlier c e ≡ true) → rises (q ++ cells_for t i o x) ≡ true
    onto t i o Nothing q h f = subst (λ z. rises z ≡ true) (sym (append-nil q)) h
    onto t i o (For p) q h f =
        let e : Cell = record { slot = t; input = i; output = p } in
        elim (cases_Bool (eqb p o)) [
          | inl y ↦ subst (λ z. rises (q ++ cond z (e ∷ []) []) ≡ true) (sym y) (rises_push e q h (λ c g. f c e g refl refl))
          | inr y ↦ subst (λ z. rises (q ++ cond z (e ∷ []) []) ≡ true) (sym y) (subst (λ z. rises z ≡ true) (sym (append-nil q)) h)
        ]

-- what arrived before, or in this slot by a smaller input, is earlier
before-new : (c e : Cell) (t k : ℕ) → e.slot ≡ t → e.input ≡ k → (c.slot < t) ⊎ ((c.slot ≡ t) × (c.input < k)) → earlier c e ≡ true
unfolding earlier
before-new c e t k p q h = grind (arith, nat_tests)

-- the ideal queue rises
pub rises-admitted : (room k t o : ℕ) (a : Arrivals) (q : List Cell) → rises q ≡ true → ((c : Cell) → is_in c q ≡ true → c.slot < t) → rises (admitted room k t o a q) ≡ true
unfolding admitted
rises-admitted room zero t o a q h f = h
rises-admitted room (suc k) t o a q h f =
    rises-admit room t k o (a k) (admitted room k t o a q) (rises-admitted room k t o a q h f) (λ c e g s i.
    let x = is_in-admitted room k t o a q c in
    let y = f c in
    let z = is_in-cells_for c t c.input o (a c.input) in
    before-new c e t k s i (grind (arith, nat_tests, x, y, z)))

-- transfers

pub same-transfer : (o : ℕ) (b : Box) (ms q : List Cell) → Stable b ms → SameCells q o b → SameCells q o (transfer ms b)
same-transfer o b ms q st s c =
    let x = s c in
    let w = went c o ms (b.store o) in
    let y = is_in-without_all c ms (b.waiting c.input) in
    let z = st.waits c in
    grind (arith, x, w, y, z)

-- departures

-- what is first in the queue stands in the store: were it to wait, an earlier one would stand there
first-stands : (n t j o : ℕ) (b : Box) (h : Cell) (q : List Cell) → Placed n t b → Slack (suc j) b → rises (h ∷ q) ≡ true → SameCells (h ∷ q) o b → is_in h (b.store o) ≡ true
unfolding is_in rises
first-stands n t j o b h q p s r e =
    let me : is_in h (h ∷ q) ≡ true = (let u = same_refl h in grind (arith, u)) in
    elim (or_cases (is_in h (b.store o)) (is_in h (b.waiting h.input) && eqb h.output o) (sym (e h) ∙ me)) [
      | inl x ↦ x
      | inr x ↦
          absurd
          (let y = and_parts (is_in h (b.waiting h.input)) (eqb h.output o) x in
          let f = s h y.0 in
          let d = count-some h (b.store h.output) (omega arith) in
          let d-in : is_in d.0 (b.store o) ≡ true = subst (λ z. is_in d.0 (b.store z) ≡ true) (eqb-true h.output o y.1) d.1 in
          let d-q = e d.0 in
          let l = leads_in h d.0 q in
          let a = earlier-not d.0 h d.2 in
          let v = earlier_differs d.0 h d.2 in
          grind (arith, d-in, d-q, l, a, v))
    ]

-- two lists that rise have one first cell, where the one is in the other, and has its first
first-same : (s q : List Cell) → rises s ≡ true → rises q ≡ true → ((c : Cell) → is_in c s ≡ true → is_in c q ≡ true) → ((h : Cell) → first q ≡ Some h → is_in h s ≡ true) → first s ≡ first q
unfolding is_in rises
first-same [] [] u v f g = refl
first-same [] (h ∷ q) u v f g = absurd (none-is_in h (g h refl))
first-same (e ∷ s) [] u v f g = absurd (none-is_in e (f e (let x = same_refl e in grind (arith, x))))
first-same (e ∷ s) (h ∷ q) u v f g =
    let x : (same e h || is_in e q) ≡ true = f e (let x = same_refl e in grind (arith, x)) in
    let y : (same h e || is_in h s) ≡ true = g h refl in
    let l = leads_in h e q in
    let m = leads_in e h s in
    let k = earlier-not e h in
    let w = same_sym e h in
    ap (λ z. Some z) (same_eq e h (grind (arith, x, y, l, m, k, w)))

pub first-departs : (n t j o : ℕ) (b : Box) (q : List Cell) → Placed n t b → Slack (suc j) b → rises q ≡ true → SameCells q o b → first (b.store o) ≡ first q
first-departs n t j o b q p s r e =
    first-same (b.store o) q (p.rising o) r (λ c h. e c ∙ or_left (is_in c (b.store o)) (is_in c (b.waiting c.input) && eqb c.output o) h) (stands q r e)
  where
    stands : (q : List Cell) → rises q ≡ true → SameCells q o b → (h : Cell) → first q ≡ Some h → is_in h (b.store o) ≡ true
    stands [] r e h x = absurd (let z : ◌≡◌ {A = ℕ} 0 1 = cc in omega arith)
    stands (c ∷ q) r e h x =
        let y : c ≡ h = cc in
        subst (λ z. is_in z (b.store o) ≡ true) y (first-stands n t j o b c q p s r e)

-- the earliest cell in the store is the first of the queue
pub same-departs : (n t j o : ℕ) (b : Box) (q : List Cell) → Placed n t b → Slack (suc j) b → rises q ≡ true → SameCells q o b → departs o b ≡ first q
same-departs n t j o b q p s r e = earliest-first (b.store o) (p.rising o) ∙ first-departs n t j o b q p s r e

same_rest : (c : Cell) (w : Bool) (s q : List Cell) → rises s ≡ true → rises q ≡ true → first s ≡ first q → is_in c q ≡ (is_in c s || w) → (is_in c s ≡ true → w ≡ false) → is_in c (rest q) ≡ (is_in c (rest s) || w)
unfolding is_in
same_rest c w [] [] u v f e g = e
same_rest c w [] (h ∷ q) u v f e g = absurd (let z : ◌≡◌ {A = ℕ} 0 1 = cc in omega arith)
same_rest c w (d ∷ s) [] u v f e g = absurd (let z : ◌≡◌ {A = ℕ} 0 1 = cc in omega arith)
same_rest c w (d ∷ s) (h ∷ q) u v f e g =
    let k : d ≡ h = cc in
    let x = is_in-behind c d s u in
    let y = is_in-behind c h q v in
    let z : same c d ≡ same c h = ap (λ m. same c m) k in
    grind (arith, x, y, z, e, g)

pub same-depart : (n t j o : ℕ) (b : Box) (q : List Cell) → Placed n t b → Slack (suc j) b → rises q ≡ true → SameCells q o b → SameCells (rest q) o (depart b)
same-depart n t j o b q p s r e c =
    let w = is_in c (b.waiting c.input) && eqb c.output o in
    let a = p.apart c.input o c in
    let x = same_rest c w (b.store o) q (p.rising o) r (first-departs n t j o b q p s r e) (e c) (λ h. grind (arith, a)) in
    x ∙ ap (λ l. is_in c l || w) (sym (depart_drops (b.store o) (p.rising o)))
