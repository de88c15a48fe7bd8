-- How many cells the box holds for an output, through the steps of a slot, and how long the ideal queue is.
use Rattle.std.proofs.Common.{◌≡◌, ℕ, zero, suc, ◌+◌, ◌≤◌, Bool, true, false, cond, ◌&&◌, eqb, ltb, ◌⊎◌, List, [], ◌∷◌, length, sym, refl, ap, ◌∙◌, subst, inl, inr, arith, length-append}
use Rattle.std.proofs.lemmas.Bool.{cases_Bool, cases_lt, eqb-true, eq-eqb, lt-ltb, le-ltb, both_ways}
use Rattle.std.proofs.lemmas.Bool.Decides.{nat_tests}
use Rattle.crossbox.specs.declared.Arrival.{Arrival}
use Rattle.crossbox.specs.declared.Arrival.TheVariants.{Nothing, For}
use Rattle.crossbox.specs.declared.Cell.{Cell}
use Rattle.crossbox.specs.Cells.{Arrivals, same, is_in}
use Rattle.crossbox.specs.Ideal.{admit, admitted, cells_for, rest, queue}
use Rattle.crossbox.specs.Box.{Box, Stable, put_at, taken, taken_for, one_if, room_for, arriving, transfer, depart, without_all, slip_all, for_output, held_for, one_each}
use Rattle.crossbox.specs.Slack.{Slack}
use Rattle.crossbox.proofs.Cells.{same_output}
use Rattle.crossbox.proofs.Lists.{is_in-same, is_in-for_output, distinct, none_in, count_le}
use Rattle.crossbox.proofs.Stores.{length-slip, depart_drops}
use Rattle.crossbox.proofs.Choices.{one_output_lem, at_most_one}
use Rattle.crossbox.proofs.Shape.{Placed}

-- 1 for what is so, 0 for what is not
abbrev tally : Bool → ℕ
tally x = cond x 1 0

-- the ideal queue

admit-length : (room t i o : ℕ) (x : Arrival) (q : List Cell) → length (admit room (cells_for t i o x) q) ≡ length q + one_if o x (ltb (length q) room)
admit-length room t i o Nothing q = let l = length-append q [] in grind (arith, l)
admit-length room t i o (For p) q =
    let c : Cell = record { slot = t; input = i; output = p } in
    let l = length-append q (c ∷ []) in
    let m = length-append q [] in
    grind (arith, l, m)

pub admitted-length : (room k t o : ℕ) (a : Arrivals) (q : List Cell) → length (admitted room k t o a q) ≡ length q + taken_for room (length q) o a k
unfolding admitted taken_for
admitted-length room zero t o a q = omega arith
admitted-length room (suc k) t o a q =
    let ih = admitted-length room k t o a q in
    let s = admit-length room t k o (a k) (admitted room k t o a q) in
    let e = ap (λ z. one_if o (a k) (ltb z room)) ih in
    omega arith

admit_room : (room t i o : ℕ) (x : Arrival) (q : List Cell) → length q ≤ room → length (admit room (cells_for t i o x) q) ≤ room
admit_room room t i o Nothing q h = let l = length-append q [] in grind (arith, l)
admit_room room t i o (For p) q h =
    let c : Cell = record { slot = t; input = i; output = p } in
    let l = length-append q (c ∷ []) in
    let m = length-append q [] in
    grind (arith, nat_tests, l, m)

pub admitted_room : (room k t o : ℕ) (a : Arrivals) (q : List Cell) → length q ≤ room → length (admitted room k t o a q) ≤ room
unfolding admitted
admitted_room room zero t o a q h = h
admitted_room room (suc k) t o a q h = admit_room room t k o (a k) (admitted room k t o a q) (admitted_room room k t o a q h)

-- a queue is empty, or one longer than without its first
pub rest-length : (q : List Cell) → ((length q ≡ 0) × (length (rest q) ≡ 0)) ⊎ (length q ≡ suc (length (rest q)))
rest-length [] = inl (refl, refl)
rest-length (c ∷ q) = inr refl

pub queue_room : (room n o : ℕ) (past : List Arrivals) → length (queue room n o past) ≤ room
unfolding queue
queue_room room n o [] = grind arith
queue_room room n o (a ∷ past) =
    let q = admitted room n (length past) o a (queue room n o past) in
    let h = admitted_room room n (length past) o a (queue room n o past) (queue_room room n o past) in
    elim (rest-length q) [ inl e ↦ omega (arith, e.1) | inr e ↦ omega arith ]

-- arrivals

for_output-put_at : (o k : ℕ) (e : Cell) (l : List Cell) → length (for_output o (put_at k e l)) ≡ length (for_output o l) + tally (eqb e.output o)
unfolding for_output put_at
for_output-put_at o zero e l = grind arith
for_output-put_at o (suc k) e [] = grind arith
for_output-put_at o (suc k) e (d ∷ l) = let ih = for_output-put_at o k e l in grind (arith, ih)

-- how many of what arrives by input i are taken for output o, if its turn has come
abbrev more : ℕ → ℕ → ℕ → ℕ → Arrivals → Box → Arrival → Bool → ℕ
more room n o i a b x turn =
    cond turn (one_if o x (ltb (held_for n o b + taken_for room (held_for n o b) o a i) room)) 0

taken-length : (room n t o i : ℕ) (a : Arrivals) (b : Box) (x : Arrival) (turn : Bool) → length (for_output o (cond (turn && room_for room n i a b x) (taken t i x b) (b.waiting i))) ≡ length (for_output o (b.waiting i)) + more room n o i a b x turn
taken-length room n t o i a b x false = omega arith
taken-length room n t o i a b Nothing true = omega arith
taken-length room n t o i a b (For p) true =
    let e : Cell = record { slot = t; input = i; output = p } in
    let f = for_output-put_at o (length (b.store p)) e (b.waiting i) in
    let test : ℕ → Bool = λ z. ltb (held_for n z b + taken_for room (held_for n z b) z a i) room in
    let g : eqb p o ≡ true → test p ≡ test o = λ h. ap test (eqb-true p o h) in
    grind (arith, f, g)

held_below : (k room n t o : ℕ) (a : Arrivals) (b : Box) (j : ℕ) → j ≤ k → held_for j o (arriving k room n t a b) ≡ held_for j o b + taken_for room (held_for n o b) o a j
unfolding held_for taken_for
held_below k room n t o a b zero h = omega arith
held_below k room n t o a b (suc j) h =
    let ih = held_below k room n t o a b j (omega arith) in
    let s = taken-length room n t o j a b (a j) (ltb j k) in
    let e = ap (λ z. more room n o j a b (a j) z) (lt-ltb j k (omega arith)) in
    omega arith

pub held-arriving : (k room n t o : ℕ) (a : Arrivals) (b : Box) (j : ℕ) → k ≤ j → held_for j o (arriving k room n t a b) ≡ held_for j o b + taken_for room (held_for n o b) o a k
unfolding held_for
held-arriving k room n t o a b zero h =
    let e : k ≡ 0 = omega arith in
    subst (λ z. held_for zero o (arriving z room n t a b) ≡ held_for zero o b + taken_for room (held_for n o b) o a z) (sym e) (held_below 0 room n t o a b 0 (omega arith))
held-arriving k room n t o a b (suc j) h =
    elim (cases_lt j k) [
      | inl lt ↦
          (let e : k ≡ suc j = omega arith in
          subst (λ z. held_for (suc j) o (arriving k room n t a b) ≡ held_for (suc j) o b + taken_for room (held_for n o b) o a z) (sym e) (held_below k room n t o a b (suc j) (omega arith)))
      | inr le ↦
          (let ih = held-arriving k room n t o a b j le in
          let s = taken-length room n t o j a b (a j) (ltb j k) in
          let e = ap (λ z. more room n o j a b (a j) z) (le-ltb j k le) in
          omega arith)
    ]

-- transfers

kept_none : (o : ℕ) (ms l : List Cell) → for_output o ms ≡ [] → length (for_output o (without_all ms l)) ≡ length (for_output o l)
unfolding for_output without_all is_in
kept_none o ms [] e = refl
kept_none o ms (d ∷ l) e =
    let ih = kept_none o ms l e in
    let i = is_in-for_output d o ms in
    let z : is_in d (for_output o ms) ≡ false = ap (λ z. is_in d z) e in
    grind (arith, ih, i, z)

kept_one : (o : ℕ) (m : Cell) (ms l : List Cell) → one_each ms ≡ true → is_in m ms ≡ true → m.output ≡ o → distinct l ≡ true → length (for_output o (without_all ms l)) + tally (is_in m l) ≡ length (for_output o l)
unfolding for_output without_all is_in distinct
kept_one o m ms [] u h p g = refl
kept_one o m ms (d ∷ l) u h p g =
    let ih = kept_one o m ms l u h p (grind arith) in
    let one : is_in d ms ≡ true → m.output ≡ d.output → same m d ≡ true = one_output_lem m d ms u h in
    let i = is_in-same m d ms in
    let j = is_in-same m d l in
    let q = same_output m d in
    grind (arith, nat_tests, ih, one, i, j, q)

held_kept : (k o : ℕ) (b : Box) (ms : List Cell) → for_output o ms ≡ [] → held_for k o (transfer ms b) ≡ held_for k o b
unfolding held_for slip_all
held_kept zero o b ms e = ap (λ l. length (slip_all l (b.store o))) e
held_kept (suc k) o b ms e =
    let ih = held_kept k o b ms e in
    let l = kept_none o ms (b.waiting k) e in
    omega arith

-- a chosen cell waits at its input alone
waits_there : (n t : ℕ) (b : Box) → Placed n t b → (m : Cell) → is_in m (b.waiting m.input) ≡ true → (k : ℕ) → is_in m (b.waiting k) ≡ eqb m.input k
waits_there n t b p m h k =
    elim (cases_Bool (eqb m.input k)) [
      | inl e ↦ ap (λ z. is_in m (b.waiting z)) (sym (eqb-true m.input k e)) ∙ (h ∙ sym e)
      | inr e ↦
          elim (cases_Bool (is_in m (b.waiting k))) [
            | inl w ↦ absurd (both_ways (eqb m.input k) e (eq-eqb m.input k (p.waits k m w).0))
            | inr w ↦ w ∙ sym e
          ]
    ]

held_moved : (n t k o : ℕ) (b : Box) (ms : List Cell) → Placed n t b → Stable b ms → (m : Cell) → is_in m ms ≡ true → m.output ≡ o → for_output o ms ≡ m ∷ [] → held_for k o (transfer ms b) + tally (ltb m.input k) ≡ held_for k o b + 1
unfolding held_for slip_all
held_moved n t zero o b ms p st m h q e =
    let s = ap (λ l. length (slip_all l (b.store o))) e in
    let l = length-slip m (b.store o) in
    grind (arith, nat_tests, s, l)
held_moved n t (suc k) o b ms p st m h q e =
    let ih = held_moved n t k o b ms p st m h q e in
    let l = kept_one o m ms (b.waiting k) st.single h q (p.once k) in
    let w = waits_there n t b p m (st.waits m h) k in
    grind (arith, nat_tests, ih, l, w)

-- a stable choice goes from lists to stores, and the box holds as many
pub held-transfer : (n t o : ℕ) (b : Box) (ms : List Cell) → Placed n t b → Stable b ms → held_for n o (transfer ms b) ≡ held_for n o b
held-transfer n t o b ms p st =
    elim (at_most_one o ms st.single) [
      | inl e ↦ held_kept n o b ms e
      | inr x ↦
          (let m = x.0 in
          let h = held_moved n t n o b ms p st m x.1 x.2 x.3 in
          let w = (p.waits m.input m (st.waits m x.1)).1 in
          let e = ap tally (lt-ltb m.input n w) in
          omega arith)
    ]

-- departures

held-depart-sum : (n t k o : ℕ) (b : Box) → Placed n t b → held_for k o (depart b) + length (b.store o) ≡ held_for k o b + length (rest (b.store o))
unfolding held_for
held-depart-sum n t zero o b p =
    let e = ap (λ (l : List Cell). length l) (depart_drops (b.store o) (p.rising o)) in
    omega arith
held-depart-sum n t (suc k) o b p = let ih = held-depart-sum n t k o b p in omega arith

pub store_held : (k o : ℕ) (b : Box) → length (b.store o) ≤ held_for k o b
unfolding held_for
store_held zero o b = omega arith
store_held (suc k) o b = let ih = store_held k o b in omega arith

-- with slack, nothing waits for an output whose store is empty
held_none : (n t k j o : ℕ) (b : Box) → Placed n t b → Slack (suc j) b → length (b.store o) ≡ 0 → held_for k o b ≡ 0
unfolding held_for
held_none n t zero j o b p s e = e
held_none n t (suc k) j o b p s e =
    let ih = held_none n t k j o b p s e in
    let l = none_in o (b.waiting k) (λ c h q.
    let w : is_in c (b.waiting c.input) ≡ true = subst (λ z. is_in c (b.waiting z) ≡ true) (sym (p.waits k c h).0) h in
    let f = s c w in
    let g = count_le c (b.store c.output) in
    let r = ap (λ z. length (b.store z)) q in
    omega arith) in
    omega arith

-- departing takes one from the box as from a queue with as many
pub held-depart : (n t j o : ℕ) (b : Box) (q : List Cell) → Placed n t b → Slack (suc j) b → held_for n o b ≡ length q → held_for n o (depart b) ≡ length (rest q)
held-depart n t j o b q p s e =
    let sum = held-depart-sum n t n o b p in
    let le = store_held n o b in
    let z = held_none n t n j o b p s in
    let x = rest-length (b.store o) in
    let y = rest-length q in
    grind (arith, sum, le, z, x, y)
