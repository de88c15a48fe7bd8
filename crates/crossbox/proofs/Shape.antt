-- The shape of a box, and that each step of a slot keeps it.
use Rattle.std.proofs.Common.{◌≡◌, ℕ, suc, ◌<◌, ◌≤◌, Bool, true, false, cond, ◌&&◌, ◌||◌, eqb, ltb, ◌⊎◌, List, [], ◌∷◌, length, sym, refl, ap, ◌∙◌, subst, inl, inr, arith}
use Rattle.std.proofs.lemmas.Bool.{cases_Bool, or_cases, and_parts, ltb-true, eqb-true, both_ways}
use Rattle.crossbox.specs.declared.Arrival.{Arrival}
use Rattle.crossbox.specs.declared.Arrival.TheVariants.{Nothing, For}
use Rattle.crossbox.specs.declared.Cell.{Cell}
use Rattle.crossbox.specs.Cells.{Arrivals, same, is_in}
use Rattle.crossbox.specs.Ideal.{rest}
use Rattle.crossbox.specs.Box.{Box, Stable, empty, taken, arriving, room_for, transfer, depart, slip_all, for_output}
use Rattle.crossbox.specs.Shape.{Rising, rises}
use Rattle.crossbox.specs.Promise.{Fits}
use Rattle.crossbox.proofs.Cells.{same_eq}
use Rattle.crossbox.proofs.Lists.{is_in-put_at, is_in-for_output, distinct, distinct-put_at, distinct-without_all}
use Rattle.crossbox.proofs.Stores.{is_in-slip_all, depart_drops, rises-slip, rises-rest}
use Rattle.crossbox.proofs.Choices.{at_most_one}
use Rattle.crossbox.proofs.Slack.{stayed}

-- in slot t: cells wait at their inputs and stand at their outputs, all arrived before, no cell at two places, and stores rise
pub record Placed (n t : ℕ) (b : Box) : Type 0 where
  pub waits : (i : ℕ) (c : Cell) → is_in c (b.waiting i) ≡ true → (c.input ≡ i) × (i < n) × (c.slot < t)
  pub stands : (o : ℕ) (c : Cell) → is_in c (b.store o) ≡ true → (c.output ≡ o) × (c.slot < t)
  pub apart : (i o : ℕ) (c : Cell) → is_in c (b.waiting i) ≡ true → is_in c (b.store o) ≡ false
  pub once : (i : ℕ) → distinct (b.waiting i) ≡ true
  pub rising : Rising b

pub none-is_in : (c : Cell) → is_in c [] ≡ true → ⊥
unfolding is_in
none-is_in c h = grind arith

pub empty_placed : (n : ℕ) → Placed n 0 empty
unfolding is_in distinct rises
empty_placed n =
    record {
      waits = λ i c h. absurd (none-is_in c h);
      stands = λ o c h. absurd (none-is_in c h);
      apart = λ i o c h. absurd (none-is_in c h);
      once = λ i. refl;
      rising = λ o. refl;
    }

-- the cell that has just arrived by input i, for some output
abbrev pub New : ℕ → ℕ → Bool → Arrival → Cell → Type 0
New t i test x c = (o : ℕ) × (test ≡ true) × (x ≡ For o) × (c ≡ record { slot = t; input = i; output = o })

-- who waits after the arrivals waited before, or has just arrived
pub waited_or_new : (t i : ℕ) (test : Bool) (x : Arrival) (b : Box) (c : Cell) → is_in c (cond test (taken t i x b) (b.waiting i)) ≡ true → (is_in c (b.waiting i) ≡ true) ⊎ New t i test x c
waited_or_new t i false x b c h = inl h
waited_or_new t i true Nothing b c h = inl h
waited_or_new t i true (For o) b c h =
    let e : Cell = record { slot = t; input = i; output = o } in
    elim (or_cases (same c e) (is_in c (b.waiting i)) (sym (is_in-put_at c (length (b.store o)) e (b.waiting i)) ∙ h)) [
      | inl s ↦ inr (o, refl, refl, same_eq c e s)
      | inr w ↦ inl w
    ]

-- what arrives in slot t does not wait before
pub new_waits_not : (n t : ℕ) (b : Box) → Placed n t b → (i : ℕ) (c : Cell) → c.slot ≡ t → is_in c (b.waiting i) ≡ false
new_waits_not n t b p i c e =
    elim (cases_Bool (is_in c (b.waiting i))) [
      | inl h ↦ absurd (let k = p.waits i c h in omega (arith, k.2))
      | inr h ↦ h
    ]

new-stands-not : (n t : ℕ) (b : Box) → Placed n t b → (o : ℕ) (c : Cell) → c.slot ≡ t → is_in c (b.store o) ≡ false
new-stands-not n t b p o c e =
    elim (cases_Bool (is_in c (b.store o))) [
      | inl h ↦ absurd (let k = p.stands o c h in omega (arith, k.1))
      | inr h ↦ h
    ]

taken-once : (n t i : ℕ) (test : Bool) (x : Arrival) (b : Box) → Placed n t b → distinct (cond test (taken t i x b) (b.waiting i)) ≡ true
taken-once n t i false x b p = p.once i
taken-once n t i true Nothing b p = p.once i
taken-once n t i true (For o) b p =
    let e : Cell = record { slot = t; input = i; output = o } in
    distinct-put_at (length (b.store o)) e (b.waiting i) (new_waits_not n t b p i e refl) (p.once i)

pub arriving_placed : (k room n t : ℕ) (a : Arrivals) (b : Box) → k ≤ n → Placed n t b → Placed n (suc t) (arriving k room n t a b)
arriving_placed k room n t a b le p =
    let test : ℕ → Bool = λ i. ltb i k && room_for room n i a b (a i) in
    record {
      waits = λ i c h.
          elim (waited_or_new t i (test i) (a i) b c h) [
            | inl w ↦ (let q = p.waits i c w in (q.0, q.1, omega (arith, q.2)))
            | inr w ↦
                (let lt = ltb-true i k (and_parts (ltb i k) (room_for room n i a b (a i)) w.1).0 in
                (ap (λ (z : Cell). z.input) w.3, omega arith, omega (arith, ap (λ (z : Cell). z.slot) w.3)))
          ];
      stands = λ o c h. (let q = p.stands o c h in (q.0, omega (arith, q.1)));
      apart = λ i o c h.
          elim (waited_or_new t i (test i) (a i) b c h) [
            | inl w ↦ p.apart i o c w
            | inr w ↦ new-stands-not n t b p o c (ap (λ (z : Cell). z.slot) w.3)
          ];
      once = λ i. taken-once n t i (test i) (a i) b p;
      rising = p.rising;
    }

-- what is transferred to a store was chosen, for its output
pub went : (c : Cell) (o : ℕ) (ms l : List Cell) → is_in c (slip_all (for_output o ms) l) ≡ ((is_in c ms && eqb c.output o) || is_in c l)
went c o ms l = is_in-slip_all c (for_output o ms) l ∙ ap (λ z. z || is_in c l) (is_in-for_output c o ms)

transfer_rising : (n t : ℕ) (b : Box) (ms : List Cell) → Stable b ms → Placed n t b → Rising (transfer ms b)
unfolding slip_all
transfer_rising n t b ms st p o =
    elim (at_most_one o ms st.single) [
      | inl e ↦ subst (λ l. rises (slip_all l (b.store o)) ≡ true) (sym e) (p.rising o)
      | inr m ↦
          subst (λ l. rises (slip_all l (b.store o)) ≡ true) (sym m.3) (rises-slip m.0 (b.store o) (λ d h. m.2 ∙ sym (p.stands o d h).0) (p.apart m.0.input o m.0 (st.waits m.0 m.1)) (p.rising o))
    ]

pub transfer_placed : (n t : ℕ) (b : Box) (ms : List Cell) → Stable b ms → Placed n t b → Placed n t (transfer ms b)
transfer_placed n t b ms st p =
    record {
      waits = λ i c h. p.waits i c (stayed c ms (b.waiting i) h).0;
      stands = λ o c h.
          elim (or_cases (is_in c ms && eqb c.output o) (is_in c (b.store o)) (sym (went c o ms (b.store o)) ∙ h)) [
            | inl m ↦
                (let x = and_parts (is_in c ms) (eqb c.output o) m in
                (eqb-true c.output o x.1, (p.waits c.input c (st.waits c x.0)).2))
            | inr s ↦ p.stands o c s
          ];
      apart = λ i o c h.
          (let x = stayed c ms (b.waiting i) h in
          let y = p.apart i o c x.0 in
          let z = x.1 in
          let w = went c o ms (b.store o) in
          grind (arith, y, z, w));
      once = λ i. distinct-without_all ms (b.waiting i) (p.once i);
      rising = transfer_rising n t b ms st p;
    }

is_in-rest : (c : Cell) (l : List Cell) → is_in c (rest l) ≡ true → is_in c l ≡ true
unfolding is_in
is_in-rest c [] h = h
is_in-rest c (d ∷ l) h = grind arith

-- what stands after the departures stood before
pub stood : (n t : ℕ) (b : Box) → Placed n t b → (o : ℕ) (c : Cell) → is_in c ((depart b).store o) ≡ true → is_in c (b.store o) ≡ true
stood n t b p o c h =
    is_in-rest c (b.store o) (subst (λ l. is_in c l ≡ true) (depart_drops (b.store o) (p.rising o)) h)

pub depart_placed : (n t : ℕ) (b : Box) → Placed n t b → Placed n t (depart b)
depart_placed n t b p =
    record {
      waits = p.waits;
      stands = λ o c h. p.stands o c (stood n t b p o c h);
      apart = λ i o c h.
          elim (cases_Bool (is_in c ((depart b).store o))) [
            | inl x ↦ absurd (both_ways (is_in c (b.store o)) (p.apart i o c h) (stood n t b p o c x))
            | inr x ↦ x
          ];
      once = p.once;
      rising = λ o.
          subst (λ l. rises l ≡ true) (sym (depart_drops (b.store o) (p.rising o))) (rises-rest (b.store o) (p.rising o));
    }

-- every waiting cell's output is among the first n
abbrev pub Directed : ℕ → Box → Type 0
Directed n b = (i : ℕ) (c : Cell) → is_in c (b.waiting i) ≡ true → c.output < n

pub arriving_directed : (k room n t : ℕ) (a : Arrivals) (b : Box) → k ≤ n → Fits n a → Directed n b → Directed n (arriving k room n t a b)
arriving_directed k room n t a b le f p i c h =
    elim (waited_or_new t i (ltb i k && room_for room n i a b (a i)) (a i) b c h) [
      | inl w ↦ p i c w
      | inr w ↦
          (let lt = ltb-true i k (and_parts (ltb i k) (room_for room n i a b (a i)) w.1).0 in
          let g : w.0 < n = f i w.0 (omega arith) w.2 in
          subst (λ z. z < n) (sym (ap (λ (z : Cell). z.output) w.3)) g)
    ]

pub transfer_directed : (n : ℕ) (b : Box) (ms : List Cell) → Directed n b → Directed n (transfer ms b)
transfer_directed n b ms p i c h = p i c (stayed c ms (b.waiting i) h).0
