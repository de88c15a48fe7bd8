-- No choice of waiting cells has more cells than the largest.
use Rattle.std.proofs.Common.{◌≡◌, ℕ, zero, suc, ◌+◌, ◌<◌, ◌≤◌, Bool, true, cond, not, ◌&&◌, ◌||◌, eqb, ltb, ◌⊎◌, List, [], ◌∷◌, length, sym, refl, ap, ◌∙◌, subst, inl, inr, arith}
use Rattle.std.proofs.lemmas.Bool.{cases_eq, and_parts, and_from, or_cases, or_left, or_right, cond_both, cond-true, ltb-true, ltb-false, ne_eqb, not_from_false, not-true, eqb-false}
use Rattle.crossbox.specs.declared.Cell.{Cell}
use Rattle.crossbox.specs.Cells.{same, is_in}
use Rattle.crossbox.specs.Box.{Box, shares_none, one_each}
use Rattle.crossbox.specs.Shape.{WellPlaced}
use Rattle.crossbox.proofs.Cells.{same_eq, same_refl}
use Rattle.crossbox.proofs.Shape.{none-is_in}
use Rattle.cases.specs.Misses.{larger, with_one, enlarged, Choice, LargestIsLargest}

larger-left : (ms ns : List Cell) → length ms ≤ length (larger ms ns)
larger-left ms ns =
    cond_both (ltb (length ms) (length ns)) ns ms (λ (l : List Cell). length ms ≤ length l) (λ e. omega (arith, ltb-true (length ms) (length ns) e)) (λ e. omega arith)

larger_right : (ms ns : List Cell) → length ns ≤ length (larger ms ns)
larger_right ms ns =
    cond_both (ltb (length ms) (length ns)) ns ms (λ (l : List Cell). length ns ≤ length l) (λ e. omega arith) (λ e. omega (arith, ltb-false (length ms) (length ns) e))

module _ (more : List Cell → List Cell) (ms : List Cell) where
  with_none : (cs : List Cell) → length (more ms) ≤ length (with_one more ms cs)
  unfolding with_one
  with_none [] = omega arith
  with_none (c ∷ cs) =
      let ih = with_none cs in
      let l = larger-left (with_one more ms cs) (cond (shares_none c ms) (more (c ∷ ms)) ms) in
      omega arith

  with-one : (c : Cell) → shares_none c ms ≡ true → (cs : List Cell) → is_in c cs ≡ true → length (more (c ∷ ms)) ≤ length (with_one more ms cs)
  unfolding with_one is_in
  with-one c s [] i = absurd (none-is_in c i)
  with-one c s (d ∷ cs) i =
      let y = cond (shares_none d ms) (more (d ∷ ms)) ms in
      elim (or_cases (same c d) (is_in c cs) i) [
        | inl e ↦
            (let q = same_eq c d e in
            let z : y ≡ more (d ∷ ms) = cond-true (shares_none d ms) _ _ (subst (λ (x : Cell). shares_none x ms ≡ true) q s) in
            let l = larger_right (with_one more ms cs) y in
            let k : length y ≡ length (more (c ∷ ms)) = ap (λ (l : List Cell). length l) z ∙ ap (λ (x : Cell). length (more (x ∷ ms))) (sym q) in
            omega arith)
        | inr k ↦
            (let ih = with-one c s cs k in
            let l = larger-left (with_one more ms cs) y in
            omega arith)
      ]

-- two cells share neither input nor output
abbrev Apart : Cell → Cell → Type 0
Apart c d = (c.input ≡ d.input → ⊥) × (c.output ≡ d.output → ⊥)

shares_apart : (c d : Cell) (ms : List Cell) → shares_none c ms ≡ true → is_in d ms ≡ true → Apart d c
unfolding shares_none is_in
shares_apart c d [] s i = absurd (none-is_in d i)
shares_apart c d (e ∷ ms) s i =
    let x = not (eqb c.input e.input) in
    let y = not (eqb c.output e.output) in
    let p = and_parts x (y && shares_none c ms) s in
    let q = and_parts y (shares_none c ms) p.1 in
    elim (or_cases (same d e) (is_in d ms) i) [
      | inl k ↦
          (let z = same_eq d e k in (
            λ h. eqb-false c.input e.input (not-true _ p.0) (sym h ∙ ap (λ (w : Cell). w.input) z),
            λ h. eqb-false c.output e.output (not-true _ q.0) (sym h ∙ ap (λ (w : Cell). w.output) z),
          ))
      | inr k ↦ shares_apart c d ms q.1 k
    ]

shares_cons : (c d : Cell) (ms : List Cell) → Apart c d → shares_none c ms ≡ true → shares_none c (d ∷ ms) ≡ true
unfolding shares_none
shares_cons c d ms a s =
    and_from (not (eqb c.input d.input)) (not (eqb c.output d.output) && shares_none c ms) (not_from_false _ (ne_eqb c.input d.input a.0)) (and_from (not (eqb c.output d.output)) (shares_none c ms) (not_from_false _ (ne_eqb c.output d.output a.1)) s)

shares_uncons : (c d : Cell) (ms : List Cell) → shares_none c (d ∷ ms) ≡ true → Apart c d × (shares_none c ms ≡ true)
unfolding shares_none
shares_uncons c d ms s =
    let x = not (eqb c.input d.input) in
    let y = not (eqb c.output d.output) in
    let p = and_parts x (y && shares_none c ms) s in
    let q = and_parts y (shares_none c ms) p.1 in
    ((eqb-false c.input d.input (not-true _ p.0), eqb-false c.output d.output (not-true _ q.0)), q.1)

-- a choice with its cell of input k taken out
record Split (k : ℕ) (xs : List Cell) : Type 0 where
  one : Cell
  others : List Cell
  input : one.input ≡ k
  there : is_in one xs ≡ true
  size : length xs ≡ suc (length others)
  single : one_each others ≡ true
  from : (c : Cell) → is_in c others ≡ true → is_in c xs ≡ true
  fewer : (c : Cell) → shares_none c xs ≡ true → shares_none c others ≡ true
  apart : (c : Cell) → is_in c others ≡ true → Apart c one

split_here : (d : Cell) (xs : List Cell) → one_each (d ∷ xs) ≡ true → Split d.input (d ∷ xs)
unfolding one_each is_in
split_here d xs e =
    let p = and_parts (shares_none d xs) (one_each xs) e in
    record {
      one = d;
      others = xs;
      input = refl;
      there = ap (λ (z : Bool). z || is_in d xs) (same_refl d);
      size = refl;
      single = p.1;
      from = λ c i. or_right (same c d) (is_in c xs) i;
      fewer = λ c s. (shares_uncons c d xs s).1;
      apart = λ c i. shares_apart d c xs p.0 i;
    }

split_there : (k : ℕ) (d : Cell) (xs : List Cell) → one_each (d ∷ xs) ≡ true → Split k xs → Split k (d ∷ xs)
unfolding one_each is_in
split_there k d xs e s =
    let p = and_parts (shares_none d xs) (one_each xs) e in
    record {
      one = s.one;
      others = d ∷ s.others;
      input = s.input;
      there = or_right (same s.one d) (is_in s.one xs) s.there;
      size = ap (λ (n : ℕ). suc n) s.size;
      single = and_from (shares_none d s.others) (one_each s.others) (s.fewer d p.0) s.single;
      from = λ c i.
          elim (or_cases (same c d) (is_in c s.others) i) [
            | inl h ↦ or_left (same c d) (is_in c xs) h
            | inr h ↦ or_right (same c d) (is_in c xs) (s.from c h)
          ];
      fewer = λ c h. (let u = shares_uncons c d xs h in shares_cons c d s.others u.0 (s.fewer c u.1));
      apart = λ c i.
          elim (or_cases (same c d) (is_in c s.others) i) [
            | inl h ↦
                (let a = shares_apart d s.one xs p.0 s.there in
                subst (λ (x : Cell). Apart x s.one) (sym (same_eq c d h)) (λ x. a.0 (sym x), λ x. a.1 (sym x)))
            | inr h ↦ s.apart c h
          ];
    }

-- a choice has no cell of input k, or it can be taken out
split : (k : ℕ) (xs : List Cell) → one_each xs ≡ true → ((c : Cell) → is_in c xs ≡ true → c.input ≡ k → ⊥) ⊎ Split k xs
unfolding one_each is_in
split k [] e = inl (λ c i h. none-is_in c i)
split k (d ∷ xs) e =
    elim (cases_eq d.input k) [
      | inl h ↦ inr (subst (λ (j : ℕ). Split j (d ∷ xs)) h (split_here d xs e))
      | inr no_one ↦
          elim (split k xs (and_parts (shares_none d xs) (one_each xs) e).1) [
            | inl f ↦
                inl (λ c i h.
                elim (or_cases (same c d) (is_in c xs) i) [
                  | inl q ↦ no_one (sym (ap (λ (z : Cell). z.input) (same_eq c d q)) ∙ h)
                  | inr q ↦ f c q h
                ])
            | inr s ↦ inr (split_there k d xs e s)
          ]
    ]

-- what can be added to a choice, of the first k inputs
record Adds (k : ℕ) (b : Box) (ms xs : List Cell) : Type 0 where
  waits : (c : Cell) → is_in c xs ≡ true → (c.input < k) × (is_in c (b.waiting c.input) ≡ true) × (shares_none c ms ≡ true)
  single : one_each xs ≡ true

adds_none : (b : Box) (ms xs : List Cell) → Adds 0 b ms xs → length xs ≡ 0
unfolding is_in
adds_none b ms [] a = refl
adds_none b ms (c ∷ xs) a =
    absurd (let w = a.waits c (ap (λ (z : Bool). z || is_in c xs) (same_refl c)) in omega (arith, w.0))

enlarged_most : (k : ℕ) (b : Box) (ms xs : List Cell) → Adds k b ms xs → length xs + length ms ≤ length (enlarged k b ms)
unfolding enlarged
enlarged_most zero b ms xs a = omega (arith, adds_none b ms xs a)
enlarged_most (suc k) b ms xs a =
    elim (split k xs a.single) [
      | inl none ↦
          (let ih = enlarged_most k b ms xs (record {
            waits = λ c i. (let w = a.waits c i in let ne = none c i in (omega (arith, w.0, ne), w.1, w.2));
            single = a.single;
          }) in
          let l = with_none (enlarged k b) ms (b.waiting k) in
          omega arith)
      | inr s ↦
          (let w1 = a.waits s.one s.there in
          let ih = enlarged_most k b (s.one ∷ ms) s.others (record {
            waits = λ c i.
                (let w = a.waits c (s.from c i) in
                let ap1 = s.apart c i in
                let ne : c.input ≡ k → ⊥ = λ h. ap1.0 (h ∙ sym s.input) in
                (omega (arith, w.0, ne), w.1, shares_cons c s.one ms ap1 w.2));
            single = s.single;
          }) in
          let there : is_in s.one (b.waiting k) ≡ true = subst (λ (j : ℕ). is_in s.one (b.waiting j) ≡ true) s.input w1.1 in
          let l = with-one (enlarged k b) ms s.one w1.2 (b.waiting k) there in
          omega (arith, s.size))
    ]

-- what is enlarged stays a choice
module _ (n : ℕ) (b : Box) (placed : WellPlaced n b) where
  added : (c : Cell) (ms : List Cell) → shares_none c ms ≡ true → is_in c (b.waiting c.input) ≡ true → Choice n b ms → Choice n b (c ∷ ms)
  unfolding one_each is_in
  added c ms s w h =
      record {
        waits = λ d i.
            elim (or_cases (same d c) (is_in d ms) i) [
              | inl q ↦
                  subst (λ (x : Cell). (x.input < n) × (is_in x (b.waiting x.input) ≡ true)) (sym (same_eq d c q)) ((placed c.input c w).1, w)
              | inr k ↦ h.waits d k
            ];
        single = and_from (shares_none c ms) (one_each ms) s h.single;
      }

  with-one_choice : (more : List Cell → List Cell) → ((ms : List Cell) → Choice n b ms → Choice n b (more ms)) → (ms cs : List Cell) → ((c : Cell) → is_in c cs ≡ true → is_in c (b.waiting c.input) ≡ true) → Choice n b ms → Choice n b (with_one more ms cs)
  unfolding with_one is_in
  with-one_choice more f ms [] w h = f ms h
  with-one_choice more f ms (c ∷ cs) w h =
      let y = cond (shares_none c ms) (more (c ∷ ms)) ms in
      let here = w c (ap (λ (z : Bool). z || is_in c cs) (same_refl c)) in
      let hy : Choice n b y = cond_both (shares_none c ms) (more (c ∷ ms)) ms (λ (l : List Cell). Choice n b l) (λ s. f (c ∷ ms) (added c ms s here h)) (λ s. h) in
      let ih = with-one_choice more f ms cs (λ d i. w d (or_right (same d c) (is_in d cs) i)) h in
      cond_both (ltb (length (with_one more ms cs)) (length y)) y (with_one more ms cs) (λ (l : List Cell). Choice n b l) (λ e. hy) (λ e. ih)

  enlarged_choice : (k : ℕ) (ms : List Cell) → Choice n b ms → Choice n b (enlarged k b ms)
  unfolding enlarged
  enlarged_choice zero ms h = h
  enlarged_choice (suc k) ms h =
      with-one_choice (enlarged k b) (enlarged_choice k) ms (b.waiting k) (λ c i. subst (λ (j : ℕ). is_in c (b.waiting j) ≡ true) (sym (placed k c i).0) i) h

none-chosen : (n : ℕ) (b : Box) → Choice n b []
unfolding one_each
none-chosen n b = record { waits = λ c i. absurd (none-is_in c i); single = refl }

pub largest_is_largest : LargestIsLargest
unfolding shares_none
largest_is_largest n b p = (
  enlarged_choice n b p n [] (none-chosen n b),
  λ ms h.
      (let k = enlarged_most n b [] ms (record { waits = λ c i. (let w = h.waits c i in (w.0, w.1, refl)); single = h.single }) in
      omega arith),
)
