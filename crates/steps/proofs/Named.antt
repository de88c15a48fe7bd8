-- The cells that a choice names: where they stand, and that each list loses its own.
use Rattle.std.proofs.Common.{◌≡◌, ℕ, zero, suc, ◌<◌, Bool, true, false, cond, ◌||◌, eqb, List, [], ◌∷◌, length, get_or, Some, None, Option, sym, refl, ap, ◌∙◌, subst, inl, inr, arith}
use Rattle.std.specs.List.{remove}
use Rattle.std.proofs.lemmas.Bool.{cases_Bool, eqb-true, or_cases}
use Rattle.std.proofs.lemmas.Bool.Decides.{nat_tests}
use Rattle.crossbox.specs.declared.Arrival.{Arrival}
use Rattle.crossbox.specs.declared.Arrival.TheVariants.{Nothing, For}
use Rattle.crossbox.specs.declared.Cell.{Cell}
use Rattle.crossbox.specs.Cells.{Arrivals, same, is_in}
use Rattle.crossbox.specs.Ideal.{first}
use Rattle.crossbox.specs.Box.{Box, for_output, without_all}
use Rattle.crossbox.proofs.Cells.{same_eq, same_refl}
use Rattle.crossbox.proofs.Lists.{is_in-same, distinct}
use Rattle.crossbox.proofs.Asking.{some_eq, some-none}
use Rattle.steps.specs.Choice.{first_for, named, also, picks, is_named, named_before}
use Rattle.firsts.specs.Firsts.{position}

-- a list's first cell for an output stands at its position
pub first-position : (o : ℕ) (l : List Cell) (d : Cell) → position o l < length l → first_for o l ≡ Some (get_or l (position o l) d)
unfolding position for_output
first-position o [] d h = absurd (omega arith)
first-position o (c ∷ l) d h = go (first-position o l d) (eqb c.output o) refl
  where
    go : (position o l < length l → first_for o l ≡ Some (get_or l (position o l) d)) → (t : Bool) → eqb c.output o ≡ t → first (cond (eqb c.output o) (c ∷ for_output o l) (for_output o l)) ≡ Some (get_or (c ∷ l) (cond (eqb c.output o) 0 (suc (position o l))) d)
    go ih true e = ap (λ (t : Bool). first (cond t (c ∷ for_output o l) (for_output o l))) e ∙ sym (ap (λ (t : Bool). Some (get_or (c ∷ l) (cond t 0 (suc (position o l))) d)) e)
    go ih false e =
        ap (λ (t : Bool). first (cond t (c ∷ for_output o l) (for_output o l))) e
        ∙ (ih (let z : cond (eqb c.output o) 0 (suc (position o l)) ≡ suc (position o l) = ap (λ (t : Bool). cond t 0 (suc (position o l))) e in omega arith)
        ∙ sym (ap (λ (t : Bool). Some (get_or (c ∷ l) (cond t 0 (suc (position o l))) d)) e))

-- it stands in the list, and is for the output
pub first_in : (o : ℕ) (l : List Cell) (c : Cell) → first_for o l ≡ Some c → (is_in c l ≡ true) × (c.output ≡ o)
unfolding is_in for_output
first_in o [] c e = absurd (some-none (sym e))
first_in o (d ∷ l) c e = go (first_in o l c) (eqb d.output o) refl
  where
    go : (first_for o l ≡ Some c → (is_in c l ≡ true) × (c.output ≡ o)) → (t : Bool) → eqb d.output o ≡ t → ((same c d || is_in c l) ≡ true) × (c.output ≡ o)
    go rec true q =
        let p : d ≡ c = some_eq (sym (ap (λ (t : Bool). first (cond t (d ∷ for_output o l) (for_output o l))) q) ∙ e) in (
          subst (λ (z : Cell). (same z d || is_in z l) ≡ true) p (ap (λ (t : Bool). t || is_in d l) (same_refl d)),
          sym (ap (λ (z : Cell). z.output) p) ∙ eqb-true d.output o q,
        )
    go rec false q =
        let ih = rec (sym (ap (λ (t : Bool). first (cond t (d ∷ for_output o l) (for_output o l))) q) ∙ e) in
        (let i = ih.0 in grind (arith, i), ih.1)

-- what is named stands in its list, for the output that is named
pub named_in : (x : Arrival) (l : List Cell) (c : Cell) → named x l ≡ Some c → (is_in c l ≡ true) × (x ≡ For c.output)
named_in Nothing l c e = absurd (some-none (sym e))
named_in (For o) l c e = let p = first_in o l c e in (p.0, ap (λ (z : ℕ). For z) (sym p.1))

-- cells wait at their inputs
abbrev pub AtHome : Box → Type 0
AtHome b = (i : ℕ) (c : Cell) → is_in c (b.waiting i) ≡ true → c.input ≡ i

module _ (ch : Arrivals) (b : Box) (home : AtHome b) where
  named_home : (i : ℕ) (c : Cell) → named (ch i) (b.waiting i) ≡ Some c → c.input ≡ i
  named_home i c e = home i c (named_in (ch i) (b.waiting i) c e).0

  -- a picked cell is the one that is named at its input
  pub picks_out : (n : ℕ) (d : Cell) → is_in d (picks n ch b) ≡ true → (d.input < n) × (named (ch d.input) (b.waiting d.input) ≡ Some d)
  unfolding is_in picks
  picks_out zero d h = absurd (grind arith)
  picks_out (suc n) d h = go (picks_out n d) (named (ch n) (b.waiting n)) refl h
    where
      go : (is_in d (picks n ch b) ≡ true → (d.input < n) × (named (ch d.input) (b.waiting d.input) ≡ Some d)) → (x : Option Cell) → named (ch n) (b.waiting n) ≡ x → is_in d (also x (picks n ch b)) ≡ true → (d.input < suc n) × (named (ch d.input) (b.waiting d.input) ≡ Some d)
      go rec None e q = let ih = rec q in (omega (arith, ih.0), ih.1)
      go rec (Some m) e q =
          elim (or_cases (same d m) (is_in d (picks n ch b)) q) [
            | inl y ↦
                let p : d ≡ m = same_eq d m y in
                let i : d.input ≡ n = ap (λ (z : Cell). z.input) p ∙ named_home n m e in
                (omega arith, subst (λ (z : ℕ). named (ch z) (b.waiting z) ≡ Some d) (sym i) (e ∙ ap (λ (z : Cell). Some z) (sym p)))
            | inr y ↦ (let ih = rec y in (omega (arith, ih.0), ih.1))
          ]

-- what is named at one of the first inputs is picked
pub picks_into : (ch : Arrivals) (b : Box) (n i : ℕ) (d : Cell) → i < n → named (ch i) (b.waiting i) ≡ Some d → is_in d (picks n ch b) ≡ true
unfolding is_in picks
picks_into ch b zero i d h e = absurd (omega arith)
picks_into ch b (suc n) i d h e = go (λ l. picks_into ch b n i d l e) (named (ch n) (b.waiting n)) refl
  where
    go : (i < n → is_in d (picks n ch b) ≡ true) → (x : Option Cell) → named (ch n) (b.waiting n) ≡ x → is_in d (also x (picks n ch b)) ≡ true
    go rec None q =
        elim (cases_Bool (eqb i n)) [
          | inl t ↦ absurd (some-none (sym (subst (λ (z : ℕ). named (ch z) (b.waiting z) ≡ Some d) (eqb-true i n t) e) ∙ q))
          | inr t ↦ rec (grind (arith, nat_tests))
        ]
    go rec (Some m) q =
        elim (cases_Bool (eqb i n)) [
          | inl t ↦
              let p : m ≡ d = some_eq (sym q ∙ subst (λ (z : ℕ). named (ch z) (b.waiting z) ≡ Some d) (eqb-true i n t) e) in
              subst (λ (z : Cell). (same d z || is_in d (picks n ch b)) ≡ true) (sym p) (ap (λ (t : Bool). t || is_in d (picks n ch b)) (same_refl d))
          | inr t ↦ (let ih = rec (grind (arith, nat_tests)) in grind (arith, ih))
        ]

-- a cell that none of the first inputs names an output of is not picked for it
pub none-picked : (ch : Arrivals) (b : Box) (n o : ℕ) → named_before n ch o ≡ false → for_output o (picks n ch b) ≡ []
unfolding picks named_before for_output
none-picked ch b zero o h = refl
none-picked ch b (suc n) o h = go (none-picked ch b n o) (named (ch n) (b.waiting n)) refl
  where
    go : (named_before n ch o ≡ false → for_output o (picks n ch b) ≡ []) → (x : Option Cell) → named (ch n) (b.waiting n) ≡ x → for_output o (also x (picks n ch b)) ≡ []
    go rec None q = rec (grind arith)
    go rec (Some m) q =
        let p = (named_in (ch n) (b.waiting n) m q).1 in
        let t : eqb m.output o ≡ is_named o (ch n) = sym (ap (λ (x : Arrival). is_named o x) p) in
        let r = rec (grind arith) in
        ap (λ (w : Bool). cond w (m ∷ for_output o (picks n ch b)) (for_output o (picks n ch b))) (t ∙ (let z : is_named o (ch n) ≡ false = grind arith in z)) ∙ r

get_d_in : (l : List Cell) (k : ℕ) (c : Cell) → k < length l → get_or l k c ≡ c → is_in c l ≡ true
unfolding is_in
get_d_in [] k c h e = absurd (omega arith)
get_d_in (d ∷ l) zero c h e = ap (λ (z : Cell). same c z || is_in c l) e ∙ ap (λ (t : Bool). t || is_in c l) (same_refl c)
get_d_in (d ∷ l) (suc k) c h e = let ih = get_d_in l k c (omega arith) e in grind (arith, ih)

-- a list of which none is chosen loses none
pub without-none : (ms l : List Cell) → ((d : Cell) → is_in d l ≡ true → is_in d ms ≡ false) → without_all ms l ≡ l
unfolding without_all is_in
without-none ms [] f = refl
without-none ms (d ∷ l) f =
    let s = same_refl d in
    let g : is_in d ms ≡ false = f d (grind (arith, s)) in
    ap (λ (t : Bool). cond t (without_all ms l) (d ∷ without_all ms l)) g
    ∙ ap (λ (xs : List Cell). d ∷ xs) (without-none ms l (λ e h. f e (grind arith)))

-- and one of which one is chosen loses that
pub without-one : (ms l : List Cell) (p : ℕ) (c : Cell) → distinct l ≡ true → p < length l → get_or l p c ≡ c → is_in c ms ≡ true →
    ((d : Cell) → is_in d l ≡ true → is_in d ms ≡ true → same d c ≡ true) → without_all ms l ≡ remove l p
unfolding without_all is_in distinct
without-one ms [] p c u h e i f = absurd (omega arith)
without-one ms (d ∷ l) zero c u h e i f =
    let g : is_in d ms ≡ true = ap (λ (z : Cell). is_in z ms) e ∙ i in
    let apart : is_in d l ≡ false = grind arith in
    ap (λ (t : Bool). cond t (without_all ms l) (d ∷ without_all ms l)) g
    ∙ without-none ms l (λ x y.
    elim (cases_Bool (is_in x ms)) [
      | inl z ↦ absurd (let q = f x (grind arith) z in let w = is_in-same x c l q in let v = ap (λ (k : Cell). is_in k l) e in let n : ◌≡◌ {A = Bool} true false = sym y ∙ (w ∙ (sym v ∙ apart)) in grind arith)
      | inr z ↦ z
    ])
without-one ms (d ∷ l) (suc p) c u h e i f =
    let there = get_d_in l p c (omega arith) e in
    let apart : is_in d l ≡ false = grind arith in
    let s = same_refl d in
    let g : is_in d ms ≡ false = elim (cases_Bool (is_in d ms)) [
      | inl z ↦ absurd (let q = f d (grind (arith, s)) z in let w = is_in-same d c l q in let n : ◌≡◌ {A = Bool} true false = sym there ∙ (sym w ∙ apart) in grind arith)
      | inr z ↦ z
    ] in
    ap (λ (t : Bool). cond t (without_all ms l) (d ∷ without_all ms l)) g
    ∙ ap (λ (xs : List Cell). d ∷ xs) (without-one ms l p c (grind arith) (omega arith) e i (λ x y z. f x (grind arith) z))
