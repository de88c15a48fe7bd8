-- Laws of the first cell for an output in a list.
use Rattle.std.proofs.Common.{◌≡◌, ℕ, ◌<◌, ◌≤◌, true, cond, eqb, List, [], ◌∷◌, Some, sym, refl, ap, ◌∙◌, subst, inl, inr, arith}
use Rattle.std.proofs.lemmas.Bool.{cases_Bool, eqb-true, eq-eqb}
use Rattle.crossbox.specs.declared.Cell.{Cell}
use Rattle.crossbox.specs.Cells.{same, is_in, ahead}
use Rattle.crossbox.specs.Ideal.{first}
use Rattle.crossbox.specs.Box.{Box, for_output}
use Rattle.crossbox.specs.Shape.{WellPlaced}
use Rattle.crossbox.specs.Matching.{some, waits_at}
use Rattle.crossbox.proofs.Cells.{same_refl, same_output}
use Rattle.crossbox.proofs.Lists.{is_in-for_output}
use Rattle.crossbox.proofs.Asking.{some_eq, some-none}
use Rattle.matching.specs.Table.{first_for}

first-is_in : (l : List Cell) (c : Cell) → first l ≡ Some c → is_in c l ≡ true
unfolding is_in
first-is_in [] c h = absurd (some-none (sym h))
first-is_in (d ∷ l) c h =
    let s : same c d ≡ true = subst (λ z. same z d ≡ true) (some_eq h) (same_refl d) in grind (arith, s)

-- a list with a cell has a first one
pub some_first : (l : List Cell) → some l ≡ true → (c : Cell) × (first l ≡ Some c)
some_first [] h = absurd (grind arith)
some_first (d ∷ l) h = (d, refl)

is_in-some : (c : Cell) (l : List Cell) → is_in c l ≡ true → some l ≡ true
unfolding is_in
is_in-some c [] h = absurd (grind arith)
is_in-some c (d ∷ l) h = refl

-- where a cell for an output stands in a list, one does
pub some_for : (o : ℕ) (c : Cell) (l : List Cell) → is_in c l ≡ true → c.output ≡ o → some (for_output o l) ≡ true
some_for o c l h q =
    let f = is_in-for_output c o l in
    let e = eq-eqb c.output o q in
    is_in-some c (for_output o l) (grind (arith, f, e, h))

-- the first cell for an output stands in the list, and is for the output
pub first_in : (o : ℕ) (l : List Cell) (c : Cell) → first_for o l ≡ Some c → (is_in c l ≡ true) × (c.output ≡ o)
first_in o l c h =
    let i = first-is_in (for_output o l) c h in
    let f = is_in-for_output c o l in
    (grind (arith, i, f), eqb-true c.output o (grind (arith, i, f)))

-- none for the output stands before it
pub first-ahead : (o : ℕ) (l : List Cell) (c d : Cell) → first_for o l ≡ Some c → is_in d l ≡ true → d.output ≡ o → ahead c l ≤ ahead d l
unfolding is_in ahead for_output
first-ahead o [] c d h i q = absurd (some-none (sym h))
first-ahead o (e ∷ l) c d h i q =
    elim (cases_Bool (eqb e.output o)) [
      | inl t ↦
          (let k : c ≡ e = sym (some_eq (ap (λ z. first (cond z (e ∷ for_output o l) (for_output o l))) (sym t) ∙ h)) in
          let s : same c e ≡ true = subst (λ z. same z e ≡ true) (sym k) (same_refl e) in
          grind (arith, s))
      | inr t ↦
          (let g : first_for o l ≡ Some c = ap (λ z. first (cond z (e ∷ for_output o l) (for_output o l))) (sym t) ∙ h in
          let no : same d e ≡ true → eqb e.output o ≡ true = λ s. eq-eqb e.output o (sym (same_output d e s) ∙ q) in
          let ih = first-ahead o l c d g in
          grind (arith, no, t, ih, q))
    ]

-- where a cell waits for an output, the input and the output are among the first n
pub waits_below : (n : ℕ) (b : Box) → WellPlaced n b → (i o : ℕ) → waits_at b i o ≡ true → (i < n) × (o < n)
waits_below n b placed i o h =
    let f = some_first (for_output o (b.waiting i)) h in
    let g = first_in o (b.waiting i) f.0 f.1 in
    let p = placed i f.0 g.0 in
    (p.1, subst (λ z. z < n) g.1 p.2)
