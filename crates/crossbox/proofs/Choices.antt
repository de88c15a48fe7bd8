-- Laws of a choice: no two of its cells have one output, so at most one goes to each store.
use Rattle.std.proofs.Common.{◌≡◌, ℕ, true, false, cond, eqb, ◌⊎◌, List, [], ◌∷◌, sym, refl, ap, ◌∙◌, subst, inl, inr, arith}
use Rattle.std.proofs.lemmas.Bool.{cases_Bool, eqb-true}
use Rattle.std.proofs.lemmas.Bool.Decides.{nat_tests}
use Rattle.crossbox.specs.declared.Cell.{Cell}
use Rattle.crossbox.specs.Cells.{same, is_in}
use Rattle.crossbox.specs.Box.{for_output, shares_none, one_each}
use Rattle.crossbox.proofs.Cells.{same_refl, same_eq, same_output}

pub shares_output : (c d : Cell) (l : List Cell) → shares_none c l ≡ true → is_in d l ≡ true → eqb c.output d.output ≡ false
unfolding shares_none is_in
shares_output c d [] h g = absurd (grind arith)
shares_output c d (e ∷ l) h g =
    let ih = shares_output c d l in
    let k : same d e ≡ true → eqb c.output d.output ≡ eqb c.output e.output =
    λ s. ap (λ z. eqb c.output z) (same_output d e s) in
    grind (arith, ih, k)

-- of a choice, two cells for one output are one
pub one_output_lem : (c d : Cell) (ms : List Cell) → one_each ms ≡ true → is_in c ms ≡ true → is_in d ms ≡ true → c.output ≡ d.output → same c d ≡ true
unfolding one_each is_in
one_output_lem c d [] u h g p = absurd (grind arith)
one_output_lem c d (e ∷ ms) u h g p =
    let ih = one_output_lem c d ms in
    let sc = shares_output e c ms in
    let sd = shares_output e d ms in
    let oc = same_output c e in
    let od = same_output d e in
    let q : same c e ≡ true → same d e ≡ true → same c d ≡ true =
    λ x y. subst (λ z. same c z ≡ true) (sym (same_eq d e y)) x in
    grind (arith, nat_tests, ih, sc, sd, oc, od, q)

none_shared : (c : Cell) (o : ℕ) (ms : List Cell) → c.output ≡ o → shares_none c ms ≡ true → for_output o ms ≡ []
unfolding shares_none for_output
none_shared c o [] p h = refl
none_shared c o (d ∷ ms) p h = let ih = none_shared c o ms p in grind (arith, nat_tests, ih)

-- at most one cell of a choice goes to the store of an output
abbrev pub AtMostOne : ℕ → List Cell → Type 0
AtMostOne o ms =
    (for_output o ms ≡ []) ⊎ ((m : Cell) × (is_in m ms ≡ true) × (m.output ≡ o) × (for_output o ms ≡ m ∷ []))

pub at_most_one : (o : ℕ) (ms : List Cell) → one_each ms ≡ true → AtMostOne o ms
unfolding one_each is_in for_output
at_most_one o [] u = inl refl
at_most_one o (c ∷ ms) u =
    elim (cases_Bool (eqb c.output o)) [
      | inl e ↦ inr (c, (let s = same_refl c in grind (arith, s)), eqb-true c.output o e, ap (λ z. cond z (c ∷ for_output o ms) (for_output o ms)) e ∙ ap (λ z. c ∷ z) (none_shared c o ms (eqb-true c.output o e) (grind arith)))
      | inr e ↦
          let skip : cond (eqb c.output o) (c ∷ for_output o ms) (for_output o ms) ≡ for_output o ms =
          ap (λ z. cond z (c ∷ for_output o ms) (for_output o ms)) e in
          let ih = at_most_one o ms (grind arith) in
          elim ih [ inl n ↦ inl (skip ∙ n) | inr x ↦ inr (x.0, grind arith, x.2, skip ∙ x.3) ]
    ]
