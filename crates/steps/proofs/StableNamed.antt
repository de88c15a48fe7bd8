-- Every stable choice of a box in order is what some choice by input names.
use Rattle.std.proofs.Common.{◌≡◌, ℕ, zero, suc, ◌<◌, ◌≤◌, Bool, true, false, cond, eqb, ltb, List, [], ◌∷◌, length, Some, sym, refl, ap, ◌∙◌, subst, inl, inr, arith}
use Rattle.std.proofs.lemmas.Bool.{cases_Bool, eqb-true, eq-eqb}
use Rattle.std.proofs.lemmas.Bool.Decides.{nat_tests}
use Rattle.crossbox.specs.declared.Arrival.{Arrival}
use Rattle.crossbox.specs.declared.Arrival.TheVariants.{Nothing, For}
use Rattle.crossbox.specs.declared.Cell.{Cell}
use Rattle.crossbox.specs.Cells.{Arrivals, same, is_in, ahead, earlier}
use Rattle.crossbox.specs.Ideal.{first}
use Rattle.crossbox.specs.Box.{Box, Stable, for_output, shares_none, one_each}
use Rattle.crossbox.specs.Shape.{WellPlaced, InOrder}
use Rattle.crossbox.proofs.Cells.{same_eq, same_refl, same_input, same_output}
use Rattle.crossbox.proofs.Choices.{one_output_lem}
use Rattle.crossbox.proofs.Lists.{is_in-for_output}
use Rattle.crossbox.proofs.Asking.{some_eq, some-none}
use Rattle.steps.specs.Choice.{first_for, named, picks, waits_in, all_wait}
use Rattle.steps.specs.Named.{sent_by, StableIsNamed}
use Rattle.steps.proofs.Named.{first_in, named_in, picks_out, picks_into}

shares_input : (c d : Cell) (l : List Cell) → shares_none c l ≡ true → is_in d l ≡ true → eqb c.input d.input ≡ false
unfolding shares_none is_in
shares_input c d [] h g = absurd (grind arith)
shares_input c d (e ∷ l) h g =
    let ih = shares_input c d l in
    let k : same d e ≡ true → eqb c.input d.input ≡ eqb c.input e.input =
    λ s. ap (λ z. eqb c.input z) (same_input d e s) in
    grind (arith, ih, k)

-- of a choice, two cells of one input are one
one_input : (c d : Cell) (ms : List Cell) → one_each ms ≡ true → is_in c ms ≡ true → is_in d ms ≡ true → c.input ≡ d.input → same c d ≡ true
unfolding one_each is_in
one_input c d [] u h g p = absurd (grind arith)
one_input c d (e ∷ ms) u h g p =
    let ih = one_input c d ms in
    let sc = shares_input e c ms in
    let sd = shares_input e d ms in
    let oc = same_input c e in
    let od = same_input d e in
    let q : same c e ≡ true → same d e ≡ true → same c d ≡ true =
    λ x y. subst (λ z. same c z ≡ true) (sym (same_eq d e y)) x in
    grind (arith, nat_tests, ih, sc, sd, oc, od, q)

abbrev tag : Arrival → ℕ
tag Nothing = 0
tag (For o) = suc o

-- a list with a cell for an output has a first one
has_first : (l : List Cell) (c : Cell) → is_in c l ≡ true → (d : Cell) × (first l ≡ Some d)
unfolding is_in
has_first [] c h = absurd (grind arith)
has_first (d ∷ l) c h = (d, refl)

has_length : (l : List Cell) (c : Cell) → is_in c l ≡ true → ltb 0 (length l) ≡ true
unfolding is_in
has_length [] c h = absurd (grind arith)
has_length (d ∷ l) c h = grind (arith, nat_tests)

in_for : (o : ℕ) (l : List Cell) (c : Cell) → is_in c l ≡ true → c.output ≡ o → is_in c (for_output o l) ≡ true
in_for o l c h q =
    let f = is_in-for_output c o l in
    let e = eq-eqb c.output o q in
    grind (arith, f, e, h)

-- none for the output stands before it
first-ahead : (o : ℕ) (l : List Cell) (c d : Cell) → first_for o l ≡ Some c → is_in d l ≡ true → d.output ≡ o → ahead c l ≤ ahead d l
unfolding is_in ahead for_output
first-ahead o [] c d h i q = absurd (some-none (sym h))
first-ahead o (e ∷ l) c d h i q =
    elim (cases_Bool (eqb e.output o)) [
      | inl t ↦
          (let k : c ≡ e = sym (some_eq (ap (λ z. first (cond z (e ∷ for_output o l) (for_output o l))) (sym t) ∙ h)) in
          let s : same c e ≡ true = subst (λ z. same z e ≡ true) (sym k) (same_refl e) in
          grind (arith, s))
      | inr t ↦
          (let g : first_for o l ≡ Some c = ap (λ z. first (cond z (e ∷ for_output o l) (for_output o l))) (sym t) ∙ h in
          let no : same d e ≡ true → eqb e.output o ≡ true = λ s. eq-eqb e.output o (sym (same_output d e s) ∙ q) in
          let ih = first-ahead o l c d g in
          grind (arith, no, t, ih, q))
    ]

-- what an input sends is a cell of the choice
sent_in : (ms : List Cell) (i o : ℕ) → sent_by ms i ≡ For o → (m : Cell) × (is_in m ms ≡ true) × (m.input ≡ i) × (m.output ≡ o)
unfolding sent_by is_in
sent_in [] i o e = absurd (let z : ◌≡◌ {A = ℕ} 0 (suc o) = ap (λ (x : Arrival). tag x) e in omega arith)
sent_in (m ∷ ms) i o e =
    elim (cases_Bool (eqb m.input i)) [
      | inl t ↦
          (let k : For m.output ≡ For o = sym (ap (λ (z : Bool). cond z (For m.output) (sent_by ms i)) t) ∙ e in
          let z : suc m.output ≡ suc o = ap (λ (x : Arrival). tag x) k in
          let s = same_refl m in
          (m, grind (arith, s), eqb-true m.input i t, omega arith))
      | inr t ↦
          (let r = sent_in ms i o (sym (ap (λ (z : Bool). cond z (For m.output) (sent_by ms i)) t) ∙ e) in
          let h = r.1 in
          (r.0, grind (arith, h), r.2, r.3))
    ]

-- and each cell of the choice is what its input sends
sent_is : (ms : List Cell) (c : Cell) → one_each ms ≡ true → is_in c ms ≡ true → sent_by ms c.input ≡ For c.output
unfolding sent_by is_in one_each
sent_is [] c u h = absurd (grind arith)
sent_is (m ∷ ms) c u h =
    let apart = shares_input m c ms in
    let si : same c m ≡ true → eqb m.input c.input ≡ true = λ s. eq-eqb m.input c.input (sym (same_input c m s)) in
    elim (cases_Bool (eqb m.input c.input)) [
      | inl t ↦
          (let s : same c m ≡ true = grind (arith, apart, t) in
          ap (λ (z : Bool). cond z (For m.output) (sent_by ms c.input)) t ∙ ap (λ (z : ℕ). For z) (sym (same_output c m s)))
      | inr t ↦
          ap (λ (z : Bool). cond z (For m.output) (sent_by ms c.input)) t ∙ sent_is ms c (grind arith) (grind (arith, si, t))
    ]

waits_from : (x : Arrival) (l : List Cell) → ((o : ℕ) → x ≡ For o → (c : Cell) × (is_in c l ≡ true) × (c.output ≡ o)) → waits_in x l ≡ true
waits_from Nothing l f = refl
waits_from (For o) l f = let r = f o refl in has_length (for_output o l) r.0 (in_for o l r.0 r.1 r.2)

all_from : (k : ℕ) (ch : Arrivals) (b : Box) → ((i : ℕ) → waits_in (ch i) (b.waiting i) ≡ true) → all_wait k ch b ≡ true
unfolding all_wait
all_from zero ch b f = refl
all_from (suc k) ch b f = let ih = all_from k ch b f in let w = f k in grind (arith, ih, w)

alike : (x y : Bool) → (x ≡ true → y ≡ true) → (y ≡ true → x ≡ true) → x ≡ y
alike x y f g = grind (arith, f, g)

module _ (n : ℕ) (b : Box) (ms : List Cell) (placed : WellPlaced n b) (order : InOrder b) (st : Stable b ms) where
  -- a cell of the choice is the first for its output in its list
  is_first : (c d : Cell) → is_in c ms ≡ true → first_for c.output (b.waiting c.input) ≡ Some d → d ≡ c
  is_first c d h e =
      let p = first_in c.output (b.waiting c.input) d e in
      let q : d.input ≡ c.input = (placed c.input d p.0).0 in
      let w : is_in d (b.waiting d.input) ≡ true = subst (λ (z : ℕ). is_in d (b.waiting z) ≡ true) (sym q) p.0 in
      let cw = st.waits c h in
      let fa : ahead d (b.waiting c.input) ≤ ahead c (b.waiting c.input) = first-ahead c.output (b.waiting c.input) d c e cw refl in
      elim (st.why d w) [
        | inl i ↦ same_eq d c (one_input d c ms st.single i h q)
        | inr r ↦
            elim r.2 [
              | inl x ↦
                  (let m : r.0 ≡ c = same_eq r.0 c (one_input r.0 c ms st.single r.1 h (x.0 ∙ q)) in
                  let y : ahead c (b.waiting d.input) < ahead d (b.waiting d.input) = subst (λ (z : Cell). ahead z (b.waiting d.input) < ahead d (b.waiting d.input)) m x.1 in
                  let v : ahead c (b.waiting c.input) < ahead d (b.waiting c.input) = subst (λ (z : ℕ). ahead c (b.waiting z) < ahead d (b.waiting z)) q y in
                  absurd (omega (arith, v, fa)))
              | inr x ↦
                  (let m : r.0 ≡ c = same_eq r.0 c (one_output_lem r.0 c ms st.single r.1 h (x.0 ∙ p.1)) in
                  let y : earlier c d ≡ true = subst (λ (z : Cell). earlier z d ≡ true) m x.1 in
                  let v : ahead c (b.waiting c.input) < ahead d (b.waiting c.input) = order c.input c d cw p.0 (sym p.1) y in
                  absurd (omega (arith, v, fa)))
            ]
      ]

  -- so it is what is named at its input
  named_here : (c : Cell) → is_in c ms ≡ true → named (sent_by ms c.input) (b.waiting c.input) ≡ Some c
  named_here c h =
      let f = has_first (for_output c.output (b.waiting c.input)) c (in_for c.output (b.waiting c.input) c (st.waits c h) refl) in
      ap (λ (x : Arrival). named x (b.waiting c.input)) (sent_is ms c st.single h)
      ∙ (f.1 ∙ ap (λ (z : Cell). Some z) (is_first c f.0 h f.1))

  into : (c : Cell) → is_in c ms ≡ true → is_in c (picks n (sent_by ms) b) ≡ true
  into c h = picks_into (sent_by ms) b n c.input c (placed c.input c (st.waits c h)).1 (named_here c h)

  out : (c : Cell) → is_in c (picks n (sent_by ms) b) ≡ true → is_in c ms ≡ true
  out c h =
      let o = picks_out (sent_by ms) b (λ i d g. (placed i d g).0) n c h in
      let s = sent_in ms c.input c.output (named_in (sent_by ms c.input) (b.waiting c.input) c o.1).1 in
      let e : named (sent_by ms c.input) (b.waiting c.input) ≡ Some s.0 = subst (λ (z : ℕ). named (sent_by ms z) (b.waiting z) ≡ Some s.0) s.2 (named_here s.0 s.1) in
      subst (λ (z : Cell). is_in z ms ≡ true) (some_eq (sym e ∙ o.1)) s.1

  waits_at_lem : (i : ℕ) → waits_in (sent_by ms i) (b.waiting i) ≡ true
  waits_at_lem i =
      waits_from (sent_by ms i) (b.waiting i) (λ o e.
      let s = sent_in ms i o e in
      (s.0, subst (λ (z : ℕ). is_in s.0 (b.waiting z) ≡ true) s.2 (st.waits s.0 s.1), s.3))

pub stable_named : StableIsNamed
stable_named n b ms placed order st = (
  all_from n (sent_by ms) b (waits_at_lem n b ms placed order st),
  λ c. alike (is_in c (picks n (sent_by ms) b)) (is_in c ms) (out n b ms placed order st c) (into n b ms placed order st c),
)
