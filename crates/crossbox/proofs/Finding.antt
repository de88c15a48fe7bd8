-- What is found is a stable choice: what holds after every ask, and what follows at the end.
use Rattle.std.proofs.Common.{◌≡◌, ℕ, zero, suc, ◌<◌, ◌≤◌, Bool, true, false, cond, ◌&&◌, eqb, ltb, ◌⊎◌, List, [], ◌∷◌, Some, None, Option, sym, refl, ap, ◌∙◌, subst, inl, inr, arith}
use Rattle.std.proofs.lemmas.Bool.{cases_Bool, cases_eq, or_cases, or_parts, and_parts, eqb-true, eq-eqb, ne_eqb, ltb-true, ltb-false, lt-ltb, both_ways}
use Rattle.crossbox.specs.declared.Cell.{Cell}
use Rattle.crossbox.specs.Cells.{earlier, same, is_in, ahead}
use Rattle.crossbox.specs.Box.{Box, Stable, Reason, shares_none, one_each}
use Rattle.crossbox.specs.Shape.{WellPlaced, InOrder}
use Rattle.crossbox.specs.Matching.{Finding, unasked, is_for, unrefused, next_ask, keeping, refusing, answered, asked, after_asks, chosen, with_kept, Ended}
use Rattle.crossbox.proofs.Cells.{same_eq, same_refl, earlier_other}
use Rattle.crossbox.proofs.Shape.{none-is_in}
use Rattle.crossbox.proofs.Asking.{some_eq, some-none, is_for-some, content-some, content-none, is_in-unrefused, Asked, next-asked}

-- what holds after every ask: what is kept waits, no two for one output; nothing unrefused is earlier than what is kept for
-- its output; and who was refused stands behind what is kept
pub record Good (b : Box) (s : Finding) : Type 0 where
  pub waits : (i : ℕ) (c : Cell) → s.kept i ≡ Some c → is_in c (b.waiting i) ≡ true
  pub one : (i j : ℕ) (c d : Cell) → s.kept i ≡ Some c → s.kept j ≡ Some d → c.output ≡ d.output → i ≡ j
  pub least : (i : ℕ) (c : Cell) → s.kept i ≡ Some c → (d : Cell) → is_in d (b.waiting d.input) ≡ true → d.output ≡ c.output → s.refused d.input c.output ≡ false → earlier d c ≡ false
  pub behind : (i o : ℕ) → s.refused i o ≡ true → (m : Cell) × (s.kept i ≡ Some m) × ((c : Cell) → is_in c (b.waiting i) ≡ true → c.output ≡ o → ahead m (b.waiting i) < ahead c (b.waiting i))

good_unasked : (b : Box) → Good b unasked
good_unasked b =
    record {
      waits = λ i c h. absurd (some-none (sym h));
      one = λ i j c d h. absurd (some-none (sym h));
      least = λ i c h. absurd (some-none (sym h));
      behind = λ i o h. absurd (both_ways false refl h);
    }

keeping-cases : (i : ℕ) (c : Cell) (f : ℕ → Option Cell) (j : ℕ) (d : Cell) → keeping i c f j ≡ Some d → ((j ≡ i) × (c ≡ d)) ⊎ ((eqb j i ≡ false) × (f j ≡ Some d))
keeping-cases i c f j d h =
    elim (cases_Bool (eqb j i)) [
      | inl e ↦ inl (eqb-true j i e, some_eq (ap (λ z. cond z (Some c) (f j)) (sym e) ∙ h))
      | inr e ↦ inr (e, ap (λ z. cond z (Some c) (f j)) (sym e) ∙ h)
    ]

keeping_here : (i : ℕ) (c : Cell) (f : ℕ → Option Cell) → keeping i c f i ≡ Some c
keeping_here i c f = ap (λ z. cond z (Some c) (f i)) (eq-eqb i i refl)

keeping_there : (i : ℕ) (c : Cell) (f : ℕ → Option Cell) (j : ℕ) → eqb j i ≡ false → keeping i c f j ≡ f j
keeping_there i c f j e = ap (λ z. cond z (Some c) (f j)) e

refusing_old : (i : ℕ) (x : Option Cell) (r : ℕ → ℕ → Bool) (j o : ℕ) → refusing i x r j o ≡ false → r j o ≡ false
refusing_old i None r j o h = h
refusing_old i (Some d) r j o h = (or_parts (eqb j i && eqb d.output o) (r j o) h).1

refusing-new : (i : ℕ) (d : Cell) (r : ℕ → ℕ → Bool) (j o : ℕ) → refusing i (Some d) r j o ≡ true → ((j ≡ i) × (d.output ≡ o)) ⊎ (r j o ≡ true)
refusing-new i d r j o h =
    elim (or_cases (eqb j i && eqb d.output o) (r j o) h) [
      | inl x ↦ (let y = and_parts (eqb j i) (eqb d.output o) x in inl (eqb-true j i y.0, eqb-true d.output o y.1))
      | inr x ↦ inr x
    ]

-- the places of two cells of a list tell them apart
ahead-same : (c d : Cell) (l : List Cell) → is_in c l ≡ true → is_in d l ≡ true → ahead c l ≡ ahead d l → c ≡ d
unfolding is_in ahead
ahead-same c d [] h g e = absurd (grind arith)
ahead-same c d (x ∷ l) h g e =
    let ih = ahead-same c d l in
    elim (cases_Bool (same c x)) [
      | inl p ↦ (let q : same d x ≡ true = grind arith in same_eq c x p ∙ sym (same_eq d x q))
      | inr p ↦ ih (grind arith) (grind arith) (grind arith)
    ]

-- an ask, in a box with its cells in place and its pairs in order
module _ (n : ℕ) (b : Box) (placed : WellPlaced n b) (order : InOrder b) where
  -- a cell than which none of its pair is earlier is the first of its pair
  first_of_pair : (i : ℕ) (c x : Cell) → is_in c (b.waiting i) ≡ true → is_in x (b.waiting i) ≡ true → c.output ≡ x.output → earlier x c ≡ false → ahead c (b.waiting i) ≤ ahead x (b.waiting i)
  first_of_pair i c x h g q e =
      elim (cases_Bool (same x c)) [
        | inl s ↦ (let k = ap (λ z. ahead z (b.waiting i)) (same_eq x c s) in omega arith)
        | inr s ↦ (let k = order i c x h g q (earlier_other x c (sym q) s e) in omega arith)
      ]

  module _ (s : Finding) (c : Cell) (ask : Asked n b s c) (good : Good b s) where
    -- the asked cell is the first of its pair
    asked-first : (x : Cell) → is_in x (b.waiting c.input) ≡ true → x.output ≡ c.output → ahead c (b.waiting c.input) ≤ ahead x (b.waiting c.input)
    asked-first x h q =
        let i-is : x.input ≡ c.input = (placed c.input x h).0 in
        let w : is_in x (b.waiting x.input) ≡ true = subst (λ z. is_in x (b.waiting z) ≡ true) (sym i-is) h in
        let r : s.refused x.input c.output ≡ false = subst (λ z. s.refused z c.output ≡ false) (sym i-is) ask.welcome in
        first_of_pair c.input c x ask.waits h (sym q) (ask.least x w q r)

    -- nothing is kept for the output that asks
    asked_other : (i : ℕ) (d : Cell) → s.kept i ≡ Some d → d.output ≡ c.output → ⊥
    asked_other i d h q =
        let lt = (placed i d (good.waits i d h)).1 in
        let f = content-none n c.output s ask.discontent i lt in
        both_ways (is_for c.output (s.kept i)) f (ap (λ z. is_for c.output z) h ∙ eq-eqb d.output c.output q)

    -- the asked cell is kept: three of the four facts, whatever was kept before
    kept_waits : (i : ℕ) (d : Cell) → keeping c.input c s.kept i ≡ Some d → is_in d (b.waiting i) ≡ true
    kept_waits i d h =
        elim (keeping-cases c.input c s.kept i d h) [
          | inl x ↦
              subst (λ z. is_in d (b.waiting z) ≡ true) (sym x.0) (subst (λ z. is_in z (b.waiting c.input) ≡ true) x.1 ask.waits)
          | inr x ↦ good.waits i d x.1
        ]

    kept_one : (i j : ℕ) (d e : Cell) → keeping c.input c s.kept i ≡ Some d → keeping c.input c s.kept j ≡ Some e → d.output ≡ e.output → i ≡ j
    kept_one i j d e h g q =
        elim (keeping-cases c.input c s.kept i d h) [
          | inl x ↦
              elim (keeping-cases c.input c s.kept j e g) [
                | inl y ↦ x.0 ∙ sym y.0
                | inr y ↦ absurd (asked_other j e y.1 (sym q ∙ ap (λ (z : Cell). z.output) (sym x.1)))
              ]
          | inr x ↦
              elim (keeping-cases c.input c s.kept j e g) [
                | inl y ↦ absurd (asked_other i d x.1 (q ∙ ap (λ (z : Cell). z.output) (sym y.1)))
                | inr y ↦ good.one i j d e x.1 y.1 q
              ]
        ]

    kept_least : (i : ℕ) (m : Cell) → keeping c.input c s.kept i ≡ Some m → (d : Cell) → is_in d (b.waiting d.input) ≡ true → d.output ≡ m.output → s.refused d.input m.output ≡ false → earlier d m ≡ false
    kept_least i m h d w q r =
        elim (keeping-cases c.input c s.kept i m h) [
          | inl x ↦
              subst (λ z. earlier d z ≡ false) x.1 (ask.least d w (q ∙ ap (λ (z : Cell). z.output) (sym x.1)) (subst (λ (z : Cell). s.refused d.input z.output ≡ false) (sym x.1) r))
          | inr x ↦ good.least i m x.1 d w q r
        ]

    -- its input kept nothing
    good_first : s.kept c.input ≡ None → Good b (record { kept = keeping c.input c s.kept; refused = s.refused; asks = suc s.asks })
    good_first free =
        record {
          waits = kept_waits;
          one = kept_one;
          least = kept_least;
          behind = λ i o h.
              (let x = good.behind i o h in
              elim (cases_Bool (eqb i c.input)) [
                | inl e ↦ absurd (some-none (sym x.1 ∙ (ap s.kept (eqb-true i c.input e) ∙ free)))
                | inr e ↦ (x.0, keeping_there c.input c s.kept i e ∙ x.1, x.2)
              ]);
        }

    -- what an input keeps, it has not refused
    kept_welcome : (i : ℕ) (d : Cell) → s.kept i ≡ Some d → s.refused i d.output ≡ false
    kept_welcome i d h =
        elim (cases_Bool (s.refused i d.output)) [
          | inl e ↦
              absurd
              (let x = good.behind i d.output e in
              let m-is : x.0 ≡ d = some_eq (sym x.1 ∙ h) in
              let k = x.2 d (good.waits i d h) refl in
              let z = ap (λ z. ahead z (b.waiting i)) m-is in
              omega arith)
          | inr e ↦ e
        ]

    -- what an input keeps is the first of its pair
    kept_first : (i : ℕ) (d : Cell) → s.kept i ≡ Some d → (x : Cell) → is_in x (b.waiting i) ≡ true → x.output ≡ d.output → ahead d (b.waiting i) ≤ ahead x (b.waiting i)
    kept_first i d h x m q =
        let i-is : x.input ≡ i = (placed i x m).0 in
        let w : is_in x (b.waiting x.input) ≡ true = subst (λ z. is_in x (b.waiting z) ≡ true) (sym i-is) m in
        let r : s.refused x.input d.output ≡ false = subst (λ z. s.refused z d.output ≡ false) (sym i-is) (kept_welcome i d h) in
        first_of_pair i d x (good.waits i d h) m (sym q) (good.least i d h x w q r)

    -- its input kept a cell that stands behind
    good_better : (d : Cell) → s.kept c.input ≡ Some d → ahead c (b.waiting c.input) < ahead d (b.waiting c.input) → Good b (record { kept = keeping c.input c s.kept; refused = refusing c.input (Some d) s.refused; asks = suc s.asks })
    good_better d h lt =
        record {
          waits = kept_waits;
          one = kept_one;
          least = λ i m k e w q r. kept_least i m k e w q (refusing_old c.input (Some d) s.refused e.input m.output r);
          behind = λ i o r.
              elim (refusing-new c.input d s.refused i o r) [
                | inl x ↦ (
                  c,
                  ap (λ z. keeping c.input c s.kept z) x.0 ∙ keeping_here c.input c s.kept,
                  λ y m q.
                      let m' : is_in y (b.waiting c.input) ≡ true = subst (λ z. is_in y (b.waiting z) ≡ true) x.0 m in
                      let f = kept_first c.input d h y m' (q ∙ sym x.1) in
                      let g : ahead c (b.waiting c.input) < ahead y (b.waiting c.input) = omega arith in
                      subst (λ z. ahead c (b.waiting z) < ahead y (b.waiting z)) (sym x.0) g,
                )
                | inr x ↦
                    (let old = good.behind i o x in
                    elim (cases_Bool (eqb i c.input)) [
                      | inl e ↦
                          (let i-is = eqb-true i c.input e in
                          let m-is : old.0 ≡ d = some_eq (sym old.1 ∙ (ap s.kept i-is ∙ h)) in (
                            c,
                            ap (λ z. keeping c.input c s.kept z) i-is ∙ keeping_here c.input c s.kept,
                            λ y m q.
                                let f = old.2 y m q in
                                let u = ap (λ z. ahead z (b.waiting i)) m-is in
                                let v = ap (λ z. ahead c (b.waiting z)) i-is in
                                let w = ap (λ z. ahead d (b.waiting z)) i-is in
                                omega arith,
                          ))
                      | inr e ↦ (old.0, keeping_there c.input c s.kept i e ∙ old.1, old.2)
                    ])
              ];
        }

    -- its input keeps what it kept
    good_worse : (d : Cell) → s.kept c.input ≡ Some d → ahead d (b.waiting c.input) ≤ ahead c (b.waiting c.input) → Good b (record { kept = s.kept; refused = refusing c.input (Some c) s.refused; asks = suc s.asks })
    good_worse d h le =
        record {
          waits = good.waits;
          one = good.one;
          least = λ i m k e w q r. good.least i m k e w q (refusing_old c.input (Some c) s.refused e.input m.output r);
          behind = λ i o r.
              elim (refusing-new c.input c s.refused i o r) [
                | inl x ↦ (
                  d,
                  ap s.kept x.0 ∙ h,
                  λ y m q.
                      let m' : is_in y (b.waiting c.input) ≡ true = subst (λ z. is_in y (b.waiting z) ≡ true) x.0 m in
                      let f = asked-first y m' (q ∙ sym x.1) in
                      let ne : ahead d (b.waiting c.input) ≡ ahead c (b.waiting c.input) → ⊥ =
                      λ e. asked_other c.input d h (ap (λ (z : Cell). z.output) (ahead-same d c (b.waiting c.input) (good.waits c.input d h) ask.waits e)) in
                      let g : ahead d (b.waiting c.input) < ahead y (b.waiting c.input) = omega arith in
                      subst (λ z. ahead d (b.waiting z) < ahead y (b.waiting z)) (sym x.0) g,
                )
                | inr x ↦ good.behind i o x
              ];
        }

    good_answered : (x : Option Cell) → s.kept c.input ≡ x → Good b (answered b c x s)
    good_answered None e = good_first e
    good_answered (Some d) e =
        let yes : Finding =
        record { kept = keeping c.input c s.kept; refused = refusing c.input (Some d) s.refused; asks = suc s.asks } in
        let refuses : Finding =
        record { kept = s.kept; refused = refusing c.input (Some c) s.refused; asks = suc s.asks } in
        let w = b.waiting c.input in
        elim (cases_Bool (ltb (ahead c w) (ahead d w))) [
          | inl t ↦ subst (λ z. Good b (cond z yes refuses)) (sym t) (good_better d e (ltb-true (ahead c w) (ahead d w) t))
          | inr t ↦ subst (λ z. Good b (cond z yes refuses)) (sym t) (good_worse d e (ltb-false (ahead c w) (ahead d w) t))
        ]

  good_asked : (s : Finding) (x : Option Cell) → next_ask n n b s ≡ x → Good b s → Good b (asked b x s)
  good_asked s None e g = g
  good_asked s (Some c) e g = good_answered s c (next-asked n b s c placed e) g (s.kept c.input) refl

  pub good_after : (k : ℕ) → Good b (after_asks k n b)
  unfolding after_asks
  good_after zero = good_unasked b
  good_after (suc k) = good_asked (after_asks k n b) (next_ask n n b (after_asks k n b)) refl (good_after k)

-- what the inputs keep, as a choice

with_kept_in : (c : Cell) (x : Option Cell) (l : List Cell) → is_in c (with_kept x l) ≡ true → (x ≡ Some c) ⊎ (is_in c l ≡ true)
unfolding is_in
with_kept_in c None l h = inr h
with_kept_in c (Some d) l h =
    elim (or_cases (same c d) (is_in c l) h) [ inl s ↦ inl (ap (λ z. Some z) (sym (same_eq c d s))) | inr m ↦ inr m ]

in_with_kept : (c : Cell) (x : Option Cell) (l : List Cell) → (x ≡ Some c) ⊎ (is_in c l ≡ true) → is_in c (with_kept x l) ≡ true
unfolding is_in
in_with_kept c None l h = elim h [ inl e ↦ absurd (some-none (sym e)) | inr m ↦ m ]
in_with_kept c (Some d) l h =
    elim h [
      | inl e ↦ (let s : same c d ≡ true = subst (λ z. same c z ≡ true) (sym (some_eq e)) (same_refl c) in grind (arith, s))
      | inr m ↦ grind arith
    ]

pub chosen_in : (k : ℕ) (s : Finding) (c : Cell) → is_in c (chosen k s) ≡ true → (i : ℕ) × (i < k) × (s.kept i ≡ Some c)
unfolding chosen
chosen_in zero s c h = absurd (none-is_in c h)
chosen_in (suc k) s c h =
    elim (with_kept_in c (s.kept k) (chosen k s) h) [
      | inl e ↦ (k, omega arith, e)
      | inr m ↦ (let ih = chosen_in k s c m in (ih.0, omega (arith, ih.1), ih.2))
    ]

pub in_chosen : (k : ℕ) (s : Finding) (c : Cell) (i : ℕ) → i < k → s.kept i ≡ Some c → is_in c (chosen k s) ≡ true
unfolding chosen
in_chosen zero s c i lt e = absurd (omega arith)
in_chosen (suc k) s c i lt e =
    elim (cases_eq i k) [
      | inl p ↦ in_with_kept c (s.kept k) (chosen k s) (inl (subst (λ z. s.kept z ≡ Some c) p e))
      | inr p ↦ in_with_kept c (s.kept k) (chosen k s) (inr (in_chosen k s c i (omega arith) e))
    ]

shares_from : (c : Cell) (l : List Cell) → ((d : Cell) → is_in d l ≡ true → (c.input ≡ d.input → ⊥) × (c.output ≡ d.output → ⊥)) → shares_none c l ≡ true
unfolding shares_none is_in
shares_from c [] f = refl
shares_from c (d ∷ l) f =
    let x = f d (let s = same_refl d in grind (arith, s)) in
    let ih = shares_from c l (λ e h. f e (grind arith)) in
    let u = ne_eqb c.input d.input x.0 in
    let v = ne_eqb c.output d.output x.1 in
    grind (arith, ih, u, v)

one_more : (c : Cell) (l : List Cell) → shares_none c l ≡ true → one_each l ≡ true → one_each (c ∷ l) ≡ true
unfolding one_each
one_more c l h g = grind arith

one-with_kept : (n k : ℕ) (b : Box) (s : Finding) → WellPlaced n b → Good b s → (x : Option Cell) → s.kept k ≡ x → one_each (chosen k s) ≡ true → one_each (with_kept x (chosen k s)) ≡ true
one-with_kept n k b s p g None e h = h
one-with_kept n k b s p g (Some c) e h =
    one_more c (chosen k s) (shares_from c (chosen k s) (λ d m.
    let y = chosen_in k s d m in
    let ci = (p k c (g.waits k c e)).0 in
    let di = (p y.0 d (g.waits y.0 d y.2)).0 in
    ((λ q. omega (arith, y.1)), λ q. let j : k ≡ y.0 = g.one k y.0 c d e y.2 q in omega (arith, y.1)))) h

chosen_single : (n k : ℕ) (b : Box) (s : Finding) → WellPlaced n b → Good b s → one_each (chosen k s) ≡ true
unfolding chosen one_each
chosen_single n zero b s p g = refl
chosen_single n (suc k) b s p g = one-with_kept n k b s p g (s.kept k) refl (chosen_single n k b s p g)

-- a cell that its input refused stands behind what the input keeps, and that is its reason
refused_reason : (n : ℕ) (b : Box) (s : Finding) → WellPlaced n b → Good b s → (c : Cell) → is_in c (b.waiting c.input) ≡ true → s.refused c.input c.output ≡ true → Reason b (chosen n s) c
refused_reason n b s p g c h r =
    let x = g.behind c.input c.output r in
    let m-waits = g.waits c.input x.0 x.1 in
    let y = p c.input x.0 m-waits in
    (x.0, in_chosen n s x.0 c.input y.1 x.1, inl (y.0, x.2 c h refl))

-- when the finding has ended, who is not chosen has a reason
ended_why : (n : ℕ) (b : Box) (s : Finding) → WellPlaced n b → Good b s → Ended n b s → (c : Cell) → is_in c (b.waiting c.input) ≡ true → (is_in c (chosen n s) ≡ true) ⊎ Reason b (chosen n s) c
ended_why n b s p g end c h =
    let w = p c.input c h in
    elim (cases_Bool (s.refused c.input c.output)) [
      | inl r ↦ inr (refused_reason n b s p g c h r)
      | inr r ↦
          elim (end c.output w.2) [
            | inl y ↦
                (let k = content-some n c.output s y in
                let f = is_for-some c.output (s.kept k.0) k.2 in
                let m = f.0 in
                let m-in = in_chosen n s m k.0 k.1 f.1 in
                elim (cases_Bool (same c m)) [
                  | inl e ↦ inl (subst (λ z. is_in z (chosen n s) ≡ true) (sym (same_eq c m e)) m-in)
                  | inr e ↦
                      (let o_is : c.output ≡ m.output = sym f.2 in
                      let not-Earlier = g.least k.0 m f.1 c h o_is (subst (λ z. s.refused c.input z ≡ false) o_is r) in
                      inr (m, m-in, inr (f.2, earlier_other c m o_is e not-Earlier)))
                ])
            | inr y ↦
                absurd
                (let i = is_in-unrefused n n c.output b s p c in
                let e : is_in c (unrefused n c.output b s) ≡ is_in c [] = ap (λ z. is_in c z) y in
                let lt = lt-ltb c.input n w.1 in
                let eq = eq-eqb c.output c.output refl in
                none-is_in c (sym e ∙ (i ∙ (grind (arith, lt, eq, r, h)))))
          ]
    ]

pub ended_stable : (n : ℕ) (b : Box) (s : Finding) → WellPlaced n b → Good b s → Ended n b s → Stable b (chosen n s)
ended_stable n b s p g end =
    record {
      waits = λ c h.
          (let x = chosen_in n s c h in
          let w = g.waits x.0 c x.2 in
          subst (λ z. is_in c (b.waiting z) ≡ true) (sym (p x.0 c w).0) w);
      single = chosen_single n n b s p g;
      why = ended_why n b s p g end;
    }
