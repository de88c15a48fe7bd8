-- Facts about one ask of the finding: who asks, and for which cell.
use Rattle.std.proofs.Common.{◌≡◌, ℕ, zero, suc, ◌<◌, true, false, cond, not, ◌&&◌, ◌||◌, eqb, ltb, ◌⊎◌, List, [], ◌∷◌, Some, None, Option, sym, refl, ap, ◌∙◌, subst, inl, inr, arith}
use Rattle.std.proofs.lemmas.Bool.{cases_Bool, cases_lt, or_cases, or_parts, eqb-true, eq-eqb, lt-ltb}
use Rattle.std.proofs.lemmas.Bool.Decides.{nat_tests}
use Rattle.crossbox.specs.declared.Cell.{Cell}
use Rattle.crossbox.specs.Cells.{earlier, same, is_in, earliest, sooner}
use Rattle.crossbox.specs.Box.{Box, for_output}
use Rattle.crossbox.specs.Shape.{WellPlaced}
use Rattle.crossbox.specs.Matching.{Finding, content, is_for, unrefused, wanted, or_else, next_ask, Ended}
use Rattle.crossbox.proofs.Cells.{same_eq, same_refl, earlier_self, earlier_trans}
use Rattle.crossbox.proofs.Lists.{is_in-append, is_in-for_output}

pub some_eq : {c d : Cell} → ◌≡◌ {A = Option Cell} (Some c) (Some d) → c ≡ d
some_eq e = cc

pub some-none : {c : Cell} → ◌≡◌ {A = Option Cell} (Some c) None → ⊥
some-none e = let z : ◌≡◌ {A = ℕ} 0 1 = cc in omega arith

-- the earliest of a list

sooner_is : (d : Cell) (y : Option Cell) → (sooner d y ≡ d) ⊎ (y ≡ Some (sooner d y))
sooner_is d None = inl refl
sooner_is d (Some e) =
    elim (cases_Bool (earlier d e)) [
      | inl h ↦ inl (ap (λ z. cond z d e) h)
      | inr h ↦ inr (ap (λ z. Some (cond z d e)) (sym h))
    ]

pub earliest_in : (l : List Cell) (c : Cell) → earliest l ≡ Some c → is_in c l ≡ true
unfolding is_in earliest
earliest_in [] c h = absurd (some-none (sym h))
earliest_in (d ∷ l) c h =
    let e : sooner d (earliest l) ≡ c = some_eq h in
    elim (sooner_is d (earliest l)) [
      | inl p ↦ (let s : same c d ≡ true = subst (λ z. same z d ≡ true) (sym p ∙ e) (same_refl d) in grind (arith, s))
      | inr p ↦ (let ih : is_in c l ≡ true = earliest_in l c (p ∙ ap (λ z. Some z) e) in grind (arith, ih))
    ]

pub earliest-none : (l : List Cell) → earliest l ≡ None → l ≡ []
unfolding earliest
earliest-none [] h = refl
earliest-none (d ∷ l) h = absurd (some-none h)

least_step : (d x : Cell) (l : List Cell) (y : Option Cell) → (y ≡ None → is_in x l ≡ false) → ((e : Cell) → y ≡ Some e → is_in x l ≡ true → earlier x e ≡ false) → (same x d || is_in x l) ≡ true → earlier x (sooner d y) ≡ false
least_step d x l None f g h =
    let n = f refl in
    let k : same x d ≡ true → earlier x d ≡ earlier d d = λ s. ap (λ z. earlier z d) (same_eq x d s) in
    let r = earlier_self d in
    grind (arith, n, k, r)
least_step d x l (Some e) f g h =
    let k : same x d ≡ true → earlier x d ≡ earlier d d = λ s. ap (λ z. earlier z d) (same_eq x d s) in
    let j : same x d ≡ true → earlier x e ≡ earlier d e = λ s. ap (λ z. earlier z e) (same_eq x d s) in
    let r = earlier_self d in
    let t = earlier_trans x d e in
    let i = g e refl in
    elim (cases_Bool (earlier d e)) [
      | inl a ↦ subst (λ z. earlier x (cond z d e) ≡ false) (sym a) (grind (arith, k, r, t, i))
      | inr a ↦ subst (λ z. earlier x (cond z d e) ≡ false) (sym a) (grind (arith, j, i))
    ]

-- nothing in a list is earlier than its earliest
pub earliest_least : (l : List Cell) (c : Cell) → earliest l ≡ Some c → (x : Cell) → is_in x l ≡ true → earlier x c ≡ false
unfolding is_in earliest
earliest_least [] c h x m = absurd (some-none (sym h))
earliest_least (d ∷ l) c h x m =
    subst (λ z. earlier x z ≡ false) (some_eq h) (least_step d x l (earliest l) (λ n. ap (λ z. is_in x z) (earliest-none l n)) (λ e p. earliest_least l e p x) m)

-- who is content, and what is unrefused

pub is_for-some : (o : ℕ) (x : Option Cell) → is_for o x ≡ true → (c : Cell) × (x ≡ Some c) × (c.output ≡ o)
is_for-some o None h = absurd (grind arith)
is_for-some o (Some c) h = (c, refl, eqb-true c.output o h)

pub content-some : (k o : ℕ) (s : Finding) → content k o s ≡ true → (i : ℕ) × (i < k) × (is_for o (s.kept i) ≡ true)
unfolding content
content-some zero o s h = absurd (grind arith)
content-some (suc k) o s h =
    elim (or_cases (is_for o (s.kept k)) (content k o s) h) [
      | inl x ↦ (k, omega arith, x)
      | inr x ↦ (let ih = content-some k o s x in (ih.0, omega (arith, ih.1), ih.2))
    ]

pub content-none : (k o : ℕ) (s : Finding) → content k o s ≡ false → (i : ℕ) → i < k → is_for o (s.kept i) ≡ false
unfolding content
content-none zero o s h i lt = absurd (omega arith)
content-none (suc k) o s h i lt =
    let x = or_parts (is_for o (s.kept k)) (content k o s) h in
    elim (cases_lt i k) [
      | inl l ↦ content-none k o s x.1 i l
      | inr l ↦ (let e : i ≡ k = omega arith in subst (λ z. is_for o (s.kept z) ≡ false) (sym e) x.0)
    ]

pub is_in-unrefused : (n k o : ℕ) (b : Box) (s : Finding) → WellPlaced n b → (d : Cell) → is_in d (unrefused k o b s) ≡ (ltb d.input k && (is_in d (b.waiting d.input) && (eqb d.output o && not (s.refused d.input o))))
unfolding unrefused is_in
is_in-unrefused n zero o b s p d = grind (arith, nat_tests)
is_in-unrefused n (suc k) o b s p d =
    let ih = is_in-unrefused n k o b s p d in
    let a = is_in-append d (cond (s.refused k o) [] (for_output o (b.waiting k))) (unrefused k o b s) in
    let f = is_in-for_output d o (b.waiting k) in
    let there : is_in d (b.waiting k) ≡ true → d.input ≡ k = λ h. (p k d h).0 in
    let w : d.input ≡ k → is_in d (b.waiting d.input) ≡ is_in d (b.waiting k) = λ e. ap (λ z. is_in d (b.waiting z)) e in
    let r : d.input ≡ k → s.refused d.input o ≡ s.refused k o = λ e. ap (λ z. s.refused z o) e in
    grind (arith, nat_tests, ih, a, f, there, w, r)

-- the next ask

wanted-some : (n o : ℕ) (b : Box) (s : Finding) (c : Cell) → wanted n o b s ≡ Some c → (content n o s ≡ false) × (earliest (unrefused n o b s) ≡ Some c)
wanted-some n o b s c h =
    elim (cases_Bool (content n o s)) [
      | inl e ↦ absurd (some-none (sym h ∙ ap (λ z. cond z None (earliest (unrefused n o b s))) e))
      | inr e ↦ (e, ap (λ z. cond z None (earliest (unrefused n o b s))) (sym e) ∙ h)
    ]

wanted-none : (n o : ℕ) (b : Box) (s : Finding) → wanted n o b s ≡ None → (content n o s ≡ true) ⊎ (unrefused n o b s ≡ [])
wanted-none n o b s h =
    elim (cases_Bool (content n o s)) [
      | inl e ↦ inl e
      | inr e ↦ inr (earliest-none (unrefused n o b s) (ap (λ z. cond z None (earliest (unrefused n o b s))) (sym e) ∙ h))
    ]

none-wanted : (n o : ℕ) (b : Box) (s : Finding) → (content n o s ≡ true) ⊎ (unrefused n o b s ≡ []) → wanted n o b s ≡ None
unfolding earliest
none-wanted n o b s h =
    elim h [
      | inl e ↦ ap (λ z. cond z None (earliest (unrefused n o b s))) e
      | inr e ↦
          elim (cases_Bool (content n o s)) [
            | inl x ↦ ap (λ z. cond z None (earliest (unrefused n o b s))) x
            | inr x ↦ ap (λ z. cond z None (earliest (unrefused n o b s))) x ∙ ap (λ z. earliest z) e
          ]
    ]

or_else-some : (x y : Option Cell) (c : Cell) → or_else x y ≡ Some c → (x ≡ Some c) ⊎ (y ≡ Some c)
or_else-some None y c h = inr h
or_else-some (Some d) y c h = inl h

or_else-none : (x y : Option Cell) → or_else x y ≡ None → (x ≡ None) × (y ≡ None)
or_else-none None y h = (refl, h)
or_else-none (Some d) y h = absurd (some-none h)

next-some : (n k : ℕ) (b : Box) (s : Finding) (c : Cell) → next_ask n k b s ≡ Some c → (o : ℕ) × (o < k) × (wanted n o b s ≡ Some c)
unfolding next_ask
next-some n zero b s c h = absurd (some-none (sym h))
next-some n (suc k) b s c h =
    elim (or_else-some (next_ask n k b s) (wanted n k b s) c h) [
      | inl x ↦ (let ih = next-some n k b s c x in (ih.0, omega (arith, ih.1), ih.2))
      | inr x ↦ (k, omega arith, x)
    ]

next-none : (n k : ℕ) (b : Box) (s : Finding) → next_ask n k b s ≡ None → (o : ℕ) → o < k → wanted n o b s ≡ None
unfolding next_ask
next-none n zero b s h o lt = absurd (omega arith)
next-none n (suc k) b s h o lt =
    let x = or_else-none (next_ask n k b s) (wanted n k b s) h in
    elim (cases_lt o k) [
      | inl l ↦ next-none n k b s x.0 o l
      | inr l ↦ (let e : o ≡ k = omega arith in subst (λ z. wanted n z b s ≡ None) (sym e) x.1)
    ]

none-next : (n k : ℕ) (b : Box) (s : Finding) → ((o : ℕ) → o < k → wanted n o b s ≡ None) → next_ask n k b s ≡ None
unfolding next_ask
none-next n zero b s f = refl
none-next n (suc k) b s f =
    ap (λ z. or_else z (wanted n k b s)) (none-next n k b s (λ o l. f o (omega arith))) ∙ f k (omega arith)

-- where nobody asks, the finding has ended, and the other way round
pub next-ended : (n : ℕ) (b : Box) (s : Finding) → next_ask n n b s ≡ None → Ended n b s
next-ended n b s h o lt = wanted-none n o b s (next-none n n b s h o lt)

pub ended-next : (n : ℕ) (b : Box) (s : Finding) → Ended n b s → next_ask n n b s ≡ None
ended-next n b s e = none-next n n b s (λ o l. none-wanted n o b s (e o l))

-- the cell that is asked for: it waits, its input has not refused its output, which is not content, and it is the earliest such
pub record Asked (n : ℕ) (b : Box) (s : Finding) (c : Cell) : Type 0 where
  pub waits : is_in c (b.waiting c.input) ≡ true
  pub welcome : s.refused c.input c.output ≡ false
  pub discontent : content n c.output s ≡ false
  pub least : (d : Cell) → is_in d (b.waiting d.input) ≡ true → d.output ≡ c.output → s.refused d.input c.output ≡ false → earlier d c ≡ false

pub next-asked : (n : ℕ) (b : Box) (s : Finding) (c : Cell) → WellPlaced n b → next_ask n n b s ≡ Some c → Asked n b s c
next-asked n b s c p h =
    let x = next-some n n b s c h in
    let o = x.0 in
    let y = wanted-some n o b s c x.2 in
    let i : is_in c (unrefused n o b s) ≡ true = earliest_in (unrefused n o b s) c y.1 in
    let u = is_in-unrefused n n o b s p c in
    let o_is : c.output ≡ o = grind (arith, nat_tests, i, u) in
    let here : is_in c (b.waiting c.input) ≡ true = grind (arith, i, u) in
    let open_is : s.refused c.input o ≡ false = grind (arith, i, u) in
    record {
      waits = here;
      welcome = subst (λ z. s.refused c.input z ≡ false) (sym o_is) open_is;
      discontent = subst (λ z. content n z s ≡ false) (sym o_is) y.0;
      least = λ d w q r.
          (let v = is_in-unrefused n n o b s p d in
          let lt = lt-ltb d.input n (p d.input d w).1 in
          let eq = eq-eqb d.output o (q ∙ o_is) in
          let r' : s.refused d.input o ≡ false = subst (λ z. s.refused d.input z ≡ false) o_is r in
          let m : is_in d (unrefused n o b s) ≡ true = grind (arith, v, lt, eq, r', w) in
          earliest_least (unrefused n o b s) c y.1 d m);
    }
