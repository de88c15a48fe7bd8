-- Searches in rows, step by step.
use Rattle.std.proofs.Common.{◌≡◌, ℕ, zero, suc, ◌+◌, ◌<◌, ◌≤◌, Bool, true, false, cond, eqb, ltb, List, [], ◌∷◌, length, get_or, take, drop, Some, None, sym, ap, ◌∙◌, inl, inr, arith}
use Rattle.std.specs.List.{suffix_len}
use Rattle.std.proofs.lemmas.List.{at_drop_more, at_drop_all, get_or-map}
use Rattle.std.proofs.lemmas.List.Sums.{suffix_len-le-length}
use Rattle.std.proofs.lemmas.Bool.{cases_Bool, cond-true, cond-false, lt-ltb}
use Rattle.std.proofs.lemmas.Bool.Decides.{nat_tests}
use Rattle.crossbox.specs.declared.Cell.{Cell}
use Rattle.crossbox.specs.Cells.{earlier, count_earlier}
use Rattle.firsts.specs.Firsts.{position, slot_at, first_of}
use Rattle.steps.specs.Transfers.{place_for}

module _ (o : ℕ) (l : List Cell) (k : ℕ) (c : Cell) (e : get_or l k c ≡ c) (h : k < length l) where
  -- a cell for the output is found
  pub found_here : c.output ≡ o → position o (drop k l) ≡ 0
  unfolding position
  found_here q =
      let y : eqb c.output o ≡ true = grind (arith, nat_tests) in
      at_drop_more (position o) l k c h ∙ (ap (λ (d : Cell). cond (eqb d.output o) 0 (suc (position o (drop (k + 1) l)))) e
      ∙ ap (λ (t : Bool). cond t 0 (suc (position o (drop (k + 1) l)))) y)

  -- or it is sought behind
  pub not_here : (c.output ≡ o → ⊥) → position o (drop k l) ≡ suc (position o (drop (k + 1) l))
  unfolding position
  not_here q =
      let y : eqb c.output o ≡ false = grind (arith, nat_tests) in
      at_drop_more (position o) l k c h ∙ (ap (λ (d : Cell). cond (eqb d.output o) 0 (suc (position o (drop (k + 1) l)))) e
      ∙ ap (λ (t : Bool). cond t 0 (suc (position o (drop (k + 1) l)))) y)

-- there is none
pub none_left : (o : ℕ) (l : List Cell) (k : ℕ) → length l ≤ k → position o (drop k l) ≡ 0
unfolding position
none_left o l k h = at_drop_all (position o) l k h

module _ (x : Cell) (l : List Cell) (k : ℕ) (c : Cell) (e : get_or l k c ≡ c) (h : k < length l) where
  -- one more is counted, if it is earlier
  pub count_here : count_earlier x (drop k l) ≡ cond (earlier c x) 1 0 + count_earlier x (drop (k + 1) l)
  unfolding count_earlier
  count_here =
      at_drop_more (count_earlier x) l k c h ∙ ap (λ (d : Cell). cond (earlier d x) 1 0 + count_earlier x (drop (k + 1) l)) e

  pub count_yes : earlier c x ≡ true → count_earlier x (drop k l) ≡ 1 + count_earlier x (drop (k + 1) l)
  count_yes t = count_here ∙ ap (λ (b : Bool). cond b 1 0 + count_earlier x (drop (k + 1) l)) t

  pub count_no : earlier c x ≡ false → count_earlier x (drop k l) ≡ 0 + count_earlier x (drop (k + 1) l)
  count_no t = count_here ∙ ap (λ (b : Bool). cond b 1 0 + count_earlier x (drop (k + 1) l)) t

pub count_end : (x : Cell) (l : List Cell) (k : ℕ) → length l ≤ k → count_earlier x (drop k l) ≡ 0
unfolding count_earlier
count_end x l k h = at_drop_all (count_earlier x) l k h

-- from the end: where a cell is not later, the place is behind it
pub place_stop : (x : Cell) (l : List Cell) (k : ℕ) → k ≤ length l → k + suffix_len (earlier x) l ≡ length l + suffix_len (earlier x) (take k l) → suffix_len (earlier x) (take k l) ≡ 0 → k ≡ place_for x l
unfolding place_for
place_stop x l k h i z = omega (arith, suffix_len-le-length (earlier x) l)

pub ending-none : (x : Cell) (l : List Cell) (k : ℕ) → k ≡ 0 → suffix_len (earlier x) (take k l) ≡ 0
ending-none x l k e = ap (λ (j : ℕ). suffix_len (earlier x) (take j l)) e

-- what stands before the first cell for an output may be passed over
pub skipped : (o k : ℕ) (l : List Cell) → k ≤ position o l → k + position o (drop k l) ≡ position o l
unfolding position
skipped o zero l h = omega arith
skipped o (suc k) [] h = absurd (omega arith)
skipped o (suc k) (c ∷ l) h =
    let ih = skipped o k l in
    elim (cases_Bool (eqb c.output o)) [
      | inl t ↦ absurd (grind (arith, t, h))
      | inr t ↦ grind (arith, t, h, ih)
    ]

-- a search that has come to the k-th cell
module _ (o k : ℕ) (l : List Cell) (e : k + position o (drop k l) ≡ position o l) where
  -- finds it there
  pub first_here : (c : Cell) → position o (drop k l) ≡ 0 → k < length l → get_or l k c ≡ c → Some (record { place = k; slot = c.slot }) ≡ first_of o l
  first_here c z h q =
      let p : position o l ≡ k = omega arith in
      let y : ltb (position o l) (length l) ≡ true = lt-ltb (position o l) (length l) (omega arith) in
      let s : slot_at l (position o l) ≡ c.slot = ap (λ (x : ℕ). slot_at l x) p ∙ (get_or-map (λ (d : Cell). d.slot) l k c 0 h ∙ ap (λ (d : Cell). d.slot) q) in
      ap (λ (x : ℕ). Some (record { place = x; slot = c.slot })) (sym p)
      ∙ (ap (λ (x : ℕ). Some (record { place = position o l; slot = x })) (sym s)
      ∙ sym (cond-true (ltb (position o l) (length l)) (Some (record { place = position o l; slot = slot_at l (position o l) })) None y))

  -- or finds none
  pub first-none : length l ≤ k → None ≡ first_of o l
  first-none h =
      let y : ltb (position o l) (length l) ≡ false = grind (arith, nat_tests, e, h) in
      sym (cond-false (ltb (position o l) (length l)) (Some (record { place = position o l; slot = slot_at l (position o l) })) None y)
