-- Where the first cell for an output stands when a cell is put into a list or taken out of it.
use Rattle.std.proofs.Common.{◌≡◌, ℕ, zero, suc, ◌+◌, ◌-◌, ◌<◌, ◌≤◌, cond, eqb, ltb, leb, List, [], ◌∷◌, length, sym, ◌∙◌, inl, inr, arith}
use Rattle.std.specs.List.{insert, remove}
use Rattle.std.proofs.lemmas.Bool.{cases_Bool, eqb-true}
use Rattle.std.proofs.lemmas.Bool.Decides.{nat_tests}
use Rattle.crossbox.specs.declared.Cell.{Cell}
use Rattle.firsts.specs.Firsts.{position}

pub position_le : (o : ℕ) (l : List Cell) → position o l ≤ length l
unfolding position
position_le o [] = omega arith
position_le o (c ∷ l) = let ih = position_le o l in grind (arith, ih)

-- put in for the same output
pub insert_own : (o k : ℕ) (c : Cell) (l : List Cell) → c.output ≡ o → k ≤ length l → position o (insert l k c) ≡ cond (ltb (position o l) k) (position o l) k
unfolding position
insert_own o zero c l q h = grind (arith, nat_tests)
insert_own o (suc k) c [] q h = absurd (omega arith)
insert_own o (suc k) c (d ∷ l) q h =
    let ih = insert_own o k c l q (omega arith) in
    elim (cases_Bool (eqb d.output o)) [
      | inl t ↦ grind (arith, nat_tests, t)
      | inr t ↦ grind (arith, nat_tests, t, ih)
    ]

-- put in for another
pub insert_other : (o k : ℕ) (c : Cell) (l : List Cell) → (c.output ≡ o → ⊥) → k ≤ length l → position o (insert l k c) ≡ position o l + cond (leb k (position o l)) 1 0
unfolding position
insert_other o zero c l q h = grind (arith, nat_tests)
insert_other o (suc k) c [] q h = absurd (omega arith)
insert_other o (suc k) c (d ∷ l) q h =
    let ih = insert_other o k c l q (omega arith) in
    elim (cases_Bool (eqb d.output o)) [
      | inl t ↦ grind (arith, nat_tests, t)
      | inr t ↦ grind (arith, nat_tests, t, ih)
    ]

-- the first one for an output is taken out: none for it stands before
pub remove_own : (o k : ℕ) (l : List Cell) → k ≡ position o l → k < length l → k ≤ position o (remove l k)
unfolding position
remove_own o zero l e h = omega arith
remove_own o (suc k) [] e h = absurd (omega arith)
remove_own o (suc k) (c ∷ l) e h =
    let ih = remove_own o k l in
    elim (cases_Bool (eqb c.output o)) [
      | inl t ↦ absurd (grind (arith, t, e))
      | inr t ↦ grind (arith, t, e, ih)
    ]

-- and another's first one is one place sooner if it stood behind
pub remove_other : (o p k : ℕ) (l : List Cell) → (p ≡ o → ⊥) → k ≡ position o l → k < length l → position p (remove l k) ≡ position p l - cond (ltb k (position p l)) 1 0
unfolding position
remove_other o p k [] q e h = absurd (omega arith)
remove_other o p zero (c ∷ l) q e h =
    elim (cases_Bool (eqb c.output o)) [
      | inl t ↦ grind (arith, nat_tests, t, e)
      | inr t ↦ absurd (grind (arith, t, e))
    ]
remove_other o p (suc k) (c ∷ l) q e h =
    let ih = remove_other o p k l q in
    elim (cases_Bool (eqb c.output o)) [
      | inl t ↦ absurd (grind (arith, t, e))
      | inr t ↦ elim (cases_Bool (eqb c.output p)) [
        | inl u ↦ grind (arith, nat_tests, u)
        | inr u ↦ grind (arith, nat_tests, t, u, e, ih)
      ]
    ]

-- a cell is for one output only
pub apart : (o p : ℕ) (l : List Cell) → position p l ≡ position o l → position o l < length l → p ≡ o
unfolding position
apart o p [] e h = absurd (omega arith)
apart o p (c ∷ l) e h =
    let ih = apart o p l in
    elim (cases_Bool (eqb c.output o)) [
      | inl t ↦ elim (cases_Bool (eqb c.output p)) [
        | inl u ↦ sym (eqb-true c.output p u) ∙ eqb-true c.output o t
        | inr u ↦ absurd (grind (arith, t, u, e))
      ]
      | inr t ↦ elim (cases_Bool (eqb c.output p)) [
        | inl u ↦ absurd (grind (arith, t, u, e))
        | inr u ↦ grind (arith, t, u, e, ih)
      ]
    ]
