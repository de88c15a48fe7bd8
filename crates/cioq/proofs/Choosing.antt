-- The test of a choice, as the chains of its functions go: over inputs with what is named at each, and over one list.
use Rattle.std.proofs.Common.{◌≡◌, ℕ, zero, suc, ◌+◌, ◌<◌, ◌≤◌, Bool, cond, not, ◌&&◌, ◌||◌, List, [], ◌∷◌, length, get_or, take, Option, sym, refl, ap, ◌∙◌, subst, inl, inr, add-one, arith}
use Rattle.std.specs.List.{AllByRecursion, range_with_len, zip, list_all, prefix_len}
use Rattle.std.proofs.ByRecursion.{All-get_or, All-take}
use Rattle.std.proofs.lemmas.Bool.{cases_Bool}
use Rattle.crossbox.specs.declared.Arrival.{Arrival}
use Rattle.crossbox.specs.declared.Arrival.TheVariants.{Nothing}
use Rattle.crossbox.specs.declared.Cell.{Cell}
use Rattle.crossbox.specs.Box.{Box}
use Rattle.cioq.specs.Choice.{choice_of, waits_in, all_wait, is_named, beats, settled, all_settled}

-- what holds at the inputs from a on, with what each of them sends
module _ (test : ℕ → Arrival → Bool) (whole : ℕ → Bool) where
  each_input : (a n m : ℕ) (xs : List Arrival) → m ≡ a + n → n ≤ length xs →
      ((k j : ℕ) → k < n → j ≡ a + k → whole (j + 1) ≡ (test j (get_or xs k Nothing) && whole j)) →
      whole m ≡ (list_all (λ (p : ℕ × Arrival). test p.0 p.1) (zip (range_with_len a n) xs) && whole a)
  each_input a zero m xs e l h = ap whole (omega arith)
  each_input a (suc n) m [] e l h = absurd (omega arith)
  each_input a (suc n) m (x ∷ xs) e l h =
      let first = h 0 a (omega arith) (omega arith) in
      let rest = each_input (a + 1) n m xs (omega arith) (omega arith) (λ k j i q. h (suc k) j (omega arith) (omega arith)) in
      grind (arith, first, rest)

-- each of those inputs is there
pub input_there : (a n k : ℕ) (xs : List Arrival) (d : ℕ × Arrival) → k < length (zip (range_with_len a n) xs) → (get_or (zip (range_with_len a n) xs) k d).0 < a + n
input_there a zero k xs d h = absurd (omega arith)
input_there a (suc n) k [] d h = absurd (omega arith)
input_there a (suc n) zero (x ∷ xs) d h = omega arith
input_there a (suc n) (suc k) (x ∷ xs) d h = let ih = input_there (a + 1) n k xs d (omega arith) in omega (arith, ih)

pub all_wait-listed : (n : ℕ) (xs : List Arrival) (b : Box) → n ≤ length xs → list_all (λ (p : ℕ × Arrival). waits_in p.1 (b.waiting p.0)) (zip (range_with_len 0 n) xs) ≡ all_wait n (choice_of xs) b
unfolding all_wait
all_wait-listed n xs b l =
    let e = each_input (λ i x. waits_in x (b.waiting i)) (λ k. all_wait k (choice_of xs) b) 0 n n xs (omega arith) l
    (λ k j i q. ap (λ (w : ℕ). all_wait w (choice_of xs) b) (add-one j) ∙ ap (λ (w : ℕ). waits_in (get_or xs w Nothing) (b.waiting j) && all_wait j (choice_of xs) b) (omega arith)) in
    grind (arith, e)

pub all_settled-listed : (n : ℕ) (gets : ℕ → Option Cell) (xs : List Arrival) (b : Box) → n ≤ length xs → list_all (λ (p : ℕ × Arrival). settled gets p.1 (b.waiting p.0)) (zip (range_with_len 0 n) xs) ≡ all_settled n gets (choice_of xs) b
unfolding all_settled
all_settled-listed n gets xs b l =
    let e = each_input (λ i x. settled gets x (b.waiting i)) (λ k. all_settled k gets (choice_of xs) b) 0 n n xs (omega arith) l
    (λ k j i q. ap (λ (w : ℕ). all_settled w gets (choice_of xs) b) (add-one j) ∙ ap (λ (w : ℕ). settled gets (get_or xs w Nothing) (b.waiting j) && all_settled j gets (choice_of xs) b) (omega arith)) in
    grind (arith, e)

-- one list, up to the cell that its input sends
pub settled-listed : (gets : ℕ → Option Cell) (x : Arrival) (l : List Cell) →
    list_all (λ (c : Cell). beats (gets c.output) c) (take (prefix_len (λ (c : Cell). not (is_named c.output x)) l) l) ≡ settled gets x l
unfolding settled
settled-listed gets x [] = refl
settled-listed gets x (c ∷ l) =
    elim (cases_Bool (is_named c.output x)) [
      | inl t ↦
          ap (λ (w : Bool). list_all (λ (d : Cell). beats (gets d.output) d) (take (cond (not w) (1 + prefix_len (λ (d : Cell). not (is_named d.output x)) l) 0) (c ∷ l))) t
          ∙ sym (ap (λ (w : Bool). w || (beats (gets c.output) c && settled gets x l)) t)
      | inr t ↦
          let e : 1 + prefix_len (λ (d : Cell). not (is_named d.output x)) l ≡ suc (prefix_len (λ (d : Cell). not (is_named d.output x)) l) = omega arith in
          ap (λ (w : Bool). list_all (λ (d : Cell). beats (gets d.output) d) (take (cond (not w) (1 + prefix_len (λ (d : Cell). not (is_named d.output x)) l) 0) (c ∷ l))) t
          ∙ (ap (λ (k : ℕ). list_all (λ (d : Cell). beats (gets d.output) d) (take k (c ∷ l))) e
          ∙ (ap (λ (w : Bool). beats (gets c.output) c && w) (settled-listed gets x l)
          ∙ sym (ap (λ (w : Bool). w || (beats (gets c.output) c && settled gets x l)) t)))
    ]

-- each of those cells is for one of 32 outputs
pub aimed_at : (n k : ℕ) (l m : List Cell) (y : Cell) → l ≡ m → AllByRecursion (λ (d : Cell). d.output < 32) l → k < length (take n m) → y ≡ get_or (take n m) k y → y.output < 32
aimed_at n k l m y e a h q =
    subst (λ (d : Cell). d.output < 32) (sym q)
    (All-get_or (λ (d : Cell). d.output < 32) (take n m) k y h (All-take (λ (d : Cell). d.output < 32) n m (subst (λ (z : List Cell). AllByRecursion (λ (d : Cell). d.output < 32) z) e a)))
