-- The lists of the real box, gone through cell by cell.
use Rattle.std.proofs.Common.{◌≡◌, ℕ, zero, suc, ◌+◌, ◌<◌, ◌≤◌, Bool, true, ◌||◌, eqb, ltb, List, [], ◌∷◌, ◌++◌, length, get_or, take, sym, refl, ap, ◌∙◌, subst, inl, inr, arith}
use Rattle.std.proofs.lemmas.List.{take_more, take_all, length-take-le}
use Rattle.std.proofs.ByRecursion.{All-get_or}
use Rattle.std.proofs.lemmas.Bool.{cases_order, cond-true, cond-false, eq-eqb, ne_eqb, lt-ltb, le-ltb}
use Rattle.crossbox.specs.declared.Cell.{Cell}
use Rattle.crossbox.specs.Cells.{is_in}
use Rattle.crossbox.specs.Box.{Box}
use Rattle.crossbox.proofs.Cells.{same_refl}
use Rattle.matching.specs.Making.{grown}
use Rattle.cioq.specs.State.{State, Good, Aimed}
use Rattle.cioq.specs.Spells.{cells}
use Rattle.cioq.proofs.Lists.{cells-length}
use Rattle.fabric.specs.Real.{up_to, Tied}

module _ (s : State) (i k : ℕ) where
  up_below : (j : ℕ) → j < i → up_to s i k j ≡ cells s.mem j
  up_below j h = cond-true (ltb j i) (cells s.mem j) _ (lt-ltb j i h)

  up_here : up_to s i k i ≡ take k (cells s.mem i)
  up_here = cond-false (ltb i i) (cells s.mem i) _ (le-ltb i i (omega arith)) ∙ cond-true (eqb i i) (take k (cells s.mem i)) [] (eq-eqb i i refl)

  up_above : (j : ℕ) → i < j → up_to s i k j ≡ []
  up_above j h = cond-false (ltb j i) (cells s.mem j) _ (le-ltb j i (omega arith)) ∙ cond-false (eqb j i) (take k (cells s.mem j)) [] (ne_eqb j i (λ e. omega arith))

-- by cases on how an input stands to i
by_order : (i j : ℕ) (P : Type 0) → (j < i → P) → (j ≡ i → P) → (i < j → P) → P
by_order i j P a b c =
    elim (cases_order j i) [ inl e ↦ b e | inr s ↦ elim s [ inl l ↦ a l | inr l ↦ c l ] ]

-- one cell of a list more
pub grown-more : (s : State) (i k : ℕ) (c : Cell) → k < length (cells s.mem i) → c ≡ get_or (cells s.mem i) k c → (j : ℕ) → grown i c (up_to s i k) j ≡ up_to s i (k + 1) j
grown-more s i k c h e j =
    by_order i j (grown i c (up_to s i k) j ≡ up_to s i (k + 1) j)
    (λ l. cond-false (eqb j i) (up_to s i k j ++ (c ∷ [])) (up_to s i k j) (ne_eqb j i (λ z. omega arith)) ∙ (up_below s i k j l ∙ sym (up_below s i (k + 1) j l)))
    (λ z. subst (λ (w : ℕ). grown i c (up_to s i k) w ≡ up_to s i (k + 1) w) (sym z)
    (cond-true (eqb i i) (up_to s i k i ++ (c ∷ [])) (up_to s i k i) (eq-eqb i i refl)
    ∙ (ap (λ (l : List Cell). l ++ (c ∷ [])) (up_here s i k)
    ∙ (ap (λ (x : Cell). take k (cells s.mem i) ++ (x ∷ [])) e
    ∙ (sym (take_more (cells s.mem i) k c h) ∙ sym (up_here s i (k + 1)))))))
    (λ l. cond-false (eqb j i) (up_to s i k j ++ (c ∷ [])) (up_to s i k j) (ne_eqb j i (λ z. omega arith)) ∙ (up_above s i k j l ∙ sym (up_above s i (k + 1) j l)))

-- a list that is gone through is whole
pub list_done : (s : State) (i k : ℕ) → length (cells s.mem i) ≤ k → (j : ℕ) → up_to s i k j ≡ up_to s (i + 1) 0 j
list_done s i k h j =
    by_order i j (up_to s i k j ≡ up_to s (i + 1) 0 j)
    (λ l. up_below s i k j l ∙ sym (up_below s (i + 1) 0 j (omega arith)))
    (λ z. subst (λ (w : ℕ). up_to s i k w ≡ up_to s (i + 1) 0 w) (sym z) (up_here s i k ∙ (take_all k (cells s.mem i) h ∙ sym (up_below s (i + 1) 0 i (omega arith)))))
    (λ l. up_above s i k j l ∙ sym (nothing_yet s (i + 1) j (omega arith)))
  where
    nothing_yet : (s : State) (i j : ℕ) → i ≤ j → up_to s i 0 j ≡ []
    nothing_yet s i j h = elim (cases_order j i) [ inl e ↦ subst (λ (w : ℕ). up_to s i 0 w ≡ []) (sym e) (up_here s i 0) | inr q ↦ elim q [ inl l ↦ absurd (omega arith) | inr l ↦ up_above s i 0 j l ] ]

-- before the first list
pub none_yet : (s : State) (j : ℕ) → ◌≡◌ {A = List Cell} [] (up_to s 0 0 j)
none_yet s zero = sym (up_here s 0 0)
none_yet s (suc j) = sym (up_above s 0 0 (suc j) (omega arith))

-- so far the list has k cells
pub so_far : (s : State) (i k : ℕ) → k ≤ length (cells s.mem i) → length (up_to s i k i) ≡ k
so_far s i k h = ap (λ (l : List Cell). length l) (up_here s i k) ∙ length-take-le k (cells s.mem i) h

pub list_short : (s : State) (i : ℕ) → Good s → i < s.lines → length (cells s.mem i) ≤ 8224
list_short s i g h =
    omega (arith, cells-length s.mem i g.sound (omega (arith, g.few, g.rows)), g.sound.short i (omega (arith, g.few, g.rows)), g.rooms)

pub aimed_at : (s : State) (i k : ℕ) (c : Cell) → Aimed s → i < s.lines → k < length (cells s.mem i) → c ≡ get_or (cells s.mem i) k c → c.output < 32
aimed_at s i k c a h l e =
    subst (λ (x : Cell). x.output < 32) (sym e) (All-get_or (λ (x : Cell). x.output < 32) (cells s.mem i) k c l (a i h))

stands-first : (c : Cell) (ds : List Cell) → is_in c (c ∷ ds) ≡ true
unfolding is_in
stands-first c ds = ap (λ (w : Bool). w || is_in c ds) (same_refl c)

-- at last the lists are those of the box to which the memory is tied
pub all_lists : (s : State) (b : Box) → Tied s b → (j : ℕ) → up_to s s.lines 0 j ≡ b.waiting j
all_lists s b t j =
    by_order s.lines j (up_to s s.lines 0 j ≡ b.waiting j)
    (λ l. up_below s s.lines 0 j l ∙ t.lists j l)
    (λ z. subst (λ (w : ℕ). up_to s s.lines 0 w ≡ b.waiting w) (sym z) (up_here s s.lines 0 ∙ sym (nobody s.lines (b.waiting s.lines) (λ c i. omega (arith, (t.placed s.lines c i).1)))))
    (λ l. up_above s s.lines 0 j l ∙ sym (nobody j (b.waiting j) (λ c i. omega (arith, (t.placed j c i).1))))
  where
    nobody : (j : ℕ) (cs : List Cell) → ((c : Cell) → is_in c cs ≡ true → ⊥) → cs ≡ []
    nobody j [] h = refl
    nobody j (c ∷ cs) h = absurd (h c (stands-first c cs))
