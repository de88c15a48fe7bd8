-- Searches in rows: what is found among a row's numbers is what stands in its list.
use Rattle.std.proofs.Common.{◌≡◌, ℕ, zero, suc, ◌+◌, ◌-◌, ◌<◌, ◌≤◌, Bool, cond, eqb, ltb, Some, None, Option, List, [], ◌∷◌, map, reverse, length, sym, refl, ap, ap₂, subst, ◌∙◌, arith}
use Rattle.std.specs.List.{range_with_len, filter, prefix_len, position_or_len}
use Rattle.std.specs.Option.{MatchOption, is_some}
use Rattle.std.specs.Iterator.Adapters.{rev_source, rev_steps}
use Rattle.std.specs.declared.ops.Range.{Range}
use Rattle.std.specs.declared.iter.Rev.{Rev}
use Rattle.std.proofs.lemmas.List.{length-map, reverse-append}
use Rattle.std.proofs.lemmas.List.FromFn.{fill_by_all, length-map-range_with_len, map-range_with_len_more}
use Rattle.std.proofs.lemmas.Bool.Decides.{nat_tests}
use Rattle.std.proofs.lemmas.Iterator.{YieldsList}
use Rattle.std.proofs.lemmas.Iterator.Consumers.{YieldsList-from_shown}
use Rattle.crossbox.specs.declared.Cell.{Cell}
use Rattle.crossbox.specs.Cells.{earlier, count_earlier}
use Rattle.buffer.specs.Memory.{Mem, row_length, Sound}
use Rattle.cioq.specs.Spells.{cells}
use Rattle.cioq.specs.Transfers.{position, place_of_first, place_for, cell_at}
use Rattle.cioq.proofs.Lists.{cells-length, cells_at}

pub position_le : (o : ℕ) (l : List Cell) → position o l ≤ length l
unfolding position
position_le o [] = omega arith
position_le o (c ∷ l) = let ih = position_le o l in grind (arith, ih)

-- the list of a row has the cell of each of its numbers
pub cells_listed : (m : Mem) (r n : ℕ) → Sound m → r < m.count → n ≡ row_length m r → cells m r ≡ map (cell_at m r) (range_with_len 0 n)
cells_listed m r n s h e =
    let d : Cell = record { slot = 0; input = 0; output = 0 } in
    fill_by_all (cell_at m r) (cells m r) n d (omega (arith, cells-length m r s h)) (λ k l. cells_at m r k d s h (omega arith))

-- the first for an output
pub position_listed : (o : ℕ) (f : ℕ → Cell) (ks : List ℕ) → position o (map f ks) ≡ position_or_len (λ k. eqb (f k).output o) ks
unfolding position
position_listed o f [] = refl
position_listed o f (k ∷ ks) = let ih = position_listed o f ks in grind (arith, ih)

pub first_listed : (o : ℕ) (f : ℕ → Cell) (ks : List ℕ) → place_of_first o (map f ks) ≡ cond (ltb (position_or_len (λ k. eqb (f k).output o) ks) (length ks)) (Some (position_or_len (λ k. eqb (f k).output o) ks)) None
first_listed o f ks =
    ap₂ (λ (i n : ℕ). cond (ltb i n) (Some i) None) (position_listed o f ks) (length-map ks f)

pub found_is : (o k : ℕ) (l : List Cell) → place_of_first o l ≡ Some k → (k ≡ position o l) × (k < length l)
found_is o k l h =
    let a : k ≡ position o l = grind (arith, nat_tests, h) in
    let b : k < length l = grind (arith, nat_tests, h) in
    (a, b)

pub found_none : (o : ℕ) (l : List Cell) → place_of_first o l ≡ None → position o l ≡ length l
found_none o l h = let a = position_le o l in grind (arith, nat_tests, a, h)

pub found_test : (o : ℕ) (l : List Cell) → is_some (place_of_first o l) ≡ ltb (position o l) (length l)
found_test o l = grind (arith, nat_tests)

-- those that are earlier than a cell
pub earlier_listed : (x : Cell) (f : ℕ → Cell) (ks : List ℕ) → count_earlier x (map f ks) ≡ length (filter (λ k. earlier (f k) x) ks)
unfolding count_earlier
earlier_listed x f [] = refl
earlier_listed x f (k ∷ ks) = let ih = earlier_listed x f ks in grind (arith, ih)

-- numbers from the end of a range
abbrev pub downs : ℕ → ℕ → List ℕ
downs a zero = []
downs a (suc n) = (a + n) ∷ downs a n

abbrev pub nat_range_steps_back : Range ℕ → Option ℕ → Range ℕ → Type 0
nat_range_steps_back s r t =
    (t.start ≡ s.start) × MatchOption r ((s.end - s.start ≡ 0) × (t.end ≡ s.end)) (λ x. (0 < s.end - s.start) × (x ≡ t.end) × (s.end ≡ t.end + 1))

down_more : (a m n x : ℕ) → m ≡ suc n → x ≡ a + n → downs a m ≡ x ∷ downs a n
down_more a m n x e f =
    ap (downs a) e ∙ ap (λ (y : ℕ). y ∷ downs a n) (sym f)

pub YieldsList-from_end : (n : ℕ) (s : Rev (Range ℕ)) → rev_source s ≡ record { start = 0; end = n } → YieldsList (rev_steps nat_range_steps_back) (λ x. x) s (downs 0 n)
YieldsList-from_end n s e =
    let d : n - 0 ≡ n = omega arith in
    subst (λ (ks : List ℕ). YieldsList (rev_steps nat_range_steps_back) (λ x. x) s ks)
    (ap (λ (r : Range ℕ). downs r.start (r.end - r.start)) e ∙ ap (downs 0) d) (YieldsList-from_shown (rev_steps nat_range_steps_back) (λ x. x) (λ t. downs (rev_source t).start ((rev_source t).end - (rev_source t).start))
    (λ t u p. ap (λ (k : ℕ). length (downs (rev_source t).start k)) p.1.0)
    (λ t x u p. down_more (rev_source t).start ((rev_source t).end - (rev_source t).start) ((rev_source u).end - (rev_source u).start) x (omega (arith, p.0, p.1.0, p.1.2)) (omega (arith, p.0, p.1.0, p.1.1, p.1.2)) ∙ ap (λ (b : ℕ). x ∷ downs b ((rev_source u).end - (rev_source u).start)) (sym p.0))
    s)

prefix_listed : (p : Cell → Bool) (f : ℕ → Cell) (ks : List ℕ) → prefix_len p (map f ks) ≡ prefix_len (λ k. p (f k)) ks
prefix_listed p f [] = refl
prefix_listed p f (k ∷ ks) = ap (λ (n : ℕ). cond (p (f k)) (1 + n) 0) (prefix_listed p f ks)

reverse_listed : (f : ℕ → Cell) (n : ℕ) → reverse (map f (range_with_len 0 n)) ≡ map f (downs 0 n)
reverse_listed f zero = refl
reverse_listed f (suc n) =
    let e : suc n ≡ n + 1 = omega arith in
    ap (λ (k : ℕ). reverse (map f (range_with_len 0 k))) e
    ∙ (ap reverse (map-range_with_len_more f 0 n (0 + n) refl)
    ∙ (reverse-append (map f (range_with_len 0 n)) (f (0 + n) ∷ []) ∙ ap (λ (l : List Cell). f (0 + n) ∷ l) (reverse_listed f n)))

-- and where a cell belongs, sought from the end
pub place_listed : (c : Cell) (f : ℕ → Cell) (n : ℕ) → place_for c (map f (range_with_len 0 n)) ≡ n - prefix_len (λ k. earlier c (f k)) (downs 0 n)
unfolding place_for
place_listed c f n =
    ap₂ (λ (a b : ℕ). a - b) (length-map-range_with_len f 0 n)
    (ap (λ (l : List Cell). prefix_len (earlier c) l) (reverse_listed f n) ∙ prefix_listed (earlier c) f (downs 0 n))
