-- Where the loop begins, and what it has found when nobody asks.
use Rattle.std.proofs.Common.{◌≡◌, ℕ, zero, suc, ◌*◌, ◌<◌, ◌≤◌, Bool, true, false, cond, not, ◌&&◌, eqb, ltb, List, [], ◌∷◌, get_or, Some, None, Option, sym, refl, ap, ◌∙◌, subst, ap₂, suc-mul, add_comm, arith}
use Rattle.std.proofs.lemmas.Nat.{mul-le}
use Rattle.std.proofs.lemmas.Bool.{lt-ltb, and_parts, cond_both}
use Rattle.std.proofs.lemmas.Bool.Decides.{nat_tests}
use Rattle.crossbox.specs.declared.Arrival.{Arrival}
use Rattle.crossbox.specs.declared.Arrival.TheVariants.{Nothing, For}
use Rattle.crossbox.specs.declared.Cell.{Cell}
use Rattle.crossbox.specs.Box.{Box, Stable}
use Rattle.crossbox.specs.Matching.{Finding, unasked, content, after_asks, count, count_pairs, waits_at, pairs, with_kept, chosen, find}
use Rattle.crossbox.proofs.Asking.{some-none}
use Rattle.crossbox.proofs.Promise.{found_is_stable}
use Rattle.crossbox.proofs.Asks.{asks_are_few, finding_ends, ended_stays}
use Rattle.matching.specs.declared.Firsts.{Firsts}
use Rattle.matching.specs.declared.Found.{Found}
use Rattle.bits.specs.Bits.{is_set}
use Rattle.matching.specs.Table.{Ties, Finds, first_for, shown, picked, picks}
use Rattle.matching.specs.Asking.{Small}
use Rattle.matching.specs.Loop.{State, Tied}
use Rattle.matching.proofs.Heads.{first_in, waits_below}
use Rattle.bits.proofs.Sets.{some-set}
use Rattle.matching.proofs.Ask.{nobody_asks}

-- before the first ask

content-unasked : (n p : ℕ) → content n p unasked ≡ false
unfolding content
content-unasked zero p = refl
content-unasked (suc n) p = content-unasked n p

-- an output for which any cell waits is one of the first n
waiting_test : (n : ℕ) (b : Box) (t : Firsts) → Ties t n b → (p : ℕ) → not (eqb (get_or t.waiting p 0) 0) ≡ true → ltb p n ≡ true
waiting_test n b t ties p h =
    let x : 0 < get_or t.waiting p 0 = grind (arith, nat_tests, h) in
    let k = some-set (get_or t.waiting p 0) x in
    lt-ltb p n (waits_below n b ties.placed k.0 p (sym (ties.waits k.0 p) ∙ k.1)).1

abbrev is_nothing : Arrival → Bool
is_nothing Nothing = true
is_nothing (For o) = false

-- whether a choice names no output
abbrev pub nothings : List Arrival → Bool
nothings [] = true
nothings (x ∷ l) = is_nothing x && nothings l

is_nothing_lem : (x : Arrival) → is_nothing x ≡ true → x ≡ Nothing
is_nothing_lem Nothing h = refl
is_nothing_lem (For o) h = absurd (grind arith)

nothings_at : (l : List Arrival) → nothings l ≡ true → (i : ℕ) → get_or l i Nothing ≡ Nothing
nothings_at [] h i = refl
nothings_at (x ∷ l) h zero = is_nothing_lem x (and_parts (is_nothing x) (nothings l) h).0
nothings_at (x ∷ l) h (suc i) = nothings_at l (and_parts (is_nothing x) (nothings l) h).1 i

pub begins : (n : ℕ) (b : Box) (t : Firsts) → Ties t n b → (choice : List Arrival) → nothings choice ≡ true → (asking : ℕ) → ((p : ℕ) → is_set asking p ≡ (ltb p n && not (eqb (get_or t.waiting p 0) 0))) → Tied n b (after_asks 0 n b) (record { choice = choice; askable = t.waiting; asking = asking }) × ((after_asks 0 n b).asks ≡ 0)
unfolding after_asks
begins n b t ties choice none asking h = (
  record {
    keeps = nothings_at choice none;
    leads = λ i c e. absurd (some-none (sym e));
    left = λ i o. (let w = ties.waits i o in grind (arith, w));
    asks = λ p. (let a = h p in let e = waiting_test n b t ties p in let u = content-unasked n p in grind (arith, a, e, u));
  },
  refl,
)

-- there are at most as many asks as pairs of inputs and outputs

count_few : (p : ℕ → Bool) (k : ℕ) → count p k ≤ k
unfolding count
count_few p zero = omega arith
count_few p (suc k) = let ih = count_few p k in grind (arith, ih)

pairs_few : (p : ℕ → ℕ → Bool) (k n : ℕ) → count_pairs p k n ≤ k * n
unfolding count_pairs
pairs_few p zero n = omega arith
pairs_few p (suc k) n =
    let ih = pairs_few p k n in
    let c = count_few (p k) n in
    let e = suc-mul k n in
    omega arith

pub asks_few : (n : ℕ) → n ≤ 32 → (b : Box) (t : Firsts) → Ties t n b → (k : ℕ) → (after_asks k n b).asks ≤ 1024
asks_few n fits b t ties k =
    let a = asks_are_few n b ties.placed k in
    let p = pairs_few (waits_at b) n n in
    let m = mul-le n n 32 32 fits fits in
    omega arith

-- what the choice names

shown_small : (n : ℕ) → n ≤ 32 → (b : Box) (t : Firsts) → Ties t n b → (i : ℕ) (x : Option Cell) → ((c : Cell) → x ≡ Some c → first_for c.output (b.waiting i) ≡ Some c) → Small (shown x)
shown_small n fits b t ties i None f = tt
shown_small n fits b t ties i (Some c) f =
    let g = first_in c.output (b.waiting i) c (f c refl) in omega (arith, (ties.placed i c g.0).2)

pub choice_small : (n : ℕ) → n ≤ 32 → (b : Box) (t : Firsts) → Ties t n b → (s : Finding) (st : State) → Tied n b s st → (i : ℕ) → Small (get_or st.choice i Nothing)
choice_small n fits b t ties s st tied i =
    subst (λ z. Small z) (sym (tied.keeps i)) (shown_small n fits b t ties i (s.kept i) (tied.leads i))

pub cond_small : (r x y : Arrival) (w : Bool) → r ≡ cond w x y → Small x → Small y → Small r
cond_small r x y w e f g =
    subst (λ z. Small z) (sym e) (cond_both w x y (λ z. Small z) (λ _. f) (λ _. g))

-- when nobody asks

kept_nobody : (n : ℕ) (b : Box) (t : Firsts) → Ties t n b → (i : ℕ) → n ≤ i → (x : Option Cell) → ((c : Cell) → x ≡ Some c → first_for c.output (b.waiting i) ≡ Some c) → shown x ≡ Nothing
kept_nobody n b t ties i l None f = refl
kept_nobody n b t ties i l (Some c) f =
    absurd
    (let g = first_in c.output (b.waiting i) c (f c refl) in
    omega (arith, (ties.placed i c g.0).1))

picked_is : (l : List Cell) (x : Option Cell) → ((c : Cell) → x ≡ Some c → first_for c.output l ≡ Some c) → picked (shown x) l ≡ x
picked_is l None f = refl
picked_is l (Some c) f = f c refl

-- the cells that the choice names are those that are kept
picks_are : (k : ℕ) (b : Box) (choice : List Arrival) (s : Finding) → ((i : ℕ) → get_or choice i Nothing ≡ shown (s.kept i)) → ((i : ℕ) (c : Cell) → s.kept i ≡ Some c → first_for c.output (b.waiting i) ≡ Some c) → picks k choice b ≡ chosen k s
unfolding picks chosen
picks_are zero b choice s f g = refl
picks_are (suc k) b choice s f g =
    ap₂ (λ x y. with_kept x y) (ap (λ z. picked z (b.waiting k)) (f k) ∙ picked_is (b.waiting k) (s.kept k) (g k)) (picks_are k b choice s f g)

pub ends : (n : ℕ) (b : Box) (t : Firsts) → Ties t n b → (k : ℕ) (r : Found) (st : State) → Tied n b (after_asks k n b) st → r.choice ≡ st.choice → st.asking ≡ 0 → (after_asks k n b).asks ≡ r.asks → Finds r n b
ends n b t ties k r st tied same e a =
    let here = nobody_asks n b t ties (after_asks k n b) st tied e in
    let there = finding_ends n b ties.placed in
    let p = pairs n b in
    let q : after_asks k n b ≡ after_asks p n b =
    sym (ended_stays n b k here p) ∙ (ap (λ z. after_asks z n b) (add_comm p k) ∙ ended_stays n b p there k) in
    let cells_are : picks n r.choice b ≡ find n b =
    ap (λ z. picks n z b) same ∙ (picks_are n b st.choice (after_asks k n b) tied.keeps tied.leads ∙ ap (λ z. chosen n z) q) in
    record {
      cells = cells_are;
      stable = subst (λ z. Stable b z) (sym cells_are) (found_is_stable n b ties.placed ties.order);
      sends = λ i. ap (λ z. get_or z i Nothing) same ∙ (tied.keeps i ∙ ap (λ z. shown (z.kept i)) q);
      leading = λ i c h. tied.leads i c (ap (λ z. z.kept i) q ∙ h);
      nobody = λ i l. ap (λ z. get_or z i Nothing) same ∙ (tied.keeps i ∙ kept_nobody n b t ties i l ((after_asks k n b).kept i) (tied.leads i));
      counted = sym a ∙ ap (λ z. z.asks) q;
    }
