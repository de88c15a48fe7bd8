-- How many asks there are: each takes one from the pairs that may still be asked for, so the finding ends.
use Rattle.std.proofs.Common.{◌≡◌, ℕ, zero, suc, ◌+◌, ◌<◌, ◌≤◌, Bool, true, false, cond, not, ◌&&◌, eqb, ◌⊎◌, List, [], ◌∷◌, Some, None, Option, sym, refl, ap, ◌∙◌, subst, inl, inr, suc-add, zero-add, arith}
use Rattle.std.proofs.lemmas.Bool.{cases_Bool, cases_eq, eq-eqb, and_parts}
use Rattle.std.proofs.lemmas.Bool.Decides.{nat_tests}
use Rattle.crossbox.specs.declared.Cell.{Cell}
use Rattle.crossbox.specs.Cells.{is_in}
use Rattle.crossbox.specs.Box.{Box, for_output}
use Rattle.crossbox.specs.Shape.{WellPlaced}
use Rattle.crossbox.specs.Matching.{Finding, unasked, is_for, next_ask, prefers, keeping, refusing, answered, asked, after_asks, count, count_pairs, some, waits_at, pairs, FindingEnds, EndedStays, AsksAreFew}
use Rattle.crossbox.proofs.Lists.{is_in-for_output}
use Rattle.crossbox.proofs.Shape.{none-is_in}
use Rattle.crossbox.proofs.Asking.{some-none, content-none, Asked, next-asked, next-ended, ended-next}

-- counting

count_le : (p q : ℕ → Bool) (k : ℕ) → ((i : ℕ) → p i ≡ true → q i ≡ true) → count p k ≤ count q k
unfolding count
count_le p q zero f = omega arith
count_le p q (suc k) f =
    let ih = count_le p q k f in
    let x = f k in
    grind (arith, ih, x)

count_less : (p q : ℕ → Bool) (k j : ℕ) → ((i : ℕ) → p i ≡ true → q i ≡ true) → j < k → p j ≡ false → q j ≡ true → count p k < count q k
unfolding count
count_less p q zero j f l h g = absurd (omega arith)
count_less p q (suc k) j f l h g =
    let x = f k in
    elim (cases_eq j k) [
      | inl e ↦
          (let le = count_le p q k f in
          let u : p k ≡ false = subst (λ z. p z ≡ false) e h in
          let v : q k ≡ true = subst (λ z. q z ≡ true) e g in
          grind (arith, le, u, v))
      | inr e ↦ (let ih = count_less p q k j f (omega arith) h g in grind (arith, ih, x))
    ]

pairs_le : (p q : ℕ → ℕ → Bool) (k n : ℕ) → ((i o : ℕ) → p i o ≡ true → q i o ≡ true) → count_pairs p k n ≤ count_pairs q k n
unfolding count_pairs
pairs_le p q zero n f = omega arith
pairs_le p q (suc k) n f =
    let ih = pairs_le p q k n f in
    let x = count_le (p k) (q k) n (f k) in
    omega arith

pairs-less : (p q : ℕ → ℕ → Bool) (k n i o : ℕ) → ((i o : ℕ) → p i o ≡ true → q i o ≡ true) → i < k → o < n → p i o ≡ false → q i o ≡ true → count_pairs p k n < count_pairs q k n
unfolding count_pairs
pairs-less p q zero n i o f l m h g = absurd (omega arith)
pairs-less p q (suc k) n i o f l m h g =
    elim (cases_eq i k) [
      | inl e ↦
          (let le = pairs_le p q k n f in
          let x = count_less (p k) (q k) n o (f k) m (subst (λ z. p z o ≡ false) e h) (subst (λ z. q z o ≡ true) e g) in
          omega arith)
      | inr e ↦
          (let ih = pairs-less p q k n i o f (omega arith) m h g in
          let x = count_le (p k) (q k) n (f k) in
          omega arith)
    ]

-- the pairs that may still be asked for

some_in : (c : Cell) (l : List Cell) → is_in c l ≡ true → some l ≡ true
some_in c [] h = absurd (none-is_in c h)
some_in c (d ∷ l) h = refl

-- whether output o may still ask for a cell at input i: one waits, it was not refused, and none is kept
abbrev left : Box → Finding → ℕ → ℕ → Bool
left b s i o = waits_at b i o && (not (s.refused i o) && not (is_for o (s.kept i)))

-- an ask leaves no more pairs than there were
left_kept : (b : Box) (c : Cell) (s : Finding) (x : Option Cell) → s.kept c.input ≡ x → (i o : ℕ) → (waits_at b i o && (not (refusing c.input x s.refused i o) && not (is_for o (keeping c.input c s.kept i)))) ≡ true → left b s i o ≡ true
left_kept b c s None e i o h =
    let k : i ≡ c.input → is_for o (s.kept i) ≡ false = λ p. ap (λ z. is_for o (s.kept z)) p ∙ ap (λ z. is_for o z) e in
    grind (arith, nat_tests, k)
left_kept b c s (Some d) e i o h =
    let k : i ≡ c.input → is_for o (s.kept i) ≡ eqb d.output o =
    λ p. ap (λ z. is_for o (s.kept z)) p ∙ ap (λ z. is_for o z) e in
    grind (arith, nat_tests, k)

left_refused : (b : Box) (c : Cell) (s : Finding) (i o : ℕ) → (waits_at b i o && (not (refusing c.input (Some c) s.refused i o) && not (is_for o (s.kept i)))) ≡ true → left b s i o ≡ true
left_refused b c s i o h = grind arith

-- and takes the one that asked
left_kept_here : (b : Box) (c : Cell) (s : Finding) (x : Option Cell) → (waits_at b c.input c.output && (not (refusing c.input x s.refused c.input c.output) && not (is_for c.output (keeping c.input c s.kept c.input)))) ≡ false
left_kept_here b c s x =
    let u = eq-eqb c.input c.input refl in
    let v = eq-eqb c.output c.output refl in
    let w : is_for c.output (keeping c.input c s.kept c.input) ≡ true =
    ap (λ z. is_for c.output (cond z (Some c) (s.kept c.input))) u ∙ v in
    grind (arith, w)

left_refused_here : (b : Box) (c : Cell) (s : Finding) → (waits_at b c.input c.output && (not (refusing c.input (Some c) s.refused c.input c.output) && not (is_for c.output (s.kept c.input)))) ≡ false
left_refused_here b c s =
    let u = eq-eqb c.input c.input refl in
    let v = eq-eqb c.output c.output refl in
    grind (arith, u, v)

left-asked : (n : ℕ) (b : Box) (s : Finding) (c : Cell) → WellPlaced n b → Asked n b s c → left b s c.input c.output ≡ true
left-asked n b s c p ask =
    let w = ask.waits in
    let l = p c.input c w in
    let f = is_in-for_output c c.output (b.waiting c.input) in
    let v = eq-eqb c.output c.output refl in
    let i : is_in c (for_output c.output (b.waiting c.input)) ≡ true = grind (arith, f, v, w) in
    let u = some_in c (for_output c.output (b.waiting c.input)) i in
    let r = ask.welcome in
    let k = content-none n c.output s ask.discontent c.input l.1 in
    grind (arith, u, r, k)

-- how many pairs may still be asked for
abbrev lefts : ℕ → Box → Finding → ℕ
lefts n b s = count_pairs (left b s) n n

lefts-answered : (n : ℕ) (b : Box) (s : Finding) (c : Cell) → WellPlaced n b → Asked n b s c → (x : Option Cell) → s.kept c.input ≡ x → lefts n b (answered b c x s) < lefts n b s
lefts-answered n b s c p ask x e =
    let l = p c.input c ask.waits in
    let was = left-asked n b s c p ask in
    let keeps : Finding =
    record { kept = keeping c.input c s.kept; refused = refusing c.input x s.refused; asks = suc s.asks } in
    let refuses : Finding =
    record { kept = s.kept; refused = refusing c.input (Some c) s.refused; asks = suc s.asks } in
    elim (cases_Bool (prefers b c x)) [
      | inl t ↦
          subst (λ z. lefts n b (cond z keeps refuses) < lefts n b s) (sym t) (pairs-less (left b keeps) (left b s) n n c.input c.output (left_kept b c s x e) l.1 l.2 (left_kept_here b c s x) was)
      | inr t ↦
          subst (λ z. lefts n b (cond z keeps refuses) < lefts n b s) (sym t) (pairs-less (left b refuses) (left b s) n n c.input c.output (left_refused b c s) l.1 l.2 (left_refused_here b c s) was)
    ]

asks_either : (t : Bool) (x y : Finding) (k : ℕ) → x.asks ≡ k → y.asks ≡ k → (cond t x y).asks ≡ k
asks_either true x y k e f = e
asks_either false x y k e f = f

asks_answered : (b : Box) (c : Cell) (x : Option Cell) (s : Finding) → (answered b c x s).asks ≡ suc s.asks
asks_answered b c x s =
    asks_either (prefers b c x) (record { kept = keeping c.input c s.kept; refused = refusing c.input x s.refused; asks = suc s.asks }) (record { kept = s.kept; refused = refusing c.input (Some c) s.refused; asks = suc s.asks }) (suc s.asks) refl refl

lefts-unasked : (n : ℕ) (b : Box) → lefts n b unasked ≤ pairs n b
lefts-unasked n b =
    pairs_le (left b unasked) (waits_at b) n n (λ i o h. (and_parts (waits_at b i o) (not (unasked.refused i o) && not (is_for o (unasked.kept i))) h).0)

-- asks so far, and pairs that may still be asked for
asks_asked : (n : ℕ) (b : Box) (s : Finding) → WellPlaced n b → (x : Option Cell) → next_ask n n b s ≡ x → lefts n b s + s.asks ≤ pairs n b → lefts n b (asked b x s) + (asked b x s).asks ≤ pairs n b
asks_asked n b s p None e h = h
asks_asked n b s p (Some c) e h =
    let l = lefts-answered n b s c p (next-asked n b s c p e) (s.kept c.input) refl in
    let a = asks_answered b c (s.kept c.input) s in
    omega arith

asks_after : (n : ℕ) (b : Box) → WellPlaced n b → (k : ℕ) → lefts n b (after_asks k n b) + (after_asks k n b).asks ≤ pairs n b
unfolding after_asks
asks_after n b p zero = let l = lefts-unasked n b in omega arith
asks_after n b p (suc k) =
    asks_asked n b (after_asks k n b) p (next_ask n n b (after_asks k n b)) refl (asks_after n b p k)

pub asks_are_few : AsksAreFew
asks_are_few n b p k = let h = asks_after n b p k in omega arith

-- the finding has ended, or each step was an ask
ends_asked : (n : ℕ) (b : Box) (s : Finding) (k : ℕ) (x : Option Cell) → next_ask n n b s ≡ x → (next_ask n n b s ≡ None) ⊎ (s.asks ≡ k) → (next_ask n n b (asked b x s) ≡ None) ⊎ ((asked b x s).asks ≡ suc k)
ends_asked n b s k None e h = inl e
ends_asked n b s k (Some c) e h =
    elim h [
      | inl z ↦ absurd (some-none (sym e ∙ z))
      | inr z ↦ inr (asks_answered b c (s.kept c.input) s ∙ ap suc z)
    ]

ends_after : (n : ℕ) (b : Box) (k : ℕ) → (next_ask n n b (after_asks k n b) ≡ None) ⊎ ((after_asks k n b).asks ≡ k)
unfolding after_asks
ends_after n b zero = inr refl
ends_after n b (suc k) = ends_asked n b (after_asks k n b) k (next_ask n n b (after_asks k n b)) refl (ends_after n b k)

-- where all pairs have been asked for, nobody asks
ends_none : (n : ℕ) (b : Box) (s : Finding) → WellPlaced n b → lefts n b s ≡ 0 → (x : Option Cell) → next_ask n n b s ≡ x → next_ask n n b s ≡ None
ends_none n b s p z None e = e
ends_none n b s p z (Some c) e =
    absurd
    (let l = lefts-answered n b s c p (next-asked n b s c p e) (s.kept c.input) refl in
    omega arith)

pub finding_ends : FindingEnds
finding_ends n b p =
    let s = after_asks (pairs n b) n b in
    elim (ends_after n b (pairs n b)) [
      | inl e ↦ next-ended n b s e
      | inr e ↦
          (let h = asks_after n b p (pairs n b) in
          next-ended n b s (ends_none n b s p (omega arith) (next_ask n n b s) refl))
    ]

pub ended_stays : EndedStays
unfolding after_asks
ended_stays n b k e zero = ap (λ z. after_asks z n b) (zero-add k)
ended_stays n b k e (suc j) =
    let ih = ended_stays n b k e j in
    ap (λ z. after_asks z n b) (suc-add j k) ∙ (ap (λ s. asked b (next_ask n n b s) s) ih ∙ ap (λ x. asked b x (after_asks k n b)) (ended-next n b (after_asks k n b) e))
