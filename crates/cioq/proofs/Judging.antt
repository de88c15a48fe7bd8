-- The test of a choice, loop by loop.
use Rattle.std.proofs.Common.{◌≡◌, ℕ, zero, suc, ◌+◌, ◌<◌, Bool, true, false, cond, not, ◌&&◌, ◌||◌, eqb, ltb, List, [], ◌∷◌, length, get_or, set, replicate, Some, None, Ok, Err, Option, sym, refl, ap, ◌∙◌, subst, inl, inr, add-one, arith}
use Rattle.std.specs.List.{AllByRecursion}
use Rattle.std.proofs.lemmas.List.{length-set, get_or-set_same, get_or-set_other, get_or-replicate}
use Rattle.std.proofs.lemmas.Bool.{cases_eq, cases_Bool, and_parts}
use Rattle.std.proofs.lemmas.Bool.Decides.{nat_tests}
use Rattle.crossbox.specs.declared.Arrival.{Arrival}
use Rattle.crossbox.specs.declared.Arrival.TheVariants.{Nothing, For}
use Rattle.crossbox.specs.declared.Cell.{Cell}
use Rattle.crossbox.specs.Cells.{Arrivals}
use Rattle.crossbox.specs.Ideal.{first}
use Rattle.crossbox.specs.Box.{Box, for_output}
use Rattle.crossbox.specs.Promise.{Fits}
use Rattle.words.specs.declared.fault.Fault.TheVariants.{NotWaiting, SharedOutput, Unstable}
use Rattle.bits.specs.Bits.{is_set}
use Rattle.cioq.specs.Choice.{first_for, named, also, picks, all_wait, is_named, named_before, is_new, one_output, beats, settled, all_settled, gets_of, table_of, noted, judge_choice}
use Rattle.cioq.specs.Transfers.{position}
use Rattle.bits.proofs.Sets.{none-set}
use Rattle.cioq.proofs.Named.{named_in}
use Rattle.cioq.proofs.Transferred.{one_output_at}

-- what is named waits just where its position is within the list
pub waits_test : (o : ℕ) (l : List Cell) → ltb (position o l) (length l) ≡ ltb 0 (length (for_output o l))
unfolding position for_output
waits_test o [] = refl
waits_test o (c ∷ l) = let ih = waits_test o l in grind (arith, nat_tests, ih)

pub none_named : (o : ℕ) (l : List Cell) → position o l ≡ length l → first_for o l ≡ None
unfolding position for_output
none_named o [] h = refl
none_named o (c ∷ l) h =
    elim (cases_Bool (eqb c.output o)) [
      | inl t ↦ absurd (let z : cond (eqb c.output o) 0 (suc (position o l)) ≡ 0 = ap (λ (w : Bool). cond w 0 (suc (position o l))) t in omega arith)
      | inr t ↦
          let z : cond (eqb c.output o) 0 (suc (position o l)) ≡ suc (position o l) = ap (λ (w : Bool). cond w 0 (suc (position o l))) t in
          ap (λ (w : Bool). first (cond w (c ∷ for_output o l) (for_output o l))) t ∙ none_named o l (omega arith)
    ]

pub one-not : (n k : ℕ) (ch : Arrivals) (o : ℕ) → k < n → ch k ≡ For o → named_before k ch o ≡ true → false ≡ one_output n ch
one-not n k ch o h e b =
    elim (cases_Bool (one_output n ch)) [
      | inl t ↦ absurd (let z = subst (λ (x : Arrival). is_new k ch x ≡ true) e (one_output_at n k ch t h) in grind arith)
      | inr t ↦ sym t
    ]

-- the outputs that the first k inputs name, as a set
abbrev pub Seen : ℕ → ℕ → Arrivals → Type 0
Seen outputs k ch = ((o : ℕ) → is_set outputs o ≡ named_before k ch o) × (one_output k ch ≡ true)

pub seen_none : (ch : Arrivals) → Seen 0 0 ch
unfolding named_before one_output
seen_none ch = (λ o. none-set o, refl)

pub seen_same : (outputs k : ℕ) (ch : Arrivals) → ch k ≡ Nothing → Seen outputs k ch → Seen outputs (k + 1) ch
unfolding named_before one_output
seen_same outputs k ch e h = (
  λ o. h.0 o ∙ sym (ap (λ (n : ℕ). named_before n ch o) (add-one k) ∙ ap (λ (x : Arrival). is_named o x || named_before k ch o) e),
  ap (λ (n : ℕ). one_output n ch) (add-one k) ∙ (ap (λ (x : Arrival). is_new k ch x && one_output k ch) e ∙ h.1),
)

pub seen_more : (outputs more k p : ℕ) (ch : Arrivals) → ch k ≡ For p → is_set outputs p ≡ false → ((j : ℕ) → is_set more j ≡ (eqb j p || is_set outputs j)) → Seen outputs k ch → Seen more (k + 1) ch
unfolding named_before one_output
seen_more outputs more k p ch e w f h =
    let new : named_before k ch p ≡ false = sym (h.0 p) ∙ w in (
      λ o. f o ∙ sym (ap (λ (n : ℕ). named_before n ch o) (add-one k) ∙ (ap (λ (x : Arrival). is_named o x || named_before k ch o) e ∙ (let q = h.0 o in grind (arith, nat_tests, q)))),
      ap (λ (n : ℕ). one_output n ch) (add-one k) ∙ (ap (λ (x : Arrival). is_new k ch x && one_output k ch) e ∙ (ap (λ (t : Bool). not t && one_output k ch) new ∙ h.1)),
    )

-- a list by output of what the first k inputs send
abbrev pub Table : List (Option Cell) → ℕ → Arrivals → Box → Type 0
Table gets k ch b = (length gets ≡ 32) × ((o : ℕ) → o < 32 → table_of gets o ≡ gets_of (picks k ch b) o)

noted_own : (gets : List (Option Cell)) (c : Cell) (ms : List Cell) (o : ℕ) → c.output ≡ o → o < length gets → table_of (noted (Some c) gets) o ≡ gets_of (c ∷ ms) o
unfolding for_output
noted_own gets c ms o q h =
    let y : eqb c.output o ≡ true = grind (arith, nat_tests) in
    ap (λ (k : ℕ). get_or (set gets k (Some c)) o None) q
    ∙ (get_or-set_same gets o (Some c) None h ∙ sym (ap (λ (w : Bool). first (cond w (c ∷ for_output o ms) (for_output o ms))) y))

noted_other : (gets : List (Option Cell)) (c : Cell) (ms : List Cell) (o : ℕ) → (c.output ≡ o → ⊥) → table_of gets o ≡ gets_of ms o → table_of (noted (Some c) gets) o ≡ gets_of (c ∷ ms) o
unfolding for_output
noted_other gets c ms o q e =
    let y : eqb c.output o ≡ false = grind (arith, nat_tests) in
    get_or-set_other gets c.output o (Some c) None (λ z. q (sym z))
    ∙ (e ∙ sym (ap (λ (w : Bool). first (cond w (c ∷ for_output o ms) (for_output o ms))) y))

noted_is : (gets : List (Option Cell)) (x : Option Cell) (ms : List Cell) (o : ℕ) → length gets ≡ 32 → o < 32 → table_of gets o ≡ gets_of ms o → table_of (noted x gets) o ≡ gets_of (also x ms) o
noted_is gets None ms o n h e = e
noted_is gets (Some c) ms o n h e =
    elim (cases_eq c.output o) [ inl q ↦ noted_own gets c ms o q (omega arith) | inr q ↦ noted_other gets c ms o q e ]

noted-length : (gets : List (Option Cell)) (x : Option Cell) → length (noted x gets) ≡ length gets
noted-length gets None = refl
noted-length gets (Some c) = length-set gets c.output (Some c)

pub table_none : (ch : Arrivals) (b : Box) → Table (replicate 32 None) 0 ch b
unfolding picks for_output
table_none ch b = (refl, λ o h. get_or-replicate 32 o None None h)

pub table_more : (gets more : List (Option Cell)) (k : ℕ) (ch : Arrivals) (b : Box) (x : Option Cell) → x ≡ named (ch k) (b.waiting k) → more ≡ noted x gets → Table gets k ch b → Table more (k + 1) ch b
unfolding picks
table_more gets more k ch b x e q h = (
  ap length q ∙ (noted-length gets x ∙ h.0),
  λ o l. ap (λ (g : List (Option Cell)). table_of g o) q
      ∙ (noted_is gets x (picks k ch b) o h.0 l (h.1 o l)
      ∙ (ap (λ (z : Option Cell). gets_of (also z (picks k ch b)) o) e ∙ sym (ap (λ (n : ℕ). gets_of (picks n ch b) o) (add-one k)))),
)

-- what is named is for an output that is there
pub named_there : (n k : ℕ) (ch : Arrivals) (l : List Cell) (x : Option Cell) → x ≡ named (ch k) l → Fits n ch → k < n → (c : Cell) → x ≡ Some c → c.output < n
named_there n k ch l x e f h c q = f k c.output h (named_in (ch k) l c (sym e ∙ q)).1

-- a list of which all is settled
pub all_settled_at : (n k : ℕ) (gets : ℕ → Option Cell) (ch : Arrivals) (b : Box) → all_settled n gets ch b ≡ true → k < n → settled gets (ch k) (b.waiting k) ≡ true
unfolding all_settled
all_settled_at zero k gets ch b h l = absurd (omega arith)
all_settled_at (suc n) k gets ch b h l =
    let p = and_parts (settled gets (ch n) (b.waiting n)) (all_settled n gets ch b) h in
    elim (cases_eq k n) [
      | inl e ↦ subst (λ (z : ℕ). settled gets (ch z) (b.waiting z) ≡ true) (sym e) p.0
      | inr ne ↦ all_settled_at n k gets ch b p.1 (omega arith)
    ]

-- tables that agree on the outputs of waiting cells settle alike
settled_alike : (f g : ℕ → Option Cell) (x : Arrival) (l : List Cell) → ((o : ℕ) → o < 32 → f o ≡ g o) → AllByRecursion (λ (c : Cell). c.output < 32) l → settled f x l ≡ settled g x l
unfolding settled
settled_alike f g x [] h a = refl
settled_alike f g x (c ∷ l) h a =
    ap (λ (m : Option Cell). is_named c.output x || (beats m c && settled f x l)) (h c.output a.0)
    ∙ ap (λ (t : Bool). is_named c.output x || (beats (g c.output) c && t)) (settled_alike f g x l h a.1)

pub all_settled_alike : (n : ℕ) (f g : ℕ → Option Cell) (ch : Arrivals) (b : Box) → ((o : ℕ) → o < 32 → f o ≡ g o) → ((i : ℕ) → i < n → AllByRecursion (λ (c : Cell). c.output < 32) (b.waiting i)) → all_settled n f ch b ≡ all_settled n g ch b
unfolding all_settled
all_settled_alike zero f g ch b h a = refl
all_settled_alike (suc n) f g ch b h a =
    ap (λ (t : Bool). t && all_settled n f ch b) (settled_alike f g (ch n) (b.waiting n) h (a n (omega arith)))
    ∙ ap (λ (t : Bool). settled g (ch n) (b.waiting n) && t) (all_settled_alike n f g ch b h (λ i l. a i (omega arith)))

-- a choice of which all waits, and no two for one output, hangs on what is settled
module _ (n : ℕ) (ch : Arrivals) (b : Box) (w : all_wait n ch b ≡ true) (u : one_output n ch ≡ true) where
  judged_is : judge_choice n ch b ≡ cond (all_settled n (gets_of (picks n ch b)) ch b) (Ok tt) (Err Unstable)
  judged_is =
      ap (λ (t : Bool). cond t (cond (one_output n ch) (cond (all_settled n (gets_of (picks n ch b)) ch b) (Ok tt) (Err Unstable)) (Err SharedOutput)) (Err NotWaiting)) w
      ∙ ap (λ (t : Bool). cond t (cond (all_settled n (gets_of (picks n ch b)) ch b) (Ok tt) (Err Unstable)) (Err SharedOutput)) u

  pub judged_unstable : all_settled n (gets_of (picks n ch b)) ch b ≡ false → Err Unstable ≡ judge_choice n ch b
  judged_unstable e = sym (judged_is ∙ ap (λ (t : Bool). cond t (Ok tt) (Err Unstable)) e)

  pub judged_good : all_settled n (gets_of (picks n ch b)) ch b ≡ true → Ok tt ≡ judge_choice n ch b
  judged_good e = sym (judged_is ∙ ap (λ (t : Bool). cond t (Ok tt) (Err Unstable)) e)
