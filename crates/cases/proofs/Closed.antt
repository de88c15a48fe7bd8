-- In a box that turns everything away nothing ever waits, so no cell is late.
use Rattle.std.proofs.Common.{◌≡◌, ℕ, ◌+◌, Bool, true, false, cond, ◌&&◌, ltb, List, [], ◌∷◌, map, length, get_or, refl, ap, ◌∙◌, subst, arith}
use Rattle.std.specs.List.{range_with_len}
use Rattle.std.proofs.lemmas.Bool.{le-ltb, and_right}
use Rattle.crossbox.specs.declared.Arrival.{Arrival}
use Rattle.crossbox.specs.declared.Arrival.TheVariants.{Nothing, For}
use Rattle.crossbox.specs.declared.Cell.{Cell}
use Rattle.crossbox.specs.Cells.{Arrivals, is_in}
use Rattle.crossbox.specs.Box.{Box, held_for, taken_for, room_for, without_all}
use Rattle.crossbox.proofs.Shape.{none-is_in}
use Rattle.cases.specs.Manner.{listed, came, sent, after, at_first}
use Rattle.cases.specs.Misses.{closed, ClosedIsNeverLate}
use Rattle.cases.proofs.Ours.{line_same}

-- nothing waits
Idle : Box → Type 0
Idle b = (i : ℕ) → b.waiting i ≡ []

within-idle : (f : ℕ → List Cell) (n i : ℕ) → f i ≡ [] → get_or (map f (range_with_len 0 n)) i [] ≡ []
within-idle f n i h = line_same f n i (λ le. h) ∙ h

either_empty : (z : Bool) (l : List Cell) → l ≡ [] → cond z l l ≡ []
either_empty true l h = h
either_empty false l h = h

turned-away : (n t i : ℕ) (a : Arrivals) (b : Box) (z : Bool) (x : Arrival) → b.waiting i ≡ [] → cond (z && room_for 0 n i a b x) (listed closed n t a b i x) (b.waiting i) ≡ []
turned-away n t i a b z Nothing h = either_empty (z && true) (b.waiting i) h
turned-away n t i a b z (For o) h =
    let k = held_for n o b + taken_for 0 (held_for n o b) o a i in
    let none : (z && ltb k 0) ≡ false = and_right z (ltb k 0) (le-ltb k 0 (omega arith)) in
    ap (λ (w : Bool). cond w (listed closed n t a b i (For o)) (b.waiting i)) none ∙ h

came-idle : (n t : ℕ) (a : Arrivals) (b : Box) → Idle b → Idle (came closed n t a b)
unfolding Idle
came-idle n t a b h i = within-idle _ n i (turned-away n t i a b (ltb i n) (a i) (h i))

sent-idle : (n : ℕ) (b : Box) → Idle b → Idle (sent closed n b)
unfolding Idle without_all
sent-idle n b h i = within-idle _ n i (ap (λ (l : List Cell). without_all (closed.choice n b) l) (h i))

after-idle : (n : ℕ) (past : List Arrivals) → Idle (after closed n past)
unfolding Idle after
after-idle n [] i = refl
after-idle n (a ∷ past) i =
    let b = sent closed n (at_first closed n past a) in
    let h = sent-idle n (at_first closed n past a) (came-idle n (length past) a (after closed n past) (after-idle n past)) in
    sent-idle n _ (λ j. within-idle b.waiting n j (h j)) i

pub closed_is_never_late : ClosedIsNeverLate
unfolding Idle
closed_is_never_late n past a c l =
    let h = sent-idle n (at_first closed n past a) (came-idle n (length past) a (after closed n past) (after-idle n past)) in
    none-is_in c (subst (λ (l : List Cell). is_in c l ≡ true) (h c.input) l.0)
