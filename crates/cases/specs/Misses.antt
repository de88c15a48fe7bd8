-- What comes near the real box and is not meant, as rows of one table: a manner, and slots in which it goes wrong. Assumes nothing.
use Rattle.std.specs.Prelude.{◌≡◌, ℕ, zero, suc, ◌+◌, ◌<◌, ◌≤◌, true, false, cond, List, [], ◌∷◌, ◌++◌, length, Some, None, Option, ◌≢◌, nat_lt}
use Prim.Native.String.{String}
use Rattle.std.specs.List.{AllByRecursion}
use Rattle.crossbox.specs.declared.Cell.{Cell}
use Rattle.crossbox.specs.Cells.{Arrivals, is_in, earliest}
use Rattle.crossbox.specs.Ideal.{first, departure}
use Rattle.crossbox.specs.Box.{Box, Stable, Reason, arrive, held_for, taken_for, slip_all, shares_none, one_each}
use Rattle.crossbox.specs.Shape.{WellPlaced}
use Rattle.crossbox.specs.Matching.{find}
use Rattle.cases.specs.Writing.{cell, signs, slots}
use Rattle.cases.specs.Manner.{Manner, ours, putting, at_first, sent, leaves, Alike, found}

-- everything is turned away, since there is no room
abbrev pub closed : Manner
closed =
    record { room = 0; behind = ours.behind; choice = find; joined = slip_all; leaver = earliest; again = true }

-- new cells are put at the ends of lists
abbrev pub at_ends : Manner
at_ends = putting (λ n t a b i o. length (b.waiting i))

-- new cells are put at the front
abbrev pub at_front : Manner
at_front = putting (λ n t a b i o. 0)

-- k is counted in the stores as they would be after the first transfer of the slot
abbrev pub after_first : Manner
after_first = putting (λ n t a b i o. length ((found n (arrive 256 n t a b)).store o))

-- k counts all cells that the box holds for the output, those that arrived in this slot by smaller inputs too
abbrev pub all_held : Manner
all_held = putting (λ n t a b i o. held_for n o b + taken_for 256 (held_for n o b) o a i)

-- one transfer a slot
abbrev pub once : Manner
once =
    record { room = 256; behind = ours.behind; choice = find; joined = slip_all; leaver = earliest; again = false }

-- from a store departs what went over first
abbrev pub first_over : Manner
first_over =
    record {
      room = 256;
      behind = ours.behind;
      choice = find;
      joined = λ ms ds. ds ++ ms;
      leaver = first;
      again = true;
    }

-- the second of two choices if it has more cells, else the first
abbrev pub larger : List Cell → List Cell → List Cell
larger ms ns = cond (nat_lt (length ms) (length ns)) ns ms

-- the largest of what `more` makes of a choice as it is, and with one of these cells that can be added
unfoldable pub with_one : (List Cell → List Cell) → List Cell → List Cell → List Cell
with_one more ms [] = more ms
with_one more ms (c ∷ cs) = larger (with_one more ms cs) (cond (shares_none c ms) (more (c ∷ ms)) ms)

-- the largest choice that can be made of a choice by adding cells of the first k inputs
unfoldable pub enlarged : ℕ → Box → List Cell → List Cell
enlarged zero b ms = ms
enlarged (suc k) b ms = with_one (enlarged k b) ms (b.waiting k)

-- a choice has as many cells as possible
abbrev pub largest : Manner
largest =
    record {
      room = 256;
      behind = ours.behind;
      choice = λ n b. enlarged n b [];
      joined = slip_all;
      leaver = earliest;
      again = true;
    }

-- a cell that waits is not chosen, and has no reason to stay
pub record LeftBehind (b : Box) (ms : List Cell) (c : Cell) : Type 0 where
  pub waits : is_in c (b.waiting c.input) ≡ true
  pub stays : is_in c ms ≡ false
  pub unreasoned : Reason b ms c → ⊥

-- what may be claimed of a slot
pub data Claim : Type 0 where
  -- by an output leaves this cell, or none, where another is due, or none
  Gives : (o : ℕ) → (given due : Option Cell) → Claim
  -- the same cells leave as leave the ideal box
  Same : Claim
  -- the first transfer is of these cells, and leaves one behind without a reason
  LeavesBehind : (ms : List Cell) → Cell → Claim

-- a row of the table: a manner, the slots before one, what arrives in it, and what is claimed of it
pub record Miss : Type 0 where
  pub manner : Manner
  pub lines : ℕ
  pub past : List Arrivals
  pub arrives : Arrivals
  pub claims : List Claim

-- a claim holds of a row
abbrev pub Holds : Miss → Claim → Type 0
Holds r (Gives o given due) =
    (leaves r.manner r.lines o r.past r.arrives ≡ given)
    × (departure 256 r.lines o r.past r.arrives ≡ due)
    × (given ≢ due)
Holds r Same = Alike r.manner r.lines (r.arrives ∷ r.past)
Holds r (LeavesBehind ms c) =
    (r.manner.choice r.lines (at_first r.manner r.lines r.past r.arrives) ≡ ms)
    × LeftBehind (at_first r.manner r.lines r.past r.arrives) ms c

-- a row, its slots as they are written
abbrev pub row : Manner → ℕ → List String → String → List Claim → Miss
row manner lines past arrives claims =
    record { manner = manner; lines = lines; past = slots past; arrives = signs arrives; claims = claims }

-- the table
abbrev pub misses : List Miss
misses =
    row closed 1 [] "0" (Gives 0 None (Some (cell 0 0 0)) ∷ [])
    ∷ row at_ends 3 ("000" ∷ []) "--1" (Gives 1 None (Some (cell 1 2 1)) ∷ [])
    ∷ row once 2 ("11" ∷ []) "-0" (Gives 1 None (Some (cell 0 1 1)) ∷ [])
    ∷ row largest 3 ("000" ∷ []) "--1" (LeavesBehind (cell 0 2 0 ∷ []) (cell 1 2 1) ∷ Gives 1 None (Some (cell 1 2 1)) ∷ [])
    ∷ row largest 3 ("000" ∷ "222" ∷ []) "2-0" (Same ∷ LeavesBehind (cell 2 0 2 ∷ cell 2 2 0 ∷ []) (cell 1 2 2) ∷ [])
    ∷ row after_first 3 ("000" ∷ []) "--1" (Gives 1 None (Some (cell 1 2 1)) ∷ [])
    ∷ row all_held 3 ("000" ∷ "000" ∷ "2-2" ∷ []) "--1" (Gives 2 None (Some (cell 2 2 2)) ∷ [])
    ∷ row first_over 3 ("222" ∷ "2-0" ∷ []) "---" (Gives 2 (Some (cell 1 0 2)) (Some (cell 0 2 2)) ∷ [])
    ∷ row at_front 3 ("000" ∷ "000" ∷ "000" ∷ "111" ∷ []) "--0" (Same ∷ LeavesBehind (cell 3 2 1 ∷ []) (cell 4 2 0) ∷ [])
    ∷ []

-- Every row of the table goes well up to its slot, and then every claim of it holds.
abbrev pub MissesGoWrong : Type 0
MissesGoWrong = AllByRecursion (λ r. Alike r.manner r.lines r.past × AllByRecursion (Holds r) r.claims) misses

-- Who is left behind without a reason shows that a choice is not stable.
abbrev pub LeftBehindIsUnstable : Type 0
LeftBehindIsUnstable = (b : Box) (ms : List Cell) (c : Cell) → LeftBehind b ms c → Stable b ms → ⊥

-- a cell that is due still waits when cells depart in the slot after these
abbrev pub Late : Manner → ℕ → List Arrivals → Arrivals → Cell → Type 0
Late m n past a c =
    (is_in c ((sent m n (at_first m n past a)).waiting c.input) ≡ true)
    × (departure 256 n c.output past a ≡ Some c)

-- In a box that turns everything away no cell is ever late.
abbrev pub ClosedIsNeverLate : Type 0
ClosedIsNeverLate = (n : ℕ) (past : List Arrivals) (a : Arrivals) (c : Cell) → Late closed n past a c → ⊥

-- a choice of cells that wait at the first n inputs, no two by one input or for one output
pub record Choice (n : ℕ) (b : Box) (ms : List Cell) : Type 0 where
  pub waits : (c : Cell) → is_in c ms ≡ true → (c.input < n) × (is_in c (b.waiting c.input) ≡ true)
  pub single : one_each ms ≡ true

-- What `largest` chooses is a choice, and no choice has more cells.
abbrev pub LargestIsLargest : Type 0
LargestIsLargest =
    (n : ℕ) (b : Box) → WellPlaced n b →
    Choice n b (largest.choice n b)
    × ((ms : List Cell) → Choice n b ms → length ms ≤ length (largest.choice n b))
