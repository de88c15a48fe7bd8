-- A choice by input: which cells it names, and the lowest of its faults. Assumes nothing.
use Rattle.std.specs.Prelude.{◌≡◌, ℕ, zero, suc, ◌<◌, Bool, true, false, cond, not, ◌&&◌, ◌||◌, List, [], ◌∷◌, length, Some, None, Ok, Err, Option, Result, ◌==◌, nat_lt, slice_index_or, slice_set}
use Rattle.crossbox.specs.declared.Arrival.{Arrival}
use Rattle.crossbox.specs.declared.Arrival.TheVariants.{Nothing, For}
use Rattle.crossbox.specs.declared.Cell.{Cell}
use Rattle.crossbox.specs.Cells.{Arrivals, earlier, is_in}
use Rattle.crossbox.specs.Ideal.{first}
use Rattle.crossbox.specs.Box.{Box, Stable, for_output}
use Rattle.words.specs.declared.fault.Fault.{Fault}
use Rattle.words.specs.declared.fault.Fault.TheVariants.{NotWaiting, SharedOutput, Unstable}

-- a choice from a list, by input
abbrev pub choice_of : List Arrival → Arrivals
choice_of l i = slice_index_or l i Nothing

-- the first cell of a list that is for output o
abbrev pub first_for : ℕ → List Cell → Option Cell
first_for o l = first (for_output o l)

-- the cell of a list, if any, that a choice names
abbrev pub named : Arrival → List Cell → Option Cell
named Nothing l = None
named (For o) l = first_for o l

-- a list with a cell before it, if there is one
abbrev pub also : Option Cell → List Cell → List Cell
also None l = l
also (Some c) l = c ∷ l

-- the cells that a choice names at the first k inputs
unfoldable pub picks : ℕ → Arrivals → Box → List Cell
picks zero ch b = []
picks (suc k) ch b = also (named (ch k) (b.waiting k)) (picks k ch b)

-- whether the cell that is named waits in a list
abbrev pub waits_in : Arrival → List Cell → Bool
waits_in Nothing l = true
waits_in (For o) l = nat_lt 0 (length (for_output o l))

-- whether each named cell waits, of the first k inputs
unfoldable pub all_wait : ℕ → Arrivals → Box → Bool
all_wait zero ch b = true
all_wait (suc k) ch b = waits_in (ch k) (b.waiting k) && all_wait k ch b

-- whether a cell for output o is named
abbrev pub is_named : ℕ → Arrival → Bool
is_named o Nothing = false
is_named o (For p) = p == o

-- whether one of the first k inputs names a cell for output o
unfoldable pub named_before : ℕ → Arrivals → ℕ → Bool
named_before zero ch o = false
named_before (suc k) ch o = is_named o (ch k) || named_before k ch o

-- whether what is named has an output that none of the first k inputs names
abbrev pub is_new : ℕ → Arrivals → Arrival → Bool
is_new k ch Nothing = true
is_new k ch (For o) = not (named_before k ch o)

-- whether no two of the first k inputs name cells for one output
unfoldable pub one_output : ℕ → Arrivals → Bool
one_output zero ch = true
one_output (suc k) ch = is_new k ch (ch k) && one_output k ch

-- whether a cell is there, and earlier than another
abbrev pub beats : Option Cell → Cell → Bool
beats None c = false
beats (Some m) c = earlier m c

-- whether each cell of a list, up to the one that its input sends, has an output that gets an earlier one
unfoldable pub settled : (ℕ → Option Cell) → Arrival → List Cell → Bool
settled gets x [] = true
settled gets x (c ∷ l) = is_named c.output x || (beats (gets c.output) c && settled gets x l)

-- whether that holds at the first k inputs
unfoldable pub all_settled : ℕ → (ℕ → Option Cell) → Arrivals → Box → Bool
all_settled zero gets ch b = true
all_settled (suc k) gets ch b = settled gets (ch k) (b.waiting k) && all_settled k gets ch b

-- what each output gets of some cells
abbrev pub gets_of : List Cell → ℕ → Option Cell
gets_of ms o = first_for o ms

-- what each output gets, from a list by output
abbrev pub table_of : List (Option Cell) → ℕ → Option Cell
table_of gets o = slice_index_or gets o None

-- a list by output, with a cell noted for its own
abbrev pub noted : Option Cell → List (Option Cell) → List (Option Cell)
noted None gets = gets
noted (Some c) gets = slice_set gets c.output (Some c)

-- the lowest fault of a choice: a cell that does not wait, two for one output, one left behind without a reason
abbrev pub judge_choice : ℕ → Arrivals → Box → Result (Unit {0}) Fault
judge_choice n ch b =
    cond (all_wait n ch b)
    (cond (one_output n ch) (cond (all_settled n (gets_of (picks n ch b)) ch b) (Ok tt) (Err Unstable)) (Err SharedOutput))
    (Err NotWaiting)

-- A choice is taken just where each cell that it names waits, and it is stable.
abbrev pub JudgedIsStable : Type 0
JudgedIsStable =
    (n : ℕ) (ch : Arrivals) (b : Box) → ((i : ℕ) (c : Cell) → is_in c (b.waiting i) ≡ true → (c.input ≡ i) × (i < n)) →
    (Ok tt ≡ judge_choice n ch b → (all_wait n ch b ≡ true) × Stable b (picks n ch b))
    × (all_wait n ch b ≡ true → Stable b (picks n ch b) → Ok tt ≡ judge_choice n ch b)
