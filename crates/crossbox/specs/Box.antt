-- The real box: cells wait at inputs, in an order of their own, and are transferred to stores at outputs twice a slot. Assumes nothing.
-- `room` is how many cells the box holds for an output, `n` the number of inputs and of outputs, `t` the slot, `past` the slots so far.
use Rattle.std.specs.Prelude.{◌≡◌, ℕ, zero, suc, ◌+◌, ◌<◌, Bool, true, cond, not, ◌&&◌, ◌⊎◌, List, [], ◌∷◌, length, Some, None, Option, ◌==◌, nat_lt}
use Rattle.crossbox.specs.declared.Arrival.{Arrival}
use Rattle.crossbox.specs.declared.Arrival.TheVariants.{Nothing, For}
use Rattle.crossbox.specs.declared.Cell.{Cell}
use Rattle.crossbox.specs.Cells.{Arrivals, earlier, is_in, without, ahead, earliest}

-- what waits at each input, in its order, and what stands at each output
pub record Box : Type 0 where
  pub waiting : ℕ → List Cell
  pub store : ℕ → List Cell

-- the box before the first slot
abbrev pub empty : Box
empty = record { waiting = λ i. []; store = λ o. [] }

-- a cell put behind the first k cells of a list, or at its end if it is shorter
unfoldable pub put_at : ℕ → Cell → List Cell → List Cell
put_at zero c ds = c ∷ ds
put_at (suc k) c [] = c ∷ []
put_at (suc k) c (d ∷ ds) = d ∷ put_at k c ds

-- a cell put into a store before the first that is later
unfoldable pub slip : Cell → List Cell → List Cell
slip c [] = c ∷ []
slip c (d ∷ ds) = cond (earlier c d) (c ∷ d ∷ ds) (d ∷ slip c ds)

-- cells put into a store one after the other
unfoldable pub slip_all : List Cell → List Cell → List Cell
slip_all [] ds = ds
slip_all (c ∷ cs) ds = slip c (slip_all cs ds)

-- the cells of a list that are for output o
unfoldable pub for_output : ℕ → List Cell → List Cell
for_output o [] = []
for_output o (c ∷ cs) = cond (c.output == o) (c ∷ for_output o cs) (for_output o cs)

-- how many cells the box holds for output o, in its store and in the lists of the first n inputs
unfoldable pub held_for : ℕ → ℕ → Box → ℕ
held_for zero o b = length (b.store o)
held_for (suc n) o b = held_for n o b + length (for_output o (b.waiting n))

-- 1 if what arrives is for output o and there is room for it, else 0
abbrev pub one_if : ℕ → Arrival → Bool → ℕ
one_if o Nothing x = 0
one_if o (For p) x = cond (p == o && x) 1 0

-- how many cells for output o that arrive by the first inputs are taken, so many being held before
unfoldable pub taken_for : ℕ → ℕ → ℕ → Arrivals → ℕ → ℕ
taken_for room held o a zero = 0
taken_for room held o a (suc i) =
    taken_for room held o a i + one_if o (a i) (nat_lt (held + taken_for room held o a i) room)

-- whether there is room for what arrives by input i
abbrev pub room_for : ℕ → ℕ → ℕ → Arrivals → Box → Arrival → Bool
room_for room n i a b Nothing = true
room_for room n i a b (For o) = nat_lt (held_for n o b + taken_for room (held_for n o b) o a i) room

-- the list of input i with what arrives there in slot t, behind as many cells as stand in the store of its output
abbrev pub taken : ℕ → ℕ → Arrival → Box → List Cell
taken t i Nothing b = b.waiting i
taken t i (For o) b =
    put_at (length (b.store o)) (record { slot = t; input = i; output = o }) (b.waiting i)

-- the box when the cells of the first k inputs have arrived in slot t, those for which there is room
abbrev pub arriving : ℕ → ℕ → ℕ → ℕ → Arrivals → Box → Box
arriving k room n t a b =
    record {
      waiting = λ i. cond (nat_lt i k && room_for room n i a b (a i)) (taken t i (a i) b) (b.waiting i);
      store = b.store;
    }

-- all that arrives in slot t has arrived
abbrev pub arrive : ℕ → ℕ → ℕ → Arrivals → Box → Box
arrive room n t a b = arriving n room n t a b

-- a list less some cells
unfoldable pub without_all : List Cell → List Cell → List Cell
without_all ms [] = []
without_all ms (d ∷ ds) = cond (is_in d ms) (without_all ms ds) (d ∷ without_all ms ds)

-- chosen cells go from the lists to the stores
abbrev pub transfer : List Cell → Box → Box
transfer ms b =
    record { waiting = λ i. without_all ms (b.waiting i); store = λ o. slip_all (for_output o ms) (b.store o) }

-- what departs by output o
abbrev pub departs : ℕ → Box → Option Cell
departs o b = earliest (b.store o)

-- a list less a cell, if there is one
abbrev pub less : Option Cell → List Cell → List Cell
less None ds = ds
less (Some c) ds = without c ds

-- from each store the earliest cell departs
abbrev pub depart : Box → Box
depart b = record { waiting = b.waiting; store = λ o. less (departs o b) (b.store o) }

-- whether a cell has neither its input nor its output with any cell of a list
unfoldable pub shares_none : Cell → List Cell → Bool
shares_none c [] = true
shares_none c (d ∷ ds) =
    not (c.input == d.input) && (not (c.output == d.output) && shares_none c ds)

-- whether no two cells of a list have one input or one output
unfoldable pub one_each : List Cell → Bool
one_each [] = true
one_each (c ∷ cs) = shares_none c cs && one_each cs

-- a reason for a waiting cell to stay: its input sends a cell that stands before it, or its output gets an earlier one
abbrev pub Reason : Box → List Cell → Cell → Type 0
Reason b ms c =
    (m : Cell) × (is_in m ms ≡ true) × (((m.input ≡ c.input) × (ahead m (b.waiting c.input) < ahead c (b.waiting c.input))) ⊎ ((m.output ≡ c.output) × (earlier m c ≡ true)))

-- a stable choice of cells: each waits, no two by one input or for one output, and none is left behind without a reason
pub record Stable (b : Box) (ms : List Cell) : Type 0 where
  pub waits : (c : Cell) → is_in c ms ≡ true → is_in c (b.waiting c.input) ≡ true
  pub single : one_each ms ≡ true
  pub why : (c : Cell) → is_in c (b.waiting c.input) ≡ true → (is_in c ms ≡ true) ⊎ Reason b ms c

-- the box when what arrives has arrived, in the slot after these
abbrev pub arrived : ℕ → ℕ → List Arrivals → Arrivals → Box → Box
arrived room n past a b = arrive room n (length past) a b

-- the box when, besides, chosen cells have been transferred and the earliest have departed
abbrev pub departed : ℕ → ℕ → List Arrivals → Arrivals → List Cell → Box → Box
departed room n past a ms b = depart (transfer ms (arrived room n past a b))

-- the boxes after these slots, the latest first: in each, cells arrive, a stable choice is transferred, the earliest depart,
-- and a stable choice is transferred again
pub data Run (room n : ℕ) : List Arrivals → Box → Type 0 where
  begin : Run room n [] empty
  slot : {past : List Arrivals} {b : Box} (a : Arrivals) (ms ns : List Cell) → Run room n past b → Stable (arrived room n past a b) ms → Stable (departed room n past a ms b) ns → Run room n (a ∷ past) (transfer ns (departed room n past a ms b))
