-- The real box with the points left open in which another box may come near it, and our box as one of these. Assumes nothing.
-- `n` is the number of lines, `t` the slot, `a` what arrives, `past` the slots so far, the latest first. After each step the
-- box is written out, so that slots can be computed; a box that has nothing beyond its lines, as ours, is not changed by that.
use Rattle.std.specs.Prelude.{◌≡◌, ℕ, Bool, true, cond, ◌&&◌, List, [], ◌∷◌, map, length, Option, nat_lt}
use Rattle.std.specs.List.{range_with_len}
use Rattle.crossbox.specs.declared.Arrival.{Arrival}
use Rattle.crossbox.specs.declared.Arrival.TheVariants.{Nothing, For}
use Rattle.crossbox.specs.declared.Cell.{Cell}
use Rattle.crossbox.specs.Cells.{Arrivals, earliest}
use Rattle.crossbox.specs.Ideal.{departure}
use Rattle.crossbox.specs.Box.{Box, Run, empty, put_at, slip_all, for_output, room_for, arrived, transfer, depart, departs, less}
use Rattle.crossbox.specs.Matching.{find}
use Rattle.crossbox.specs.Promise.{AllFit}
use Rattle.cases.specs.Writing.{cell, within}

-- how a box goes about its slots
pub record Manner : Type 0 where
  -- how many cells it holds for an output
  pub room : ℕ
  -- behind how many cells of its list it puts what arrives by an input for an output
  pub behind : (n t : ℕ) → Arrivals → Box → (i o : ℕ) → ℕ
  -- which cells are transferred
  pub choice : (n : ℕ) → Box → List Cell
  -- a store, when these cells have gone over to it
  pub joined : List Cell → List Cell → List Cell
  -- which cell of a store departs
  pub leaver : List Cell → Option Cell
  -- whether there is a second transfer in a slot
  pub again : Bool

-- our box, but a new cell is put in otherwise
abbrev pub putting : ((n t : ℕ) → Arrivals → Box → (i o : ℕ) → ℕ) → Manner
putting behind =
    record { room = 256; behind = behind; choice = find; joined = slip_all; leaver = earliest; again = true }

-- our box
abbrev pub ours : Manner
ours = putting (λ n t a b i o. length (b.store o))

-- the list of input i with what arrives there
abbrev pub listed : Manner → ℕ → ℕ → Arrivals → Box → ℕ → Arrival → List Cell
listed m n t a b i Nothing = b.waiting i
listed m n t a b i (For o) = put_at (m.behind n t a b i o) (cell t i o) (b.waiting i)

-- all that arrives has arrived
abbrev pub came : Manner → ℕ → ℕ → Arrivals → Box → Box
came m n t a b =
    within n
    (record {
      waiting = λ i. cond (nat_lt i n && room_for m.room n i a b (a i)) (listed m n t a b i (a i)) (b.waiting i);
      store = b.store;
    })

-- chosen cells go over to the stores
abbrev pub over : Manner → List Cell → Box → Box
over m ms b =
    record { waiting = (transfer ms b).waiting; store = λ o. m.joined (for_output o ms) (b.store o) }

-- the box when the choice has been transferred
abbrev pub sent : Manner → ℕ → Box → Box
sent m n b = within n (over m (m.choice n b) b)

-- from each store a cell departs
abbrev pub left : Manner → ℕ → Box → Box
left m n b = within n (record { waiting = b.waiting; store = λ o. less (m.leaver (b.store o)) (b.store o) })

-- a slot to its end: after the departures there is a second transfer, or none
abbrev pub ended : Manner → ℕ → Box → Box
ended m n b = cond m.again (sent m n b) b

-- the box after these slots
unfoldable pub after : Manner → ℕ → List Arrivals → Box
after m n [] = empty
after m n (a ∷ past) = ended m n (left m n (sent m n (came m n (length past) a (after m n past))))

-- where cells are transferred for the first time in the slot after these
abbrev pub at_first : Manner → ℕ → List Arrivals → Arrivals → Box
at_first m n past a = came m n (length past) a (after m n past)

-- what leaves by output o in the slot after these
abbrev pub leaves : Manner → ℕ → ℕ → List Arrivals → Arrivals → Option Cell
leaves m n o past a = m.leaver ((sent m n (at_first m n past a)).store o)

-- in each of these slots the same cells leave the box as leave the ideal box
abbrev pub Alike : Manner → ℕ → List Arrivals → Type 0
Alike m n [] = Unit {0}
Alike m n (a ∷ past) =
    (map (λ o. leaves m n o past a) (range_with_len 0 n) ≡ map (λ o. departure 256 n o past a) (range_with_len 0 n))
    × Alike m n past

-- a box of the model when what is found has been transferred
abbrev pub found : ℕ → Box → Box
found n b = transfer (find n b) b

-- our box after these slots is one of a run, and goes on in the slot after them as the model's box does
pub record GoesOn (n : ℕ) (past : List Arrivals) (a : Arrivals) : Type 0 where
  pub run : Run 256 n past (after ours n past)
  pub departures : (o : ℕ) → leaves ours n o past a ≡ departs o (found n (arrived 256 n past a (after ours n past)))
  pub step : after ours n (a ∷ past) ≡ found n (depart (found n (arrived 256 n past a (after ours n past))))

-- Our box is the model's box, where all that arrives is for lines that are there,
abbrev pub OursIsTheModels : Type 0
OursIsTheModels = (n : ℕ) (past : List Arrivals) (a : Arrivals) → AllFit n (a ∷ past) → GoesOn n past a

-- and so the same cells leave it as leave the ideal box.
abbrev pub OursIsAlike : Type 0
OursIsAlike = (n : ℕ) (past : List Arrivals) → AllFit n past → Alike ours n past
