-- What holds before each ask of the loop: its arrays and sets are the model's finding. Assumes nothing.
use Rattle.std.specs.Prelude.{◌≡◌, ℕ, Bool, cond, not, ◌&&◌, ◌||◌, List, Some, ◌==◌, slice_index, slice_index_or, slice_set}
use Rattle.crossbox.specs.declared.Arrival.{Arrival}
use Rattle.crossbox.specs.declared.Arrival.TheVariants.{Nothing, For}
use Rattle.crossbox.specs.declared.Cell.{Cell}
use Rattle.crossbox.specs.Box.{Box}
use Rattle.crossbox.specs.Matching.{Finding, is_for, content, waits_at}
use Rattle.matching.specs.declared.Firsts.{Firsts}
use Rattle.bits.specs.Bits.{is_set, Lowest}
use Rattle.matching.specs.Table.{first_for, shown}
use Rattle.matching.specs.Asking.{names, Earliest, prefers_in}

-- whether output o may still ask input i: a cell waits there, it has not been refused, and none for it is kept
abbrev pub may_ask : Box → Finding → ℕ → ℕ → Bool
may_ask b s i o = waits_at b i o && (not (s.refused i o) && not (is_for o (s.kept i)))

-- what the loop has: the choice so far, for each output the inputs that it may still ask, and the outputs that ask
pub record State : Type 0 where
  pub choice : List Arrival
  pub askable : List ℕ
  pub asking : ℕ

-- the choice has what each input keeps, which is the first cell of its pair, and an output asks that is not content and may ask
-- some input
pub record Tied (n : ℕ) (b : Box) (s : Finding) (st : State) : Type 0 where
  pub keeps : (i : ℕ) → slice_index_or st.choice i Nothing ≡ shown (s.kept i)
  pub leads : (i : ℕ) (c : Cell) → s.kept i ≡ Some c → first_for c.output (b.waiting i) ≡ Some c
  pub left : (i o : ℕ) → is_set (slice_index st.askable o) i ≡ may_ask b s i o
  pub asks : (o : ℕ) → is_set st.asking o ≡ (not (content n o s) && not (slice_index st.askable o == 0))

-- the state when output o has asked input i: what the input keeps now, and `row` and `now` in place of what o may ask and who asks
abbrev pub turned : State → ℕ → ℕ → Arrival → ℕ → ℕ → State
turned st o i keeps row now =
    record { choice = slice_set st.choice i keeps; askable = slice_set st.askable o row; asking = now }

-- one turn of the loop: the lowest output that asks asks the input with the earliest cell, which keeps one and refuses the other
pub record Turn (t : Firsts) (st : State) (o i : ℕ) (keeps refuses : Arrival) (row now : ℕ) : Type 0 where
  pub low : Lowest st.asking o
  pub best : Earliest t.slots o (slice_index st.askable o) i
  pub one : keeps ≡ cond (prefers_in t.places i o (slice_index_or st.choice i Nothing)) (For o) (slice_index_or st.choice i Nothing)
  pub other : refuses ≡ cond (prefers_in t.places i o (slice_index_or st.choice i Nothing)) (slice_index_or st.choice i Nothing) (For o)
  pub cleared : (j : ℕ) → is_set row j ≡ (not (j == i) && is_set (slice_index st.askable o) j)
  pub again : (p : ℕ) → is_set now p ≡ ((names p refuses && not (slice_index (slice_set st.askable o row) p == 0)) || (not (p == o) && is_set st.asking p))
