-- Worked cases of the rules, as rows of one table: what is so before a slot, what arrives, and what is claimed. Assumes nothing.
-- Every cell carries 64 zeros.
use Rattle.std.specs.Prelude.{◌≡◌, ℕ, Bool, true, false, not, List, [], ◌∷◌, ◌++◌, map, length, replicate, Some, None, Option}
use Rattle.std.specs.List.{range_with_len, AllByRecursion}
use Rattle.crossbox.specs.declared.Arrival.{Arrival}
use Rattle.crossbox.specs.declared.Arrival.TheVariants.{Nothing, For}
use Rattle.crossbox.specs.declared.Cell.{Cell}
use Rattle.crossbox.specs.Cells.{Arrivals}
use Rattle.crossbox.specs.Ideal.{queue, departure, rejected}
use Rattle.crossbox.specs.Box.{Box, arrive, depart, departs, held_for, room_for}
use Rattle.crossbox.specs.Matching.{after_asks, find}
use Rattle.words.specs.Numbers.{slot_kind}
use Rattle.words.specs.Spelling.{spell}
use Rattle.switch.specs.Respond.{SlotIn, respond}
use Rattle.switch.specs.Respond.Status.{Running}
use Rattle.cases.specs.Writing.{cell, signs, slots, box_of}
use Rattle.cases.specs.Manner.{ours, after, found}

-- what is so before a slot: these slots have been, or, in some slot, a box has these lists and stores
pub data Before : Type 0 where
  After : List Arrivals → Before
  Standing : (t : ℕ) → (lists stores : List (List Cell)) → Before

-- what may be claimed of a slot
pub data Claim : Type 0 where
  -- before it, so many cells are held for an output
  Held : (o k : ℕ) → Claim
  -- before it, these cells stand in the store of an output
  Stands : (o : ℕ) → List Cell → Claim
  -- what arrives by an input finds so many cells in the store of its output
  Finds : (i k : ℕ) → Claim
  -- the cell that arrives by an input is turned away, or not
  Away : (i : ℕ) → Bool → Claim
  -- when cells have arrived, these wait at an input
  Waits : (i : ℕ) → List Cell → Claim
  -- after so many asks an input keeps this cell
  Keeps : (k i : ℕ) → Cell → Claim
  -- after so many asks an input has refused an output
  Refuses : (k i o : ℕ) → Claim
  -- these cells are transferred for the first time, the highest input first
  First : List Cell → Claim
  -- this cell leaves by an output, or none
  Leaves : (o : ℕ) → Option Cell → Claim
  -- these cells are transferred for the second time, the highest input first
  Second : List Cell → Claim
  -- these bytes are the answer
  Answer : List ℕ → Claim

-- a row of the table: how many lines there are, what is so before a slot, what arrives in it, and what is claimed of it
pub record Case : Type 0 where
  pub lines : ℕ
  pub before : Before
  pub arrives : Arrivals
  pub claims : List Claim

-- the number of the slot
abbrev pub number : Before → ℕ
number (After past) = length past
number (Standing t lists stores) = t

-- the box before the slot
abbrev pub standing : ℕ → Before → Box
standing n (After past) = after ours n past
standing n (Standing t lists stores) = box_of lists stores

-- the box when cells have arrived, b being the box before
abbrev pub come : Case → Box → Box
come c b = arrive 256 c.lines (number c.before) c.arrives b

-- what is so of the ideal box too, where the slots so far are known
abbrev pub Ideally : Before → (List Arrivals → Type 0) → Type 0
Ideally (After past) P = P past
Ideally (Standing t lists stores) P = Unit {0}

-- what arrives finds k cells in the store of its output
abbrev pub FindsStored : Box → ℕ → Arrival → Type 0
FindsStored b k Nothing = ⊥
FindsStored b k (For o) = length (b.store o) ≡ k

-- what every cell carries here
abbrev pub zeros : List ℕ
zeros = replicate 64 0

-- the word of a slot of n lines
abbrev pub word_of : ℕ → Arrivals → List ℕ
word_of n a = slot_kind ∷ spell (map (λ i. record { arrival = a i; body = zeros }) (range_with_len 0 n))

-- slots with what their cells carry
abbrev pub carried : List Arrivals → List SlotIn
carried past = map (λ a. record { arrivals = a; bodies = λ i. zeros }) past

-- the answer to a slot, where the slots so far are known
abbrev pub answer : ℕ → Before → Arrivals → Option (List ℕ)
answer n (After past) a = Some (respond (Running n (carried past)) (word_of n a)).1
answer n (Standing t lists stores) a = None

-- a claim holds of a case, b being the box before
abbrev pub Holds : Case → Box → Claim → Type 0
Holds c b (Held o k) =
    (held_for c.lines o b ≡ k)
    × Ideally c.before (λ past. length (queue 256 c.lines o past) ≡ k)
Holds c b (Stands o cs) = b.store o ≡ cs
Holds c b (Finds i k) = FindsStored b k (c.arrives i)
Holds c b (Away i away) =
    (room_for 256 c.lines i c.arrives b (c.arrives i) ≡ not away)
    × Ideally c.before (λ past. rejected 256 c.lines i past c.arrives ≡ away)
Holds c b (Waits i cs) = (come c b).waiting i ≡ cs
Holds c b (Keeps k i d) = (after_asks k c.lines (come c b)).kept i ≡ Some d
Holds c b (Refuses k i o) = (after_asks k c.lines (come c b)).refused i o ≡ true
Holds c b (First ms) = find c.lines (come c b) ≡ ms
Holds c b (Leaves o x) =
    (departs o (found c.lines (come c b)) ≡ x) × Ideally c.before (λ past. departure 256 c.lines o past c.arrives ≡ x)
Holds c b (Second ms) = find c.lines (depart (found c.lines (come c b))) ≡ ms
Holds c b (Answer bytes) = answer c.lines c.before c.arrives ≡ Some bytes

-- A. In slot 0 two cells for output 0 come to two lines. The first leaves at once, the second is transferred behind it.
abbrev pub case_a : Case
case_a =
    record {
      lines = 2;
      before = After [];
      arrives = signs "00";
      claims =
          First (cell 0 0 0 ∷ [])
          ∷ Leaves 0 (Some (cell 0 0 0))
          ∷ Leaves 1 None
          ∷ Second (cell 0 1 0 ∷ [])
          ∷ Answer (3 ∷ 0 ∷ 0 ∷ 0 ∷ 0 ∷ 0 ∷ (zeros ++ (255 ∷ 0 ∷ 0 ∷ [])))
          ∷ [];
    }

-- B. In slot 1 after A a cell for output 1 comes by input 0: it finds nothing in its store, and two cells leave.
abbrev pub case_b : Case
case_b =
    record {
      lines = 2;
      before = After (slots ("00" ∷ []));
      arrives = signs "1-";
      claims =
          Finds 0 0
          ∷ First (cell 1 0 1 ∷ [])
          ∷ Leaves 0 (Some (cell 0 1 0))
          ∷ Leaves 1 (Some (cell 1 0 1))
          ∷ [];
    }

-- C. The store of output 0 has two cells, and one for output 1 waits at input 1. A cell for output 0 that comes by input 1 finds
-- the two, and stands second in its list, which is shorter.
abbrev pub case_c : Case
case_c =
    record {
      lines = 2;
      before = Standing 5 ([] ∷ (cell 4 1 1 ∷ []) ∷ []) ((cell 3 0 0 ∷ cell 4 0 0 ∷ []) ∷ [] ∷ []);
      arrives = signs "-0";
      claims = Finds 1 2 ∷ Waits 1 (cell 4 1 1 ∷ cell 5 1 0 ∷ []) ∷ [];
    }

-- D. The store of output 0 has cells, so at input 0 the older cell for 0 stands behind the new one for 1; another for 1 waits at input 1.
-- Output 0 asks input 0 and is kept; output 1 asks input 0, its cell stands first, and output 0 is refused. One cell goes over.
abbrev pub case_d : Case
case_d =
    record {
      lines = 3;
      before = After (slots ("000" ∷ "000" ∷ "0--" ∷ []));
      arrives = signs "11-";
      claims =
          Stands 0 (cell 1 0 0 ∷ cell 1 1 0 ∷ cell 1 2 0 ∷ [])
          ∷ Waits 0 (cell 3 0 1 ∷ cell 2 0 0 ∷ [])
          ∷ Waits 1 (cell 3 1 1 ∷ [])
          ∷ Waits 2 []
          ∷ Keeps 1 0 (cell 2 0 0)
          ∷ Keeps 2 0 (cell 3 0 1)
          ∷ Refuses 2 0 0
          ∷ First (cell 3 0 1 ∷ [])
          ∷ [];
    }

-- E. In the second transfer after D input 0 sends its cell for output 0, and input 1 its for 1.
abbrev pub case_e : Case
case_e =
    record {
      lines = 3;
      before = After (slots ("000" ∷ "000" ∷ "0--" ∷ []));
      arrives = signs "11-";
      claims = Second (cell 3 1 1 ∷ cell 2 0 0 ∷ []) ∷ [];
    }

-- F. For output 3 255 cells are held, and two more come, by inputs 0 and 1. The second is turned away, though one leaves in this slot.
abbrev pub case_f : Case
case_f =
    record {
      lines = 4;
      before = After (slots (replicate 85 "3333"));
      arrives = signs "33--";
      claims =
          Held 3 255
          ∷ Away 0 false
          ∷ Away 1 true
          ∷ Leaves 3 (Some (cell 21 1 3))
          ∷ Answer (3 ∷ 255 ∷ 255 ∷ 255 ∷ 1 ∷ 0 ∷ 0 ∷ 0 ∷ 21 ∷ (zeros ++ (0 ∷ 1 ∷ 0 ∷ 0 ∷ [])))
          ∷ [];
    }

-- G. Nothing comes and nothing is held: the answer has 255 for every output, and 0 for every input.
abbrev pub case_g : Case
case_g =
    record {
      lines = 32;
      before = After [];
      arrives = signs "";
      claims = Answer (3 ∷ (replicate 32 255 ++ replicate 32 0)) ∷ [];
    }

-- the table
abbrev pub cases : List Case
cases = case_a ∷ case_b ∷ case_c ∷ case_d ∷ case_e ∷ case_f ∷ case_g ∷ []

-- all claims of a case hold
abbrev pub CaseHolds : Case → Type 0
CaseHolds c = AllByRecursion (Holds c (standing c.lines c.before)) c.claims

-- Every case of the table holds.
abbrev pub CasesHold : Type 0
CasesHold = AllByRecursion CaseHolds cases
