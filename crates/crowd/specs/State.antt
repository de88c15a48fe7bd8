-- A crowd in memory, and the status that it shows. Assumes nothing.
use Rattle.std.specs.Prelude.{◌≡◌, ℕ, zero, suc, ◌<◌, Bool, false, ◌&&◌, List, [], ◌∷◌, ◌++◌, length, take, Ok, Err, Result, nat_lt, slice_index_or}
use Rattle.crossbox.specs.declared.Arrival.{Arrival}
use Rattle.crossbox.specs.declared.Cell.{Cell}
use Rattle.crossbox.specs.Box.{Box, Run, Stable, transfer, departed}
use Rattle.crossbox.specs.Box as model
use Rattle.crossbox.specs.Promise.{AllFit}
use Rattle.words.specs.declared.fault.Fault.{Fault}
use Rattle.words.specs.Lines.{Line, read_lines, judge}
use Rattle.words.specs.Writing.{Draft, appended, cleared, refusal_bytes}
use Rattle.words.specs.Answer.{Departure, Written}
use Rattle.cioq.specs.State.{Good, begun, passed}
use Rattle.cioq.specs.State as real
use Rattle.cioq.specs.Spells.{Spells, Counts, box_of}
use Rattle.cioq.specs.Arrivals.{arrivals_of, admit_all, away, lines_or}
use Rattle.cioq.specs.Choice.{choice_of, judge_choice}
use Rattle.cioq.specs.Transfers.{transfer_all}
use Rattle.cioq.specs.Departures.{depart_all, departure_of}
use Rattle.switch.specs.Respond.{SlotIn, arrived, body_in}
use Rattle.crowd.specs.declared.Due.{Due}
use Rattle.crowd.specs.declared.Due.TheVariants as due
use Rattle.crowd.specs.Crowd.{Status, turns_away}
use Rattle.crowd.specs.Crowd.Status.{Unset, SlotDue, FirstDue, SecondDue}

-- all that there is: the real box, what is due, and by input what the slot turned away
pub record State : Type 0 where
  pub real : real.State
  pub due : Due
  pub away : List Bool

-- a crowd of these parts
abbrev pub seen : real.State → Due → List Bool → State
seen box d flags = record { real = box; due = d; away = flags }

-- memory spells a box of n lines after these slots, each cell with the bytes with which it came
pub record Holds (s : real.State) (n : ℕ) (past : List SlotIn) (b : Box) : Type 0 where
  pub good : Good s
  pub set : 0 < n
  pub lines : s.lines ≡ n
  pub slots : s.slots ≡ length past
  pub fit : AllFit n (arrived past)
  pub spells : Spells (body_in past) n s.mem b
  pub counts : Counts n s.counts b

-- the boxes within a slot, when its cells have arrived, and what it turned away
pub data Arrived (n : ℕ) : List SlotIn → Box → List Bool → Type 0 where
  arrives : {past : List SlotIn} {b : Box} (s : SlotIn) → Run 256 n (arrived past) b → Arrived n (s ∷ past) (model.arrived 256 n (arrived past) s.arrivals b) (turns_away n b s.arrivals)

-- the boxes within a slot, when a stable choice has been transferred and the earliest have departed
pub data Departed (n : ℕ) : List SlotIn → Box → Type 0 where
  departs : {past : List SlotIn} {b : Box} (s : SlotIn) (ms : List Cell) → Run 256 n (arrived past) b → Stable (model.arrived 256 n (arrived past) s.arrivals b) ms → Departed n (s ∷ past) (departed 256 n (arrived past) s.arrivals ms b)

-- the crowd shows a status: its box is one that stable choices reach
abbrev pub Shows : State → Status → Type 0
Shows s Unset = Good s.real × (s.due ≡ due.Unset) × (s.real.lines ≡ 0)
Shows s (SlotDue n past b) = Holds s.real n past b × (s.due ≡ due.Slot) × Run 256 n (arrived past) b
Shows s (FirstDue n past b flags) =
    Holds s.real n past b × (s.due ≡ due.First) × Arrived n past b flags × (take n s.away ≡ flags)
Shows s (SecondDue n past b) = Holds s.real n past b × (s.due ≡ due.Second) × Departed n past b

-- what is answered in the end: what was written, or the refusal that is then written over it
abbrev pub Told : Result (Unit {0}) Fault → Draft → Draft → Type 0
Told (Ok u) written told = told ≡ written
Told (Err fault) written told = told ≡ appended (refusal_bytes fault) (cleared written)

-- a refusal was written, and nothing else is changed
pub record Refused (fault : Fault) (s after : State) (out written : Draft) : Type 0 where
  pub same : after ≡ s
  pub told : written ≡ appended (refusal_bytes fault) (cleared out)

-- a settings word was taken or refused
abbrev pub Settled : Result ℕ Fault → State → State → Draft → Draft → Type 0
Settled (Ok n) s after out written =
    (after ≡ record { real = begun n s.real; due = due.Slot; away = s.away }) × (written ≡ cleared out)
Settled (Err fault) s after out written = Refused fault s after out written

-- the cells of a slot have arrived
pub record Taken (ls : List Line) (s after : State) (out written : Draft) : Type 0 where
  pub box : after.real ≡ passed (admit_all ls s.real.lines s.real)
  pub next : after.due ≡ due.First
  pub inputs : length after.away ≡ 32
  pub flags : (i : ℕ) → i < 32 → slice_index_or after.away i false ≡ (nat_lt i s.real.lines && away ls s.real i)
  pub silent : written ≡ cleared out

-- a slot word was taken or refused
abbrev pub Slotted : Result (List Line) Fault → State → State → Draft → Draft → Type 0
Slotted (Ok ls) s after out written = Taken ls s after out written
Slotted (Err fault) s after out written = Refused fault s after out written

-- the n lines of a choice's bytes
abbrev pub choice_lines : ℕ → List ℕ → List Line
choice_lines n bytes = lines_or (read_lines 0 n bytes)

-- the choice of these lines, or the lowest fault
abbrev pub Found : List Line → Result (Unit {0}) Fault → Result (List Arrival) Fault → Type 0
Found ls (Ok u) (Ok choice) = choice_of choice ≡ arrivals_of ls
Found ls (Ok u) (Err found) = ⊥
Found ls (Err fault) (Ok choice) = ⊥
Found ls (Err fault) (Err found) = found ≡ fault

abbrev pub FoundIn : State → Result (List Line) Fault → Result (List Arrival) Fault → Type 0
FoundIn s (Ok ls) r = Found ls (judge_choice s.real.lines (arrivals_of ls) (box_of s.real.lines s.real.mem)) r
FoundIn s (Err fault) (Ok choice) = ⊥
FoundIn s (Err fault) (Err found) = found ≡ fault

-- bytes are read and tested as a choice
abbrev pub Choosing : State → List ℕ → Result (List Arrival) Fault → Type 0
Choosing s bytes r = FoundIn s (judge s.real.lines 0 false bytes) r

-- what leaves by the first k outputs, one after the other
unfoldable pub departures_of : ℕ → real.State → List Departure
departures_of zero s = []
departures_of (suc k) s = departures_of k s ++ (departure_of k (depart_all k s) ∷ [])

-- the real box after a choice
abbrev pub chosen : List Line → State → real.State
chosen ls s = transfer_all s.real.lines (arrivals_of ls) s.real

-- a first choice was taken
pub record First (ls : List Line) (s after : State) (out written : Draft) : Type 0 where
  pub box : after ≡ record { real = depart_all s.real.lines (chosen ls s); due = due.Second; away = s.away }
  pub answer : Written out.bytes written.bytes written.len (departures_of s.real.lines (chosen ls s)) (take s.real.lines s.away)

-- a second choice was taken
pub record Second (ls : List Line) (s after : State) (out written : Draft) : Type 0 where
  pub box : after ≡ record { real = chosen ls s; due = due.Slot; away = s.away }
  pub silent : written ≡ cleared out

-- what a taken choice does, or a refusal
abbrev pub Tried : (List Line → Type 0) → (Fault → Type 0) → List Line → Result (Unit {0}) Fault → Type 0
Tried done refused ls (Ok u) = done ls
Tried done refused ls (Err fault) = refused fault

-- a choice word was taken or refused
abbrev pub Chosen : (List Line → Type 0) → (Fault → Type 0) → State → Result (List Line) Fault → Type 0
Chosen done refused s (Ok ls) =
    Tried done refused ls (judge_choice s.real.lines (arrivals_of ls) (box_of s.real.lines s.real.mem))
Chosen done refused s (Err fault) = refused fault
