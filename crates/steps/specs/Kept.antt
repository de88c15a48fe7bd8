-- What arrivals, transfers, departures and new settings leave as it was in lent memory, and what they read of it. Assumes nothing.
use Rattle.std.specs.Prelude.{◌≡◌, ℕ, ◌*◌, ◌<◌, ◌≤◌, true, false, ◌⊎◌, List, [], get_or, slice_index_or}
use Rattle.crossbox.specs.declared.Arrival.TheVariants.{For}
use Rattle.crossbox.specs.Cells.{Arrivals}
use Rattle.crossbox.specs.Promise.{Fits}
use Rattle.places.specs.Memory.{Mem, head_at}
use Rattle.places.specs.Lent.{lent_to, beyond, within}
use Rattle.words.specs.Lines.{Line, no_line}
use Rattle.steps.specs.State.{State, Good, Counted, begun}
use Rattle.steps.specs.Spells.{box_of}
use Rattle.steps.specs.Arrivals.{Brings, arrivals_of, admit_all, away}
use Rattle.steps.specs.Choice.{all_wait}
use Rattle.steps.specs.Transfers.{transfer_all}
use Rattle.steps.specs.Departures.{depart_all}

-- a box to which no more is lent than n lines need: 257 places for each, and two rows of 8224
abbrev pub cut : ℕ → State → State
cut n s =
    record { mem = within (257 * n) (16448 * n) s.mem; counts = s.counts; lines = s.lines; slots = s.slots; firsts = s.firsts }

-- What f makes of a box is within what n lines need: the rest is left as it was, and not read.
pub record StaysWithin (n : ℕ) (f : State → State) (s : State) : Type 0 where
  pub left : beyond (257 * n) (16448 * n) (lent_to (f s).mem) ≡ beyond (257 * n) (16448 * n) (lent_to s.mem)
  pub unread : cut n (f s) ≡ f (cut n s)

-- lines bring nothing, or cells for outputs that are there
abbrev pub Bring : ℕ → List Line → Type 0
Bring n ls = (i : ℕ) → i < n → Brings n (arrivals_of ls i) (get_or ls i no_line).body

-- Arrivals stay within the settings.
abbrev pub ArrivalsStayWithin : Type 0
ArrivalsStayWithin =
    (s : State) (ls : List Line) → Good s → Bring s.lines ls → StaysWithin s.lines (admit_all ls s.lines) s

-- So does the transfer of what a choice names, if all of it waits.
abbrev pub TransferStaysWithin : Type 0
TransferStaysWithin =
    (s : State) (ch : Arrivals) → Good s → Fits s.lines ch → all_wait s.lines ch (box_of s.lines s.mem) ≡ true →
    StaysWithin s.lines (transfer_all s.lines ch) s

-- So do departures.
abbrev pub DeparturesStayWithin : Type 0
DeparturesStayWithin = (s : State) → Good s → Counted s → StaysWithin s.lines (depart_all s.lines) s

-- So do new settings.
abbrev pub SettingsStayWithin : Type 0
SettingsStayWithin = (s : State) (n : ℕ) → Good s → n ≤ 32 → StaysWithin n (begun n) s

-- place p was free, and has the bytes of a cell that arrived by one of the first k inputs and was not turned away
pub record PutThere (s : State) (ls : List Line) (k : ℕ) (after : Mem) (p : ℕ) : Type 0 where
  pub input : ℕ
  pub output : ℕ
  pub there : input < k
  pub arrives : arrivals_of ls input ≡ For output
  pub taken : away ls s input ≡ false
  pub free : (head_at s.mem p).owner ≡ 0
  pub bytes : get_or after.cells p [] ≡ (get_or ls input no_line).body

-- Arrivals change a place's bytes only where a cell is put there; transfers, departures and new settings change none.
pub record PlacesKept : Type 0 where
  pub arrivals : (s : State) (ls : List Line) → Good s → Bring s.lines ls → (p : ℕ) →
      (slice_index_or (admit_all ls s.lines s).mem.cells p [] ≡ slice_index_or s.mem.cells p []) ⊎
      PutThere s ls s.lines (admit_all ls s.lines s).mem p
  pub transfers : (s : State) (ch : Arrivals) (k : ℕ) → (transfer_all k ch s).mem.cells ≡ s.mem.cells
  pub departures : (s : State) (k : ℕ) → (depart_all k s).mem.cells ≡ s.mem.cells
  pub settings : (s : State) (n : ℕ) → (begun n s).mem.cells ≡ s.mem.cells
