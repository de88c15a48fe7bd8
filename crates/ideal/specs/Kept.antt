-- What a slot and new settings leave as it was in lent memory, and what they read of it. Assumes nothing.
use Rattle.std.specs.Prelude.{◌≡◌, ℕ, ◌*◌, ◌<◌, ◌≤◌, false, ◌⊎◌, List, [], get_or, slice_index_or}
use Rattle.crossbox.specs.declared.Arrival.TheVariants.{For}
use Rattle.places.specs.Memory.{Mem, head_at}
use Rattle.places.specs.Lent.{lent_to, beyond, within}
use Rattle.words.specs.Lines.{Line, no_line}
use Rattle.ideal.specs.State.{State, Good, begun}
use Rattle.ideal.specs.Steps.{Reads, lines_of, away, served}

-- a box to which no more is lent than n lines need: 257 places and 512 entries of rows for each
abbrev pub cut : ℕ → State → State
cut n s = record { mem = within (257 * n) (512 * n) s.mem; lines = s.lines; slots = s.slots }

-- A slot leaves what lies beyond the settings as it was, and what it does within does not depend on it.
abbrev pub SlotStaysWithin : Type 0
SlotStaysWithin =
    (s : State) (bytes : List ℕ) → Good s → Reads s.lines bytes →
    (beyond (257 * s.lines) (512 * s.lines) (lent_to (served (lines_of s.lines bytes) s).mem) ≡ beyond (257 * s.lines) (512 * s.lines) (lent_to s.mem)) ×
    (cut s.lines (served (lines_of s.lines bytes) s) ≡ served (lines_of s.lines bytes) (cut s.lines s))

-- So do new settings.
abbrev pub SettingsStayWithin : Type 0
SettingsStayWithin =
    (s : State) (n : ℕ) → Good s → n ≤ 32 →
    (beyond (257 * n) (512 * n) (lent_to (begun n s).mem) ≡ beyond (257 * n) (512 * n) (lent_to s.mem)) ×
    (cut n (begun n s) ≡ begun n (cut n s))

-- place p was free, and has the bytes of a cell that arrived by one of the first k inputs and was not turned away
pub record PutThere (s : State) (ls : List Line) (k : ℕ) (after : Mem) (p : ℕ) : Type 0 where
  pub input : ℕ
  pub output : ℕ
  pub there : input < k
  pub arrives : (get_or ls input no_line).arrival ≡ For output
  pub taken : away s.slots ls s.mem input ≡ false
  pub free : (head_at s.mem p).owner ≡ 0
  pub bytes : get_or after.cells p [] ≡ (get_or ls input no_line).body

-- A slot changes a place's bytes only where a cell is put there.
abbrev pub PlacesKept : Type 0
PlacesKept =
    (s : State) (bytes : List ℕ) → Good s → Reads s.lines bytes → (p : ℕ) →
    (slice_index_or (served (lines_of s.lines bytes) s).mem.cells p [] ≡ slice_index_or s.mem.cells p []) ⊎
    PutThere s (lines_of s.lines bytes) s.lines (served (lines_of s.lines bytes) s).mem p
