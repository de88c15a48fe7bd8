-- The real box over lent memory, as plain lists and numbers. Assumes nothing.
use Rattle.std.specs.Prelude.{◌≡◌, ℕ, ◌+◌, ◌*◌, ◌<◌, ◌≤◌, List, length, replicate, sum, slice_index}
use Rattle.std.specs.List.{AllByRecursion}
use Rattle.crossbox.specs.declared.Cell.{Cell}
use Rattle.buffer.specs.Memory.{Mem, view, Sound, row_length, reset}
use Rattle.buffer.specs.declared.memory.Memory.{Memory}
use Rattle.cioq.specs.Spells.{cells}

-- all that there is: the memory, whose row i is the list of input i and row n + o the store of output o, how many cells are held
-- for each output, the number of lines, and how many slots there were
pub record State : Type 0 where
  pub mem : Mem
  pub counts : List ℕ
  pub lines : ℕ
  pub slots : ℕ

-- a box of these parts
abbrev pub seen : Memory 64 8224 → List ℕ → ℕ → ℕ → State
seen m counts lines slots = record { mem = view m; counts = counts; lines = lines; slots = slots }

-- how many cells are held for output o
abbrev pub count_of : State → ℕ → ℕ
count_of s o = slice_index s.counts o

-- Memory is sound, has a place more than 256 for each line, and all places are free or counted, at most 256 for an output.
pub record Good (s : State) : Type 0 where
  pub sound : Sound s.mem
  pub rooms : s.mem.room ≡ 8224
  pub rows : s.mem.count ≡ 64
  pub places : s.mem.places ≡ 257 * s.lines
  pub few : s.lines ≤ 32
  pub outputs : length s.counts ≡ 32
  pub full : (o : ℕ) → count_of s o ≤ 256
  pub idle : (o : ℕ) → s.lines ≤ o → count_of s o ≡ 0
  pub whole : s.mem.free + sum s.counts ≡ 257 * s.lines
  pub heads_lent : 8224 ≤ length s.mem.heads
  pub cells_lent : 8224 ≤ length s.mem.cells
  pub spare_lent : 8224 ≤ length s.mem.spare

-- of the cells in the store of an output none is uncounted
abbrev pub Counted : State → Type 0
Counted s = (o : ℕ) → o < s.lines → row_length s.mem (s.lines + o) ≤ count_of s o

-- every waiting cell is for one of 32 outputs
abbrev pub Aimed : State → Type 0
Aimed s = (i : ℕ) → i < s.lines → AllByRecursion (λ (c : Cell). c.output < 32) (cells s.mem i)

-- before the first settings
abbrev pub unset : Mem → State
unset m = record { mem = m; counts = replicate 32 0; lines = 0; slots = 0 }

-- anew and empty, with so many lines
abbrev pub begun : ℕ → State → State
begun n s = record { mem = reset (257 * n) s.mem; counts = replicate 32 0; lines = n; slots = 0 }

-- a slot later
abbrev pub passed : State → State
passed s = record { mem = s.mem; counts = s.counts; lines = s.lines; slots = s.slots + 1 }
