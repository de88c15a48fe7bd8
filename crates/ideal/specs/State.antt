-- The ideal box over lent memory, as plain lists and numbers. Assumes nothing.
use Rattle.std.specs.Prelude.{◌≡◌, ℕ, ◌*◌, ◌<◌, ◌≤◌, length}
use Rattle.buffer.specs.Memory.{Mem, view, Sound, row_length, reset}
use Rattle.buffer.specs.declared.memory.Memory.{Memory}

-- all that there is: the memory, whose row o is the queue of output o, the number of lines, and how many slots there were
pub record State : Type 0 where
  pub mem : Mem
  pub lines : ℕ
  pub slots : ℕ

-- a box of these parts
abbrev pub seen : Memory 32 256 → ℕ → ℕ → State
seen m lines slots = record { mem = view m; lines = lines; slots = slots }

-- Memory is sound, has a place more than its queue's room for each line, and only queues of lines that are there have cells.
pub record Good (s : State) : Type 0 where
  pub sound : Sound s.mem
  pub rooms : s.mem.room ≡ 256
  pub queues : s.mem.count ≡ 32
  pub places : s.mem.places ≡ 257 * s.lines
  pub few : s.lines ≤ 32
  pub idle : (r : ℕ) → s.lines ≤ r → r < 32 → row_length s.mem r ≡ 0
  pub heads_lent : 8224 ≤ length s.mem.heads
  pub cells_lent : 8224 ≤ length s.mem.cells
  pub spare_lent : 8224 ≤ length s.mem.spare

-- before the first settings
abbrev pub unset : Mem → State
unset m = record { mem = m; lines = 0; slots = 0 }

-- anew and empty, with so many lines
abbrev pub begun : ℕ → State → State
begun n s = record { mem = reset (257 * n) s.mem; lines = n; slots = 0 }
