-- The ideal box over lent memory, as a box that shows a status. Assumes nothing.
use Rattle.std.specs.Prelude.{◌≡◌, ℕ, ◌<◌, List, map, length}
use Rattle.crossbox.specs.declared.Cell.{Cell}
use Rattle.crossbox.specs.Ideal.{queue}
use Rattle.buffer.specs.Memory.{Held, held}
use Rattle.ideal.specs.State.{State, Good}
use Rattle.switch.specs.Respond.{Status, SlotIn, arrived, body_in}
use Rattle.switch.specs.Respond.Status.{Unset, Running}

-- a cell with the bytes with which it came
abbrev pub dressed : List SlotIn → Cell → Held
dressed past c = record { cell = c; body = body_in past c }

-- a running box: its queues are those of the ideal box after these slots, each cell with its bytes
pub record Runs (s : State) (n : ℕ) (past : List SlotIn) : Type 0 where
  pub good : Good s
  pub set : 0 < n
  pub lines : s.lines ≡ n
  pub slots : s.slots ≡ length past
  pub queues : (o : ℕ) → o < n → held s.mem o ≡ map (dressed past) (queue 256 n o (arrived past))

-- the box shows a status
abbrev pub Shows : State → Status → Type 0
Shows s Unset = Good s × (s.lines ≡ 0)
Shows s (Running n past) = Runs s n past
