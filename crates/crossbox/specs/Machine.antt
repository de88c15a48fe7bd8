-- The ideal box as a plain machine, and what ties it to the queues of the definitions. Assumes nothing.
use Rattle.std.specs.Prelude.{◌≡◌, ℕ, suc, List, [], ◌∷◌, length}
use Rattle.crossbox.specs.declared.Cell.{Cell}
use Rattle.crossbox.specs.Cells.{Arrivals}
use Rattle.crossbox.specs.Ideal.{admitted, rest, queue}

-- all that the machine has: its queues, and the number of the slot to come
pub record Machine : Type 0 where
  pub queues : ℕ → List Cell
  pub now : ℕ

-- before the first slot
abbrev pub start : Machine
start = record { queues = λ o. []; now = 0 }

-- one slot: cells are put to the ends of the queues, and then the first of each queue leaves
abbrev pub step : ℕ → ℕ → Arrivals → Machine → Machine
step room n a m =
    record { queues = λ o. rest (admitted room n m.now o a (m.queues o)); now = suc m.now }

-- the machine after these slots, the latest first
unfoldable pub run : ℕ → ℕ → List Arrivals → Machine
run room n [] = start
run room n (a ∷ past) = step room n a (run room n past)

-- After any slots the machine's queues are those of the definitions, and it has counted the slots.
abbrev pub MachineIsQueues : Type 0
MachineIsQueues =
    (room n : ℕ) (past : List Arrivals) →
    ((run room n past).now ≡ length past) × ((o : ℕ) → (run room n past).queues o ≡ queue room n o past)
