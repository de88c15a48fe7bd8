-- Slack: by how much the earlier cells in its store outnumber the cells ahead of a waiting cell, and what each step does to it.
-- Assumes nothing.
use Rattle.std.specs.Prelude.{◌≡◌, ℕ, suc, ◌+◌, ◌≤◌, true, List}
use Rattle.crossbox.specs.declared.Cell.{Cell}
use Rattle.crossbox.specs.Cells.{Arrivals, is_in, ahead, count_earlier}
use Rattle.crossbox.specs.Box.{Box, Stable, arrive, transfer, depart}
use Rattle.crossbox.specs.Shape.{Rising, StoredBefore}

-- every waiting cell has at least k more earlier cells in its store than cells ahead in its list
abbrev pub Slack : ℕ → Box → Type 0
Slack k b =
    (c : Cell) → is_in c (b.waiting c.input) ≡ true → k + ahead c (b.waiting c.input) ≤ count_earlier c (b.store c.output)

-- Arriving takes at most one from the slack.
abbrev pub ArriveSlack : Type 0
ArriveSlack =
    (room n t : ℕ) (a : Arrivals) (b : Box) → StoredBefore t b → Slack 1 b → Slack 0 (arrive room n t a b)

-- Transferring a stable choice adds at least one.
abbrev pub TransferSlack : Type 0
TransferSlack = (k : ℕ) (b : Box) (ms : List Cell) → Stable b ms → Slack k b → Slack (suc k) (transfer ms b)

-- Departing takes at most one.
abbrev pub DepartSlack : Type 0
DepartSlack = (k : ℕ) (b : Box) → Rising b → Slack (suc k) b → Slack k (depart b)
