-- Why a word is refused, by number.
use Rattle.std.specs.Prelude.{ℕ}
use Rattle.words.specs.declared.fault.Fault.{Fault}
use Rattle.words.specs.declared.fault.Fault.TheVariants.{Malformed, LineCount, NoSuchOutput, SlotLimit, NotWaiting, SharedOutput, Unstable}

-- the number of a cause
abbrev pub number : Fault → ℕ
number Malformed = 1
number LineCount = 2
number NoSuchOutput = 3
number SlotLimit = 4
number NotWaiting = 5
number SharedOutput = 6
number Unstable = 7
