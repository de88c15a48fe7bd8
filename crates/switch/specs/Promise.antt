-- The promise of a box, on the call that takes a word and gives the answer. Assumes nothing.
use Rattle.std.specs.Prelude.{◌≡◌, ℕ, ◌*◌, ◌<◌, false, cond, ◌==◌, ◌⊎◌, List, [], length, get_or, take, drop, slice_index_or}
use Rattle.crossbox.specs.declared.Arrival.TheVariants.{For}
use Rattle.crossbox.specs.Ideal.{rejected}
use Rattle.places.specs.Head.{vacant}
use Rattle.buffer.specs.Memory.{Lent}
use Rattle.buffer.specs.Lent.{beyond}
use Rattle.words.specs.Lines.{Line}
use Rattle.words.specs.Writing.{Draft}
use Rattle.words.specs.declared.fault.Fault.{Fault}
use Rattle.switch.specs.declared.Step.{Step}
use Rattle.switch.specs.declared.Step.TheVariants as step
use Rattle.switch.specs.Respond.Status.{Unset, Running}
use Rattle.switch.specs.Respond.Verdict.{Refuse, Take}
use Rattle.switch.specs.Respond.{Status, SlotIn, arrived, slot_of, decide, respond}

-- what is written is the answer, and the rest of the buffer is as it was
pub record Answers (st : Status) (word : List ℕ) (before after : Draft) : Type 0 where
  pub size : after.len ≡ length (respond st word).1
  pub bytes : take after.len after.bytes ≡ (respond st word).1
  pub rest : drop after.len after.bytes ≡ drop after.len before.bytes

-- the number of lines that a status has
abbrev pub lines_of : Status → ℕ
lines_of Unset = 0
lines_of (Running n past) = n

-- a box with no lines is not set
abbrev pub step_of : ℕ → Step
step_of lines = cond (lines == 0) step.Unset step.Slot

-- a place has the bytes of a cell of this word that was not turned away, and was free before
pub record PutThere (st : Status) (word : List ℕ) (before after : Lent) (p : ℕ) : Type 0 where
  pub n : ℕ
  pub past : List SlotIn
  pub lines : List Line
  pub input : ℕ
  pub output : ℕ
  pub running : st ≡ Running n past
  pub slot : decide st word ≡ Take lines
  pub there : input < n
  pub arrives : (slot_of lines).arrivals input ≡ For output
  pub taken : rejected 256 n input (arrived past) (slot_of lines).arrivals ≡ false
  pub free : (get_or before.heads p vacant).owner ≡ 0
  pub bytes : get_or after.cells p [] ≡ (slot_of lines).bodies input

-- what a word leaves in lent memory: all, if it is refused; what lies beyond the settings, always; and a place's bytes,
-- unless a cell is put there. `width` is how many entries of rows a line takes.
pub record Keeps (width : ℕ) (st : Status) (word : List ℕ) (before after : Lent) : Type 0 where
  pub refused : (fault : Fault) → decide st word ≡ Refuse fault → after ≡ before
  pub unneeded : beyond (257 * lines_of (respond st word).0) (width * lines_of (respond st word).0) after ≡ beyond (257 * lines_of (respond st word).0) (width * lines_of (respond st word).0) before
  pub places : (p : ℕ) → (slice_index_or after.cells p [] ≡ slice_index_or before.cells p []) ⊎ PutThere st word before after p
