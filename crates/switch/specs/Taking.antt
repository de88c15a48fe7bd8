-- What a box does with a word, step by step: it begins anew, or serves a slot, or refuses. Assumes nothing.
use Rattle.std.specs.Prelude.{◌≡◌, ℕ, ◌*◌, ◌<◌, false, ◌⊎◌, List, [], ◌∷◌, map, get_or, Ok, Err, Result, slice_index_or}
use Rattle.std.specs.List.{range_with_len}
use Rattle.crossbox.specs.declared.Arrival.TheVariants.{For}
use Rattle.crossbox.specs.Ideal.{departure, rejected}
use Rattle.places.specs.Head.{vacant}
use Rattle.buffer.specs.Memory.{Lent}
use Rattle.buffer.specs.Lent.{beyond}
use Rattle.words.specs.declared.fault.Fault.{Fault}
use Rattle.words.specs.Lines.{Line}
use Rattle.words.specs.Answer.{Written}
use Rattle.words.specs.Writing.{Draft, cleared}
use Rattle.switch.specs.Respond.{Status, Verdict, SlotIn, arrived, slot_of, with_body}
use Rattle.switch.specs.Respond.Status.{Unset, Running}
use Rattle.switch.specs.Respond.Verdict.{Refuse, Begin, Take}

-- a box began anew with n lines: what lies beyond them is as it was, and so are all places' bytes
pub record Begins (shows : Status → Type 0) (width n : ℕ) (before after : Lent) : Type 0 where
  pub shown : shows (Running n [])
  pub left : beyond (257 * n) (width * n) after ≡ beyond (257 * n) (width * n) before
  pub cells : after.cells ≡ before.cells

-- a place has the bytes of a cell of this slot that was not turned away, and was free before
pub record PutIn (n : ℕ) (past : List SlotIn) (ls : List Line) (before after : Lent) (p : ℕ) : Type 0 where
  pub input : ℕ
  pub output : ℕ
  pub there : input < n
  pub arrives : (slot_of ls).arrivals input ≡ For output
  pub taken : rejected 256 n input (arrived past) (slot_of ls).arrivals ≡ false
  pub free : (get_or before.heads p vacant).owner ≡ 0
  pub bytes : get_or after.cells p [] ≡ (slot_of ls).bodies input

-- a slot was served: the box runs on with it, its answer is the ideal box's, what lies beyond the settings is as it was, and so are
-- a place's bytes, unless a cell is put there
pub record Serves (shows : Status → Type 0) (width n : ℕ) (past : List SlotIn) (ls : List Line) (before after : Lent) (out written : Draft) : Type 0 where
  pub shown : shows (Running n (slot_of ls ∷ past))
  pub answer : Written out.bytes written.bytes written.len
      (map (λ o. with_body (slot_of ls ∷ past) (departure 256 n o (arrived past) (slot_of ls).arrivals)) (range_with_len 0 n))
      (map (λ i. rejected 256 n i (arrived past) (slot_of ls).arrivals) (range_with_len 0 n))
  pub left : beyond (257 * n) (width * n) after ≡ beyond (257 * n) (width * n) before
  pub places : (p : ℕ) → (slice_index_or after.cells p [] ≡ slice_index_or before.cells p []) ⊎ PutIn n past ls before after p

-- what was decided is done: a refusal gives its fault and changes nothing, settings have no answer, and a slot is served
abbrev pub Takes : {S : Type 0} → (S → Status → Type 0) → (S → Lent) → ℕ → Status → S → S → Result (Unit {0}) Fault → Draft → Draft → Verdict → Type 0
Takes shows lent width st s after r out written (Refuse fault) = (r ≡ Err fault) × (after ≡ s) × (written ≡ out)
Takes shows lent width st s after r out written (Begin n) =
    (r ≡ Ok tt) × Begins (shows after) width n (lent s) (lent after) × (written ≡ cleared out)
Takes shows lent width Unset s after r out written (Take ls) = ⊥
Takes shows lent width (Running n past) s after r out written (Take ls) =
    (r ≡ Ok tt) × Serves (shows after) width n past ls (lent s) (lent after) out written
