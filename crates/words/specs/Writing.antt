-- The bytes of an answer, and what writing them into a buffer leaves.
use Rattle.std.specs.Prelude.{ℕ, ◌+◌, ◌/◌, ◌%◌, List, [], ◌∷◌, ◌++◌, length, take, drop, replicate}
use Rattle.crossbox.specs.declared.Cell.{Cell}
use Rattle.words.specs.declared.fault.Fault.{Fault}
use Rattle.words.specs.Fault.{number}
use Rattle.words.specs.Numbers.{longest_answer, no_cell, refusal_kind}

-- a buffer with these bytes from a place on, and all else as it was
unfoldable pub overwrite : ℕ → List ℕ → List ℕ → List ℕ
overwrite at bytes out = take at out ++ (bytes ++ drop (at + length bytes) out)

-- an answer while it is written: the buffer, and how many bytes of it are the answer so far
pub record Draft : Type 0 where
  pub bytes : List ℕ
  pub len : ℕ

-- nothing is written yet
abbrev pub blank : Draft
blank = record { bytes = replicate longest_answer 0; len = 0 }

-- begun anew, over the same bytes
abbrev pub cleared : Draft → Draft
cleared a = record { bytes = a.bytes; len = 0 }

-- with these bytes behind the answer so far, and all else of the buffer as it was
abbrev pub appended : List ℕ → Draft → Draft
appended bs a = record { bytes = overwrite a.len bs a.bytes; len = a.len + length bs }

-- a number of 32 bits, high byte first
abbrev pub big_endian4 : ℕ → List ℕ
big_endian4 x = (x / 16777216 % 256) ∷ ((x / 65536 % 256) ∷ ((x / 256 % 256) ∷ ((x % 256) ∷ [])))

-- where no cell leaves
abbrev pub idle : List ℕ
idle = no_cell ∷ []

-- a cell that leaves: its input, the slot in which it arrived, and what it carries
abbrev pub departure_bytes : Cell → List ℕ → List ℕ
departure_bytes c body = c.input ∷ (big_endian4 c.slot ++ body)

-- a refusal: its kind and the number of its cause
abbrev pub refusal_bytes : Fault → List ℕ
refusal_bytes fault = refusal_kind ∷ (number fault ∷ [])
