-- The numbers that words are made of.
use Rattle.std.specs.Prelude.{ℕ}

-- the most lines in, and the most lines out
abbrev pub most_lines : ℕ
most_lines = 32

-- the bytes that a cell carries
abbrev pub body_bytes : ℕ
body_bytes = 64

-- the longest answer: its kind, 32 departures, and a flag for each of 32 inputs
abbrev pub longest_answer : ℕ
longest_answer = 2241

-- the byte that stands for no cell
abbrev pub no_cell : ℕ
no_cell = 255

-- the kinds of words, by their first byte
abbrev pub settings_kind : ℕ
settings_kind = 1

abbrev pub slot_kind : ℕ
slot_kind = 2

abbrev pub answer_kind : ℕ
answer_kind = 3

abbrev pub choice_kind : ℕ
choice_kind = 4

abbrev pub refusal_kind : ℕ
refusal_kind = 5
