-- How words are written in a stream. Assumes nothing.
use Rattle.std.specs.Prelude.{ℕ, List, ◌++◌}
use Rattle.frames.specs.Streams.{Taken, Split}
use Rattle.frames.specs.Frames.{framed, next_frame, frames}
use Rattle.frames.specs.Hex.{hex_line, next_line}
use Rattle.serve.specs.declared.form.Form.{Form}
use Rattle.serve.specs.declared.form.Form.TheVariants.{Frames, Lines}
use Rattle.serve.specs.Served.{word_of, line_words, cut_frame, last_line}

-- a word as a form writes it
abbrev pub spelled : Form → List ℕ → List ℕ
spelled Frames = framed
spelled Lines = hex_line

-- what is taken from the start of the bytes: a word as the form writes it, and what is behind it
abbrev pub taken : Form → List ℕ → Taken
taken Frames = next_frame
taken Lines = next_line

-- the word that is written so
abbrev pub word_in : Form → List ℕ → List ℕ
word_in Frames = λ written. written
word_in Lines = word_of

-- the whole words at the start of the bytes, and what is left
abbrev pub cut : Form → List ℕ → Split
cut Frames = frames
cut Lines = line_words

-- what the end of a stream adds
abbrev pub ending : Form → List ℕ → List (List ℕ)
ending Frames = cut_frame
ending Lines = last_line

-- the words of a whole stream
abbrev pub whole_words : Form → List ℕ → List (List ℕ)
whole_words form bytes = (cut form bytes).0 ++ ending form (cut form bytes).1
