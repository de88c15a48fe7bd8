-- Frames: each word is preceded by its length in two bytes, the high byte first. Assumes nothing.
use Rattle.std.specs.Prelude.{ℕ, ◌+◌, ◌*◌, ◌/◌, ◌%◌, cond, List, [], ◌∷◌, length, take, drop, Some, None, nat_le}
use Rattle.frames.specs.Streams.{Taken, Split, split}

-- how many values a byte has
abbrev pub byte_values : ℕ
byte_values = 256

-- a frame holds words shorter than this
abbrev pub frame_limit : ℕ
frame_limit = byte_values * byte_values

-- the frame of a word
abbrev pub framed : List ℕ → List ℕ
framed w = length w / byte_values ∷ length w % byte_values ∷ w

-- the first so many bytes as a word, where there are as many
abbrev pub taken : ℕ → List ℕ → Taken
taken size bytes = cond (nat_le size (length bytes)) (Some (take size bytes, drop size bytes)) None

-- the word of the first frame, and the bytes behind it; None where the bytes end before the frame does
abbrev pub next_frame : List ℕ → Taken
next_frame [] = None
next_frame (high ∷ []) = None
next_frame (high ∷ low ∷ bytes) = taken (high * byte_values + low) bytes

-- the words of all whole frames at the start of the bytes, and what is left
abbrev pub frames : List ℕ → Split
frames bytes = split next_frame bytes
