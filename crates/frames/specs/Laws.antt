-- What the theorems say of frames and lines. Assumes nothing.
use Rattle.std.specs.Prelude.{◌≡◌, ℕ, ◌+◌, ◌<◌, ◌≤◌, true, List, ◌∷◌, ◌++◌, map, length, Some, None}
use Rattle.std.specs.List.{flat_map, AllByRecursion}
use Rattle.frames.specs.Streams.{Taken, Split, split, split_after}
use Rattle.frames.specs.Frames.{byte_values, frame_limit, framed, next_frame, frames}
use Rattle.frames.specs.Hex.{blank, digits, ended, hex_line, unhex, next_line, lines}

-- Bytes are split by taking the first word and splitting what is behind it.
abbrev pub SplitsInTurn : (List ℕ → Taken) → Type 0
SplitsInTurn next = (bytes : List ℕ) → split next bytes ≡ split_after (split next) bytes (next bytes)

-- the words of two splits, and what the second leaves
abbrev pub then_split : Split → Split → Split
then_split s t = (s.0 ++ t.0, t.1)

-- Bytes that come in two pieces: the second is split behind what the first left, and no word is lost or made.
abbrev pub SplitsByPieces : (List ℕ → Taken) → Type 0
SplitsByPieces next =
    (bytes more : List ℕ) →
    split next (bytes ++ more) ≡ then_split (split next bytes) (split next ((split next bytes).1 ++ more))

-- Frames are split in turn and by pieces.
abbrev pub FramesSplit : Type 0
FramesSplit = SplitsInTurn next_frame × SplitsByPieces next_frame

-- A word is read back from its frame, whatever comes behind it.
abbrev pub FrameRoundTrip : Type 0
FrameRoundTrip =
    (w rest : List ℕ) → length w < frame_limit → next_frame (framed w ++ rest) ≡ Some (w, rest)

-- Words are read back from their frames, and behind them stays what begins no whole frame.
abbrev pub FramesRoundTrip : Type 0
FramesRoundTrip =
    (ws : List (List ℕ)) (tail : List ℕ) →
    AllByRecursion (λ w. length w < frame_limit) ws → next_frame tail ≡ None → frames (flat_map framed ws ++ tail) ≡ (ws, tail)

-- Bytes are the frames of their words and what is left behind them, which begins no whole frame.
abbrev pub FramesRejoin : Type 0
FramesRejoin =
    (bytes : List ℕ) →
    AllByRecursion (λ b. b < byte_values) bytes →
    (bytes ≡ flat_map framed (frames bytes).0 ++ (frames bytes).1) × (next_frame (frames bytes).1 ≡ None)

-- Lines are split in turn and by pieces.
abbrev pub LinesSplit : Type 0
LinesSplit = SplitsInTurn next_line × SplitsByPieces next_line

-- A word of bytes is read back from its digits.
abbrev pub DigitsRoundTrip : Type 0
DigitsRoundTrip = (w : List ℕ) → AllByRecursion (λ b. b < byte_values) w → unhex (digits w) ≡ Some w

-- The digits of a word are read back from its line, whatever comes behind it.
abbrev pub LineRoundTrip : Type 0
LineRoundTrip = (w rest : List ℕ) → next_line (hex_line w ++ rest) ≡ Some (digits w, rest)

-- The digits of words are read back from their lines, and behind them stays what holds no line feed.
abbrev pub LinesRoundTrip : Type 0
LinesRoundTrip =
    (ws : List (List ℕ)) (tail : List ℕ) →
    next_line tail ≡ None → lines (flat_map hex_line ws ++ tail) ≡ (map digits ws, tail)

-- Bytes are their lines and what is left behind them, which holds no line feed.
abbrev pub LinesRejoin : Type 0
LinesRejoin =
    (bytes : List ℕ) →
    (bytes ≡ flat_map ended (lines bytes).0 ++ (lines bytes).1) × (next_line (lines bytes).1 ≡ None)

-- A blank changes no word, wherever it stands.
abbrev pub BlanksPass : Type 0
BlanksPass = (front back : List ℕ) (c : ℕ) → blank c ≡ true → unhex (front ++ c ∷ back) ≡ unhex (front ++ back)

-- A capital `A` to `F` (65 to 70) is read as the small letter, which is 32 more.
abbrev pub CapitalsAreRead : Type 0
CapitalsAreRead =
    (front back : List ℕ) (c : ℕ) →
    65 ≤ c → c ≤ 70 → unhex (front ++ c ∷ back) ≡ unhex (front ++ (c + 32) ∷ back)
