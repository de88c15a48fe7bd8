-- What serving a stream of words comes to: the status after them, and their answers. Assumes nothing.
use Rattle.std.specs.Prelude.{◌≡◌, ℕ, ◌+◌, ◌≤◌, Bool, true, false, List, [], ◌∷◌, ◌++◌, map, length, take, drop, Result, MatchResult}
use Rattle.std.specs.List.{flat_map}
use Rattle.std.specs.Option.{unwrap_or}
use Rattle.frames.specs.Streams.{Split}
use Rattle.frames.specs.Frames.{frames}
use Rattle.frames.specs.Hex.{unhex, lines}
use Rattle.switch.specs.Respond.{Status, respond}
use Rattle.serve.specs.declared.whole.ServeError.{ServeError}
use Rattle.serve.specs.declared.whole.ServeError.TheVariants.{TooLittleLent, OutOfMemory}

-- the status after these words
unfoldable pub after : Status → List (List ℕ) → Status
after st [] = st
after st (w ∷ ws) = after (respond st w).0 ws

-- an answer, or nothing where a word has none
abbrev pub given : List ℕ → List (List ℕ)
given [] = []
given (b ∷ bs) = (b ∷ bs) ∷ []

-- the answers to these words in their order
unfoldable pub answers_to : Status → List (List ℕ) → List (List ℕ)
answers_to st [] = []
answers_to st (w ∷ ws) = given (respond st w).1 ++ answers_to (respond st w).0 ws

-- the word of a line; the empty word where the line is no row of whole bytes
abbrev pub word_of : List ℕ → List ℕ
word_of line = unwrap_or (unhex line) []

-- the words of all whole lines at the start of the bytes, and what is left
abbrev pub line_words : List ℕ → Split
line_words bytes = (map word_of (lines bytes).0, (lines bytes).1)

-- what the end of a stream of frames adds: a frame that is cut is no word, and counts as the empty one
abbrev pub cut_frame : List ℕ → List (List ℕ)
cut_frame [] = []
cut_frame (b ∷ bs) = [] ∷ []

-- what the end of a stream of lines adds: a last line needs no line feed
abbrev pub last_line : List ℕ → List (List ℕ)
last_line [] = []
last_line (b ∷ bs) = word_of (b ∷ bs) ∷ []

-- the words of a whole stream of frames
abbrev pub stream_words : List ℕ → List (List ℕ)
stream_words bytes = (frames bytes).0 ++ cut_frame (frames bytes).1

-- the words of a whole stream of lines
abbrev pub text_words : List ℕ → List (List ℕ)
text_words bytes = (line_words bytes).0 ++ last_line (line_words bytes).1

-- all words were served: the box shows the status after them, and behind `out` stand their answers, each spelled so
pub record Served {S : Type 0} (shows : S → Status → Type 0) (spell : List ℕ → List ℕ) (words : List (List ℕ)) (was is : S) (out written : List ℕ) : Type 0 where
  pub shown : (st : Status) → shows was st → shows is (after st words)
  pub answers : (st : Status) → shows was st → written ≡ out ++ flat_map spell (answers_to st words)

-- memory gave out: the answers to the first words were written; the box has taken these, and at most the next one
pub record Stopped {S : Type 0} (shows : S → Status → Type 0) (spell : List ℕ → List ℕ) (words : List (List ℕ)) (was is : S) (out written : List ℕ) : Type 0 where
  pub told : List (List ℕ)
  pub untold : List (List ℕ)
  pub more : ℕ
  pub parts : words ≡ told ++ untold
  pub few : more ≤ 1
  pub there : more ≤ length untold
  pub shown : (st : Status) → shows was st → shows is (after st (told ++ take more untold))
  pub answers : (st : Status) → shows was st → written ≡ out ++ flat_map spell (answers_to st told)

-- all words were served, or memory gave out
abbrev pub Ended : {S E : Type 0} → Result (Unit {0}) E → (S → Status → Type 0) → (List ℕ → List ℕ) → List (List ℕ) → S → S → List ℕ → List ℕ → Type 0
Ended r shows spell words was is out written =
    MatchResult r (λ _. Served shows spell words was is out written) (λ _. Stopped shows spell words was is out written)

-- so many bytes of the input were used, and the rest is what its words leave
pub record Used (used : ℕ) (input left : List ℕ) : Type 0 where
  pub rest : drop used input ≡ left
  pub size : used + length left ≡ length input

-- why a stream was not served: what is lent is too little, or memory gave out
abbrev pub Fails : ServeError → Bool → Type 0
Fails TooLittleLent enough = enough ≡ false
Fails OutOfMemory enough = enough ≡ true
