-- Lines of hexadecimal digits: a word to a line, two digits to a byte. Assumes nothing.
use Rattle.std.specs.Prelude.{ℕ, ◌+◌, ◌-◌, ◌*◌, ◌/◌, ◌%◌, Bool, cond, ◌&&◌, ◌||◌, List, [], ◌∷◌, ◌++◌, Some, None, Option, ◌==◌, nat_le, nat_lt}
use Rattle.std.specs.Option.{option_map}
use Rattle.frames.specs.Streams.{Taken, Split, split}

-- what ends a line
abbrev pub line_feed : ℕ
line_feed = 10

-- how many values a digit has
abbrev pub digit_values : ℕ
digit_values = 16

-- how many digits a byte has
abbrev pub digits_per_byte : ℕ
digits_per_byte = 2

-- space, tab and carriage return are passed over
unfoldable pub blank : ℕ → Bool
blank c = c == 32 || (c == 9 || c == 13)

-- a character between two others
abbrev pub within : ℕ → ℕ → ℕ → Bool
within low high c = nat_le low c && nat_le c high

-- the value of the digit `a`
abbrev pub letter_value : ℕ
letter_value = 10

-- the value of a digit, `0` to `9` (48 to 57), `a` to `f` (97 to 102) or `A` to `F` (65 to 70)
unfoldable pub digit_value : ℕ → Option ℕ
digit_value c =
    cond (within 48 57 c) (Some (c - 48))
    (cond (within 97 102 c) (Some (c - 97 + letter_value))
    (cond (within 65 70 c) (Some (c - 65 + letter_value)) None))

-- the digit of a value, `0` to `9` or `a` to `f`
unfoldable pub digit : ℕ → ℕ
digit v = cond (nat_lt v letter_value) (v + 48) (v - letter_value + 97)

-- a digit's value in front of others
abbrev pub before : Option ℕ → Option (List ℕ) → Option (List ℕ)
before None vs = None
before (Some v) vs = option_map (λ rest. v ∷ rest) vs

-- the values of a line's digits; None where a character is neither digit nor blank
unfoldable pub digit_values_of : List ℕ → Option (List ℕ)
digit_values_of [] = Some []
digit_values_of (c ∷ cs) = cond (blank c) (digit_values_of cs) (before (digit_value c) (digit_values_of cs))

-- the bytes that the values of digits spell two by two; None where one is left over
unfoldable pub paired : List ℕ → Option (List ℕ)
paired [] = Some []
paired (high ∷ []) = None
paired (high ∷ low ∷ vs) = option_map (λ rest. (high * digit_values + low) ∷ rest) (paired vs)

-- the bytes that the values of digits spell, where there are such values
abbrev pub paired_if : Option (List ℕ) → Option (List ℕ)
paired_if None = None
paired_if (Some vs) = paired vs

-- the word that a line spells, its line feed left out; None where it spells no row of whole bytes
abbrev pub unhex : List ℕ → Option (List ℕ)
unhex line = paired_if (digit_values_of line)

-- the digits of a word
unfoldable pub digits : List ℕ → List ℕ
digits [] = []
digits (b ∷ bs) = digit (b / digit_values) ∷ digit (b % digit_values) ∷ digits bs

-- a line with its line feed
abbrev pub ended : List ℕ → List ℕ
ended line = line ++ line_feed ∷ []

-- the line of a word
abbrev pub hex_line : List ℕ → List ℕ
hex_line w = ended (digits w)

-- a character in front of the line that was taken
abbrev pub longer : ℕ → Taken → Taken
longer c None = None
longer c (Some p) = Some (c ∷ p.0, p.1)

-- the first line without its line feed, and the bytes behind it; None where there is no line feed
unfoldable pub next_line : List ℕ → Taken
next_line [] = None
next_line (c ∷ cs) = cond (c == line_feed) (Some ([], cs)) (longer c (next_line cs))

-- all whole lines at the start of the bytes, and what is left
abbrev pub lines : List ℕ → Split
lines bytes = split next_line bytes
