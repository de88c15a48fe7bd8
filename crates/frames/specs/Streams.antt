-- Words taken one after the other from the start of a stream of bytes. Assumes nothing.
use Rattle.std.specs.Prelude.{ℕ, zero, suc, List, [], ◌∷◌, length, Some, None, Option}

-- what can be taken from the start of some bytes: a word with the bytes behind it, or nothing yet
abbrev pub Taken : Type 0
Taken = Option (List ℕ × List ℕ)

-- words in their order, and the bytes that are left behind them
abbrev pub Split : Type 0
Split = List (List ℕ) × List ℕ

-- the bytes, split after what was taken from their start: `rest` splits the bytes behind the word
abbrev pub split_after : (List ℕ → Split) → List ℕ → Taken → Split
split_after rest bytes None = ([], bytes)
split_after rest bytes (Some p) = (p.0 ∷ (rest p.1).0, (rest p.1).1)

-- the first words that `next` takes one after the other, at most so many, and what is left
unfoldable pub split_most : (List ℕ → Taken) → ℕ → List ℕ → Split
split_most next zero bytes = ([], bytes)
split_most next (suc most) bytes = split_after (split_most next most) bytes (next bytes)

-- all words that `next` takes one after the other, and what is left: a word takes a byte at least
abbrev pub split : (List ℕ → Taken) → List ℕ → Split
split next bytes = split_most next (length bytes) bytes
