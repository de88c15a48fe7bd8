-- Parts of rows of places, moved by one. Assumes nothing.
use Rattle.std.specs.Prelude.{ℕ, ◌-◌, List, ◌∷◌, ◌++◌, length, take, drop}

-- moved up by one, with x at the front; the last value is given up
abbrev pub moved_up : ℕ → List ℕ → List ℕ
moved_up x xs = take (length xs) (x ∷ xs)

-- moved down by one, over the first value; the last value then stands twice
abbrev pub moved_down : List ℕ → List ℕ
moved_down xs = drop 1 xs ++ drop (length xs - 1) xs

-- a list with its part from a to e changed by f
abbrev pub edited : ℕ → ℕ → (List ℕ → List ℕ) → List ℕ → List ℕ
edited a e f xs = take a xs ++ (f (take (e - a) (drop a xs)) ++ drop (e - a) (drop a xs))
