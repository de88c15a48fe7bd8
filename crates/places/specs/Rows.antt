-- Parts of rows of places, moved. Assumes nothing.
use Rattle.std.specs.Prelude.{ℕ, ◌-◌, List, ◌∷◌, ◌++◌, length, take, drop}

-- moved up by one, with x at the front; the last value is given up
abbrev pub moved_up : ℕ → List ℕ → List ℕ
moved_up x xs = take (length xs) (x ∷ xs)

-- moved down by n, over the first n values; the last n are left where they stood
abbrev pub slid_down : ℕ → List ℕ → List ℕ
slid_down n xs = drop n xs ++ drop (length xs - n) xs

-- moved down by one, over the first value; the last value then stands twice
abbrev pub moved_down : List ℕ → List ℕ
moved_down xs = slid_down 1 xs

-- a list with its part from a to e changed by f
abbrev pub edited : ℕ → ℕ → (List ℕ → List ℕ) → List ℕ → List ℕ
edited a e f xs = take a xs ++ (f (take (e - a) (drop a xs)) ++ drop (e - a) (drop a xs))
