-- One output's part of an answer: the byte for none, or the 69 bytes of a departure. Assumes nothing.
use Rattle.std.specs.Prelude.{ℕ, zero, suc, min, cond, List, [], ◌∷◌, length, take, drop, ◌==◌}

-- how many bytes a part takes at the front of bytes
abbrev pub part_size : List ℕ → ℕ
part_size [] = 0
part_size (b ∷ bytes) = cond (b == 255) 1 (min (length (b ∷ bytes)) 69)

-- the part at the front of bytes
abbrev pub part : List ℕ → List ℕ
part bytes = take (part_size bytes) bytes

-- the bytes behind it
abbrev pub behind : List ℕ → List ℕ
behind bytes = drop (part_size bytes) bytes

-- the bytes behind so many parts
unfoldable pub behind_all : ℕ → List ℕ → List ℕ
behind_all zero bytes = bytes
behind_all (suc o) bytes = behind (behind_all o bytes)

-- the part of an output
abbrev pub part_of : ℕ → List ℕ → List ℕ
part_of o bytes = part (behind_all o bytes)
