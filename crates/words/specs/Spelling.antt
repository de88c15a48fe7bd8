-- Which bytes are which lines, as a relation, and what the reader makes of it.
use Rattle.std.specs.Prelude.{◌≡◌, ℕ, List, [], ◌∷◌, ◌++◌, length, Some, ◌≢◌}
use Rattle.crossbox.specs.declared.Arrival.{Arrival}
use Rattle.crossbox.specs.declared.Arrival.TheVariants.{Nothing, For}
use Rattle.words.specs.Numbers.{no_cell}
use Rattle.words.specs.Lines.{Line, read_lines}

-- the bytes are these lines one after the other, with bodies of `size` bytes
pub data Spells : ℕ → List Line → List ℕ → Type 0 where
  none : {size : ℕ} → Spells size [] []
  nothing : {size : ℕ} {ls : List Line} {bytes : List ℕ} →
      Spells size ls bytes → Spells size (record { arrival = Nothing; body = [] } ∷ ls) (no_cell ∷ bytes)
  cell : {size : ℕ} {ls : List Line} {bytes : List ℕ} (o : ℕ) (body : List ℕ) →
      (o ≢ no_cell) → length body ≡ size → Spells size ls bytes →
      Spells size (record { arrival = For o; body = body } ∷ ls) (o ∷ (body ++ bytes))

-- the reader reads lines just where the bytes are these lines, and as many as it was told
abbrev pub ReadIsSpelled : Type 0
ReadIsSpelled = (size k : ℕ) (ls : List Line) (bytes : List ℕ) →
    (read_lines size k bytes ≡ Some ls → Spells size ls bytes × (length ls ≡ k))
    × (Spells size ls bytes → length ls ≡ k → read_lines size k bytes ≡ Some ls)

-- a line's bytes: 255 for nothing, else the output and the body
abbrev pub line_bytes : Arrival → List ℕ → List ℕ
line_bytes Nothing body = no_cell ∷ []
line_bytes (For o) body = o ∷ body

-- lines written one after the other
abbrev pub spell : List Line → List ℕ
spell [] = []
spell (l ∷ ls) = line_bytes l.arrival l.body ++ spell ls

-- a line that can be written: no body with nothing, and `size` bytes with an output, which is not 255
abbrev pub Formed : ℕ → Arrival → List ℕ → Type 0
Formed size Nothing body = body ≡ []
Formed size (For o) body = (o ≢ no_cell) × (length body ≡ size)

-- lines that can be written
abbrev pub AllFormed : ℕ → List Line → Type 0
AllFormed size [] = Unit {0}
AllFormed size (l ∷ ls) = Formed size l.arrival l.body × AllFormed size ls

-- what is written is read back
abbrev pub WrittenIsRead : Type 0
WrittenIsRead = (size : ℕ) (ls : List Line) → AllFormed size ls → read_lines size (length ls) (spell ls) ≡ Some ls
