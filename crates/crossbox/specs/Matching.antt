-- How a stable choice is found: outputs ask for cells, and inputs keep or refuse. Assumes nothing.
-- `n` is the number of inputs and of outputs, `b` the box, `s` what has been kept and refused so far.
use Rattle.std.specs.Prelude.{◌≡◌, ℕ, zero, suc, ◌+◌, ◌<◌, ◌≤◌, Bool, true, false, cond, ◌&&◌, ◌||◌, ◌⊎◌, List, [], ◌∷◌, ◌++◌, Some, None, Option, ◌==◌, nat_lt}
use Rattle.crossbox.specs.declared.Cell.{Cell}
use Rattle.crossbox.specs.Cells.{Arrivals, ahead, earliest}
use Rattle.crossbox.specs.Box.{Box, Stable, Run, arrived, departed, for_output}
use Rattle.crossbox.specs.Shape.{WellPlaced, InOrder}
use Rattle.crossbox.specs.Promise.{Fits, AllFit}

-- what each input keeps, which outputs it has refused, and how often outputs have asked
pub record Finding : Type 0 where
  pub kept : ℕ → Option Cell
  pub refused : ℕ → ℕ → Bool
  pub asks : ℕ

-- before the first ask
abbrev pub unasked : Finding
unasked = record { kept = λ i. None; refused = λ i o. false; asks = 0 }

-- whether what an input keeps is for output o
abbrev pub is_for : ℕ → Option Cell → Bool
is_for o None = false
is_for o (Some c) = c.output == o

-- whether output o is content: one of the first inputs keeps a cell for it
unfoldable pub content : ℕ → ℕ → Finding → Bool
content zero o s = false
content (suc n) o s = is_for o (s.kept n) || content n o s

-- the cells that wait for output o at those of the first inputs that have not refused it
unfoldable pub unrefused : ℕ → ℕ → Box → Finding → List Cell
unrefused zero o b s = []
unrefused (suc n) o b s = cond (s.refused n o) [] (for_output o (b.waiting n)) ++ unrefused n o b s

-- what output o asks for: if it is not content, the earliest of those
abbrev pub wanted : ℕ → ℕ → Box → Finding → Option Cell
wanted n o b s = cond (content n o s) None (earliest (unrefused n o b s))

-- the first of two, or else the second
abbrev pub or_else : Option Cell → Option Cell → Option Cell
or_else None y = y
or_else (Some c) y = Some c

-- what is asked for next, by the lowest of the first k outputs that asks for anything
unfoldable pub next_ask : ℕ → ℕ → Box → Finding → Option Cell
next_ask n zero b s = None
next_ask n (suc k) b s = or_else (next_ask n k b s) (wanted n k b s)

-- whether an input that is asked for a cell keeps it: it keeps nothing yet, or a cell that stands behind
abbrev pub prefers : Box → Cell → Option Cell → Bool
prefers b c None = true
prefers b c (Some d) = nat_lt (ahead c (b.waiting c.input)) (ahead d (b.waiting c.input))

-- input i keeps cell c
abbrev pub keeping : ℕ → Cell → (ℕ → Option Cell) → ℕ → Option Cell
keeping i c kept j = cond (j == i) (Some c) (kept j)

-- input i refuses the output of a cell, if there is one
abbrev pub refusing : ℕ → Option Cell → (ℕ → ℕ → Bool) → ℕ → ℕ → Bool
refusing i None refused j o = refused j o
refusing i (Some d) refused j o = (j == i && d.output == o) || refused j o

-- a cell is asked for, where its input keeps x: the input keeps the cell and refuses x, or refuses the cell
abbrev pub answered : Box → Cell → Option Cell → Finding → Finding
answered b c x s =
    cond (prefers b c x)
    (record { kept = keeping c.input c s.kept; refused = refusing c.input x s.refused; asks = suc s.asks })
    (record { kept = s.kept; refused = refusing c.input (Some c) s.refused; asks = suc s.asks })

-- a cell is asked for, if there is one
abbrev pub asked : Box → Option Cell → Finding → Finding
asked b None s = s
asked b (Some c) s = answered b c (s.kept c.input) s

-- the finding after k asks, or when it has ended
unfoldable pub after_asks : ℕ → ℕ → Box → Finding
after_asks zero n b = unasked
after_asks (suc k) n b = asked b (next_ask n n b (after_asks k n b)) (after_asks k n b)

-- how many of the first k numbers pass a test
unfoldable pub count : (ℕ → Bool) → ℕ → ℕ
count p zero = 0
count p (suc k) = cond (p k) 1 0 + count p k

-- how many pairs of one of the first k inputs and one of the first n outputs pass a test
unfoldable pub count_pairs : (ℕ → ℕ → Bool) → ℕ → ℕ → ℕ
count_pairs p zero n = 0
count_pairs p (suc k) n = count (p k) n + count_pairs p k n

-- whether a list has any cell
abbrev pub some : List Cell → Bool
some [] = false
some (c ∷ cs) = true

-- whether a cell for output o waits at input i
abbrev pub waits_at : Box → ℕ → ℕ → Bool
waits_at b i o = some (for_output o (b.waiting i))

-- how many pairs of an input and an output have a waiting cell
abbrev pub pairs : ℕ → Box → ℕ
pairs n b = count_pairs (waits_at b) n n

-- a list with one cell more, if there is one
abbrev pub with_kept : Option Cell → List Cell → List Cell
with_kept None cs = cs
with_kept (Some c) cs = c ∷ cs

-- what the first n inputs keep
unfoldable pub chosen : ℕ → Finding → List Cell
chosen zero s = []
chosen (suc n) s = with_kept (s.kept n) (chosen n s)

-- the choice that is found
abbrev pub find : ℕ → Box → List Cell
find n b = chosen n (after_asks (pairs n b) n b)

-- the finding has ended: each output is content, or has been refused all
abbrev pub Ended : ℕ → Box → Finding → Type 0
Ended n b s = (o : ℕ) → o < n → (content n o s ≡ true) ⊎ (unrefused n o b s ≡ [])

-- What is found is a stable choice.
abbrev pub FoundIsStable : Type 0
FoundIsStable = (n : ℕ) (b : Box) → WellPlaced n b → InOrder b → Stable b (find n b)

-- After as many asks as there are pairs with a waiting cell, the finding has ended.
abbrev pub FindingEnds : Type 0
FindingEnds = (n : ℕ) (b : Box) → WellPlaced n b → Ended n b (after_asks (pairs n b) n b)

-- When the finding has ended, it stays as it is.
abbrev pub EndedStays : Type 0
EndedStays =
    (n : ℕ) (b : Box) (k : ℕ) → Ended n b (after_asks k n b) → (j : ℕ) → after_asks (j + k) n b ≡ after_asks k n b

-- There are never more asks than pairs with a waiting cell.
abbrev pub AsksAreFew : Type 0
AsksAreFew = (n : ℕ) (b : Box) → WellPlaced n b → (k : ℕ) → (after_asks k n b).asks ≤ pairs n b

-- So what is found may be transferred in every run, for the first time in a slot
abbrev pub FoundInRun : Type 0
FoundInRun =
    (room n : ℕ) (past : List Arrivals) (b : Box) → AllFit n past → Run room n past b → (a : Arrivals) → Fits n a → Stable (arrived room n past a b) (find n (arrived room n past a b))

-- and for the second.
abbrev pub FoundInRunAgain : Type 0
FoundInRunAgain =
    (room n : ℕ) (past : List Arrivals) (b : Box) → AllFit n past → Run room n past b → (a : Arrivals) → Fits n a → (ms : List Cell) → Stable (arrived room n past a b) ms → Stable (departed room n past a ms b) (find n (departed room n past a ms b))
