-- What a word says of the lines, read from its bytes, and the fault that is found first.
use Rattle.std.specs.Prelude.{ℕ, zero, suc, Bool, true, cond, ◌&&◌, List, [], ◌∷◌, length, take, drop, Some, None, Ok, Err, Option, Result, ◌==◌, nat_le, nat_lt}
use Rattle.crossbox.specs.declared.Arrival.{Arrival}
use Rattle.crossbox.specs.declared.Arrival.TheVariants.{Nothing, For}
use Rattle.words.specs.declared.fault.Fault.{Fault}
use Rattle.words.specs.declared.fault.Fault.TheVariants.{Malformed, LineCount, NoSuchOutput, SlotLimit}
use Rattle.words.specs.declared.read.Entry.{Entry}
use Rattle.words.specs.Numbers.{most_lines, no_cell}

-- the number of lines, of a settings word: its length is judged before its number
abbrev pub settings : List ℕ → Result ℕ Fault
settings [] = Err Malformed
settings (kind ∷ []) = Err Malformed
settings (kind ∷ (n ∷ [])) = cond (nat_le 1 n && nat_le n most_lines) (Ok n) (Err LineCount)
settings (kind ∷ (n ∷ (b ∷ bytes))) = Err Malformed

-- one input's part of a word: what arrives, and its bytes
pub record Line : Type 0 where
  pub arrival : Arrival
  pub body : List ℕ

-- a line by which nothing arrives
abbrev pub no_line : Line
no_line = record { arrival = Nothing; body = [] }

-- one line and the bytes behind it: 255 is nothing, another byte an output with a body of `size` bytes
unfoldable pub read_entry : ℕ → List ℕ → Option (Line × List ℕ)
read_entry size [] = None
read_entry size (b ∷ bytes) =
    cond (b == no_cell) (Some (record { arrival = Nothing; body = [] }, bytes))
    (cond (nat_lt (length bytes) size) None (Some (record { arrival = For b; body = take size bytes }, drop size bytes)))

-- what the code's reader gives, as a line and bytes
abbrev pub entry_of : Option Entry → Option (Line × List ℕ)
entry_of None = None
entry_of (Some e) = Some (record { arrival = e.arrival; body = e.body.now }, e.rest.now)

-- a line before the lines that were read behind it
abbrev pub before : Line → Option (List Line) → Option (List Line)
before l None = None
before l (Some ls) = Some (l ∷ ls)

-- a line that was read, and what is read of the bytes behind it
abbrev pub and_then : Option (Line × List ℕ) → (List ℕ → Option (List Line)) → Option (List Line)
and_then None next = None
and_then (Some entry) next = before entry.0 (next entry.1)

-- so many lines, with bodies of `size` bytes, that end where the bytes end
unfoldable pub read_lines : ℕ → ℕ → List ℕ → Option (List Line)
read_lines size zero [] = Some []
read_lines size zero (b ∷ bytes) = None
read_lines size (suc k) bytes = and_then (read_entry size bytes) (read_lines size k)

-- whether an arrival is for one of n outputs
abbrev pub fits : ℕ → Arrival → Bool
fits n Nothing = true
fits n (For o) = nat_lt o n

-- whether every line is for one of n outputs
unfoldable pub all_fit : ℕ → List Line → Bool
all_fit n [] = true
all_fit n (l ∷ ls) = fits n l.arrival && all_fit n ls

-- lines that were read, or the lowest fault: not read, an output that is not there, too late
abbrev pub judged : ℕ → Bool → Option (List Line) → Result (List Line) Fault
judged n late None = Err Malformed
judged n late (Some ls) = cond (all_fit n ls) (cond late (Err SlotLimit) (Ok ls)) (Err NoSuchOutput)

-- the n lines of a word, or its lowest fault
abbrev pub judge : ℕ → ℕ → Bool → List ℕ → Result (List Line) Fault
judge n size late bytes = judged n late (read_lines size n bytes)

-- whether there is a value, or the fault
abbrev pub verdict : Result (List Line) Fault → Result (Unit {0}) Fault
verdict (Ok ls) = Ok tt
verdict (Err fault) = Err fault
