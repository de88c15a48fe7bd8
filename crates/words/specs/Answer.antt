-- A slot's answer: its bytes, and that they tell which cells leave and which were turned away.
use Rattle.std.specs.Prelude.{◌≡◌, ℕ, zero, suc, ◌+◌, ◌*◌, ◌^◌, ◌<◌, Bool, cond, List, [], ◌∷◌, ◌++◌, length, take, drop, Some, None, Option, ◌==◌, nat_lt, slice_index}
use Rattle.crossbox.specs.declared.Cell.{Cell}
use Rattle.words.specs.Numbers.{body_bytes, no_cell, answer_kind}
use Rattle.words.specs.Writing.{overwrite, idle, departure_bytes}

-- what leaves by one output: a cell with what it carries, or none
abbrev pub Departure : Type 0
Departure = Option (Cell × List ℕ)

-- the bytes of one output's departure
abbrev pub leaving : Departure → List ℕ
leaving None = idle
leaving (Some d) = departure_bytes d.0 d.1

-- the departures of all outputs, one after the other
unfoldable pub leaving_all : List Departure → List ℕ
leaving_all [] = []
leaving_all (d ∷ ds) = leaving d ++ leaving_all ds

-- for each input 1 if its cell was turned away, else 0
unfoldable pub flag_bytes : List Bool → List ℕ
flag_bytes [] = []
flag_bytes (away ∷ flags) = cond away 1 0 ∷ flag_bytes flags

-- a slot's answer: its kind, what leaves by each output, and which inputs' cells were turned away
abbrev pub answer_bytes : List Departure → List Bool → List ℕ
answer_bytes ds flags = answer_kind ∷ (leaving_all ds ++ flag_bytes flags)

-- a buffer that was `start` now begins with this answer, and `at` is the place behind it
pub record Written (start out : List ℕ) (at : ℕ) (ds : List Departure) (flags : List Bool) : Type 0 where
  pub bytes : out ≡ overwrite 0 (answer_bytes ds flags) start
  pub next : at ≡ length (answer_bytes ds flags)

-- the number that four bytes give, high byte first
abbrev pub from_big_endian4 : List ℕ → ℕ
from_big_endian4 bytes = slice_index bytes 0 * 16777216 + slice_index bytes 1 * 65536 + slice_index bytes 2 * 256 + slice_index bytes 3

-- the departure by an output, and the bytes behind it
unfoldable pub read_departure : ℕ → List ℕ → Option (Departure × List ℕ)
read_departure o [] = None
read_departure o (i ∷ bytes) =
    cond (i == no_cell) (Some (None, bytes))
    (cond (nat_lt (length bytes) (4 + body_bytes)) None
    (Some (Some (record { slot = from_big_endian4 bytes; input = i; output = o }, take body_bytes (drop 4 bytes)), drop (4 + body_bytes) bytes)))

-- a departure before those that were read behind it
abbrev pub departure_before : Departure → Option (List Departure × List ℕ) → Option (List Departure × List ℕ)
departure_before d None = None
departure_before d (Some ds) = Some (d ∷ ds.0, ds.1)

-- a departure that was read, and what is read of the bytes behind it
abbrev pub departure_then : Option (Departure × List ℕ) → (List ℕ → Option (List Departure × List ℕ)) → Option (List Departure × List ℕ)
departure_then None next = None
departure_then (Some d) next = departure_before d.0 (next d.1)

-- so many departures, from an output on, and the bytes behind them
unfoldable pub read_departures : ℕ → ℕ → List ℕ → Option (List Departure × List ℕ)
read_departures o zero bytes = Some ([], bytes)
read_departures o (suc k) bytes = departure_then (read_departure o bytes) (read_departures (suc o) k)

-- a flag before those that were read behind it
abbrev pub flag_before : Bool → Option (List Bool) → Option (List Bool)
flag_before away None = None
flag_before away (Some flags) = Some (away ∷ flags)

-- so many flags, that end where the bytes end
unfoldable pub read_flags : ℕ → List ℕ → Option (List Bool)
read_flags zero [] = Some []
read_flags zero (b ∷ bytes) = None
read_flags (suc k) [] = None
read_flags (suc k) (b ∷ bytes) = flag_before (b == 1) (read_flags k bytes)

-- departures beside flags
abbrev pub beside : List Departure → Option (List Bool) → Option (List Departure × List Bool)
beside ds None = None
beside ds (Some flags) = Some (ds, flags)

-- departures that were read, and n flags behind them
abbrev pub flags_behind : ℕ → Option (List Departure × List ℕ) → Option (List Departure × List Bool)
flags_behind n None = None
flags_behind n (Some ds) = beside ds.0 (read_flags n ds.1)

-- what an answer of n lines says
abbrev pub read_answer : ℕ → List ℕ → Option (List Departure × List Bool)
read_answer n [] = None
read_answer n (kind ∷ bytes) = cond (kind == answer_kind) (flags_behind n (read_departures 0 n bytes)) None

-- a departure by an output that an answer can tell
abbrev pub Leaves : ℕ → Departure → Type 0
Leaves o None = Unit {0}
Leaves o (Some d) = (d.0.input < no_cell) × (d.0.slot < 2 ^ 32) × (d.0.output ≡ o) × (length d.1 ≡ body_bytes)

-- departures by the outputs from one on
abbrev pub AllLeave : ℕ → List Departure → Type 0
AllLeave o [] = Unit {0}
AllLeave o (d ∷ ds) = Leaves o d × AllLeave (suc o) ds

-- an answer's bytes tell the departures and the flags
abbrev pub AnswerIsRead : Type 0
AnswerIsRead = (n : ℕ) (ds : List Departure) (flags : List Bool) →
    AllLeave 0 ds → length ds ≡ n → length flags ≡ n → read_answer n (answer_bytes ds flags) ≡ Some (ds, flags)
