-- One ask over the table: which input an output asks, and what that input answers. Assumes nothing.
use Rattle.std.specs.Prelude.{◌≡◌, ℕ, ◌+◌, ◌*◌, ◌%◌, ◌<◌, ◌≤◌, Bool, true, false, List, ◌==◌, nat_lt, slice_index}
use Rattle.crossbox.specs.declared.Arrival.{Arrival}
use Rattle.crossbox.specs.declared.Arrival.TheVariants.{Nothing, For}
use Rattle.bits.specs.Bits.{is_set}

-- whether a choice names output o
abbrev pub names : ℕ → Arrival → Bool
names o Nothing = false
names o (For p) = p == o

-- an output that a choice names is one of the first 32
abbrev pub Small : Arrival → Type 0
Small Nothing = Unit {0}
Small (For p) = p < 32

-- a number for the first cell of input i for output o: the slot, and in one slot the input, decide which is smaller
abbrev pub key_of : List ℕ → ℕ → ℕ → ℕ
key_of slots o i = slice_index slots (o * 32 + i) * 32 + i

-- i is one of these inputs, and none of them has an earlier first cell for output o
pub record Earliest (slots : List ℕ) (o inputs i : ℕ) : Type 0 where
  pub small : i < 32
  pub among : is_set inputs i ≡ true
  pub least : (j : ℕ) → is_set inputs j ≡ true → key_of slots o i ≤ key_of slots o j

-- while these inputs are looked through: `least` is the least number of those that are no longer in `rest`
pub record LeastSoFar (slots : List ℕ) (o inputs rest least : ℕ) : Type 0 where
  pub among : is_set inputs (least % 32) ≡ true
  pub number : least ≡ key_of slots o (least % 32)
  pub seen : (j : ℕ) → is_set inputs j ≡ true → is_set rest j ≡ false → least ≤ key_of slots o j
  pub within : (j : ℕ) → is_set rest j ≡ true → is_set inputs j ≡ true

-- whether input i, asked by output o, keeps that cell: it kept none, or one that stands behind it
abbrev pub prefers_in : List ℕ → ℕ → ℕ → Arrival → Bool
prefers_in places i o Nothing = true
prefers_in places i o (For d) = nat_lt (slice_index places (i * 32 + o)) (slice_index places (i * 32 + d))
