use Rattle.std.proofs.Common.{◌≡◌, ◌+◌, ◌*◌, ◌≤◌, drop, vec_items, vec_len, vec_capacity}
use Rattle.frames.specs.Hex.{unhex}
use Rattle.frames.specs.Reading.{comes_to, begun, Digit}
use Rattle.frames.proofs.hex.read_hex.Given as goal

abbrev pub invariant-loop-c : goal.invariant-loop-c
invariant-loop-c l =
    (comes_to l.reading (vec_items l.word) (drop l.c-index l.line) ≡ unhex l.line)
    × Digit l.reading
    × (2 * vec_len l.word + begun l.reading ≤ l.c-index)
    × (vec_capacity l.word ≡ vec_capacity l.initial.word)
